-- The truth values that tuples give.
use Rattle.std.proofs.Common.{◌≡◌, ℕ, ◌+◌, Bool, false, List, [], ◌∷◌, ◌++◌, length, get_or, map, refl, sym, ap, ◌∙◌, subst, append_assoc, arith, length-append}
use Rattle.std.specs.Prelude.{Contains}
use Rattle.std.specs.List.{flat_map, range_with_len}
use Rattle.std.specs.Str.{bytes_eq}
use Rattle.std.proofs.Math.Seq.{get_or-append_seam}
use Rattle.std.proofs.lemmas.List.{get_or-append-add, get_or_append_left}
use Rattle.std.proofs.lemmas.List.FromFn.{length-map-range_with_len, get_or-map-range_with_len}
use Rattle.cell_values.specs.declared.which.Which.{Which}
use Rattle.cell_values.specs.declared.which.Which.TheVariants.{Only, First, Second}
use Rattle.cell_values.specs.declared.which.TupleCount.{TupleCount}
use Rattle.cell_values.specs.declared.which.TupleCount.TheVariants.{One, Two}
use Rattle.cell_values.specs.declared.values.CellValues.{CellValues}
use Rattle.cell_values.specs.Layout.{attr_var, value_var, var_width}
use Rattle.cell_values.specs.Standing.{counts_as, Agrees}
use Rattle.cell_values.proofs.Truths.{text_of}
use Rattle.cell_values.proofs.Order.{ArePair, IsWhichOf, offset, Placed, placed_at, placed_by, RisesFrom, value_var_at}

module _ (one other : List (List ℕ)) where
  -- a question about one tuple is about the first of these
  abbrev pub tuple_at : Which → List (List ℕ)
  tuple_at Only = one
  tuple_at First = one
  tuple_at Second = other

  -- which value a tuple's text counts as
  abbrev pub marks : CellValues → List (List ℕ) → List Bool
  marks cell tuple = map (counts_as cell (text_of tuple cell.attr)) (range_with_len 0 (length cell.values))

  abbrev pub block : TupleCount → CellValues → List Bool
  block One cell = marks cell one
  block Two cell = bytes_eq (text_of one cell.attr) (text_of other cell.attr) ∷ (marks cell one ++ marks cell other)

  abbrev pub truth_of : TupleCount → List CellValues → ℕ → Bool
  truth_of count cells v = get_or (flat_map (block count) cells) v false

  -- the variables of an attribute say what the tuples have there
  abbrev pub Tells : TupleCount → (ℕ → Bool) → ℕ → CellValues → Type 0
  Tells count truth first cell =
      (ArePair count → truth first ≡ bytes_eq (text_of one cell.attr) (text_of other cell.attr)) × ((which : Which) → IsWhichOf count which → Agrees truth (first + offset which cell) cell (text_of (tuple_at which) cell.attr))

  marks_count : (cell : CellValues) (tuple : List (List ℕ)) → length (marks cell tuple) ≡ length cell.values
  marks_count cell tuple = length-map-range_with_len (counts_as cell (text_of tuple cell.attr)) 0 (length cell.values)

  -- the marks of a tuple, which stand behind others, are its truth values
  marks_agree : (before rest : List Bool) (cell : CellValues) (tuple : List (List ℕ)) (truth : ℕ → Bool) (first : ℕ) → first ≡ length before → ((v : ℕ) → truth v ≡ get_or (before ++ (marks cell tuple ++ rest)) v false) → Agrees truth first cell (text_of tuple cell.attr)
  marks_agree before rest cell tuple truth first is_first is place within =
      let size = marks_count cell tuple in
      let there : first + place ≡ length before + place = omega arith in
      is (first + place) ∙ ap (λ v. get_or (before ++ (marks cell tuple ++ rest)) v false) there ∙ get_or-append-add before (marks cell tuple ++ rest) place false
      ∙ get_or_append_left (marks cell tuple) rest false place (omega arith)
      ∙ get_or-map-range_with_len (counts_as cell (text_of tuple cell.attr)) 0 (length cell.values) place place false within (omega arith)

  pair_tells : (before rest : List Bool) (equal : Bool) (cell : CellValues) (truth : ℕ → Bool) → ((v : ℕ) → truth v ≡ get_or (before ++ ((equal ∷ (marks cell one ++ marks cell other)) ++ rest)) v false)
      → (truth (length before) ≡ equal) × ((which : Which) → IsWhichOf Two which → Agrees truth (length before + offset which cell) cell (text_of (tuple_at which) cell.attr))
  pair_tells before rest equal cell truth is = (is (length before) ∙ get_or-append_seam before equal ((marks cell one ++ marks cell other) ++ rest) false, tells) where
    from_front : (v : ℕ) → truth v ≡ get_or ((before ++ equal ∷ []) ++ (marks cell one ++ (marks cell other ++ rest))) v false
    from_front v = is v ∙ ap (λ l. get_or (before ++ (equal ∷ l)) v false) (append_assoc (marks cell one) (marks cell other) rest) ∙ ap (λ l. get_or l v false) (sym (append_assoc before (equal ∷ []) (marks cell one ++ (marks cell other ++ rest))))

    from_both : (v : ℕ) → truth v ≡ get_or (((before ++ equal ∷ []) ++ marks cell one) ++ (marks cell other ++ rest)) v false
    from_both v = from_front v ∙ ap (λ l. get_or l v false) (sym (append_assoc (before ++ equal ∷ []) (marks cell one) (marks cell other ++ rest)))

    tells : (which : Which) → IsWhichOf Two which → Agrees truth (length before + offset which cell) cell (text_of (tuple_at which) cell.attr)
    tells Only none = absurd none
    tells First some = marks_agree (before ++ equal ∷ []) (marks cell other ++ rest) cell one truth (length before + 1) (omega (arith, length-append before (equal ∷ []))) from_front
    tells Second some =
        marks_agree ((before ++ equal ∷ []) ++ marks cell one) rest cell other truth (length before + (1 + length cell.values))
        (omega (arith, length-append before (equal ∷ []), length-append (before ++ equal ∷ []) (marks cell one), marks_count cell one)) from_both

  one_tells : (before rest : List Bool) (cell : CellValues) (truth : ℕ → Bool) → ((v : ℕ) → truth v ≡ get_or (before ++ (marks cell one ++ rest)) v false)
      → (which : Which) → IsWhichOf One which → Agrees truth (length before + offset which cell) cell (text_of (tuple_at which) cell.attr)
  one_tells before rest cell truth is Only some = marks_agree before rest cell one truth (length before + 0) (omega arith) is
  one_tells before rest cell truth is First none = absurd none
  one_tells before rest cell truth is Second none = absurd none

  block_tells : (count : TupleCount) (before rest : List Bool) (cell : CellValues) (truth : ℕ → Bool) → ((v : ℕ) → truth v ≡ get_or (before ++ (block count cell ++ rest)) v false) → Tells count truth (length before) cell
  block_tells One before rest cell truth is = (λ pair. absurd pair, one_tells before rest cell truth is)
  block_tells Two before rest cell truth is =
      let both = pair_tells before rest (bytes_eq (text_of one cell.attr) (text_of other cell.attr)) cell truth is in
      (λ pair. both.0, both.1)

  block_count : (count : TupleCount) (cell : CellValues) → length (block count cell) ≡ var_width count cell
  block_count One cell = marks_count cell one
  block_count Two cell = omega (arith, length-append (marks cell one) (marks cell other), marks_count cell one, marks_count cell other)

  module _ (count : TupleCount) where
    blocks_tell : (before : List Bool) (cells : List CellValues) (truth : ℕ → Bool) → ((v : ℕ) → truth v ≡ get_or (before ++ flat_map (block count) cells) v false) → Placed count (Tells count truth) (length before) cells
    blocks_tell before [] truth is = tt
    blocks_tell before (cell ∷ cells) truth is =
        let size : length (before ++ block count cell) ≡ length before + var_width count cell = omega (arith, length-append before (block count cell), block_count count cell) in
        let rest = blocks_tell (before ++ block count cell) cells truth (λ v. is v ∙ ap (λ l. get_or l v false) (sym (append_assoc before (block count cell) (flat_map (block count) cells)))) in
        (block_tells count before (flat_map (block count) cells) cell truth is, subst (λ m. Placed count (Tells count truth) m cells) size rest)

    pub told : (cells : List CellValues) → Placed count (Tells count (truth_of count cells)) 0 cells
    told cells = blocks_tell [] cells (truth_of count cells) (λ v. refl)

    -- ---- the same of the variables by their numbers

    module _ (truth : ℕ → Bool) (low : ℕ) (cells : List CellValues) (rises : RisesFrom low cells) where
      pub equal_told : Placed count (Tells count truth) 0 cells → (c : CellValues) → Contains cells c → ArePair count → truth (attr_var count cells c.attr) ≡ bytes_eq (text_of one c.attr) (text_of other c.attr)
      equal_told tells c there pair =
          let at : attr_var count cells c.attr ≡ 0 + attr_var count cells c.attr = omega arith in
          ap truth at ∙ (placed_at count (Tells count truth) 0 low cells c rises tells there).0 pair

      pub agrees_told : Placed count (Tells count truth) 0 cells → (c : CellValues) → Contains cells c → (which : Which) → IsWhichOf count which → Agrees truth (value_var which cells c.attr) c (text_of (tuple_at which) c.attr)
      agrees_told tells c there which is =
          let at : 0 + attr_var count cells c.attr + offset which c ≡ value_var which cells c.attr = omega (arith, value_var_at count which is low cells c rises there) in
          subst (λ n. Agrees truth n c (text_of (tuple_at which) c.attr)) at ((placed_at count (Tells count truth) 0 low cells c rises tells there).1 which is)

      pub tells_by : ((c : CellValues) → Contains cells c → ArePair count → truth (attr_var count cells c.attr) ≡ bytes_eq (text_of one c.attr) (text_of other c.attr))
          → ((c : CellValues) → Contains cells c → (which : Which) → IsWhichOf count which → Agrees truth (value_var which cells c.attr) c (text_of (tuple_at which) c.attr)) → Placed count (Tells count truth) 0 cells
      tells_by equal agrees = placed_by count (Tells count truth) 0 low cells rises (λ c there. (
        λ pair. let at : 0 + attr_var count cells c.attr ≡ attr_var count cells c.attr = omega arith in ap truth at ∙ equal c there pair,
        λ which is. let at : value_var which cells c.attr ≡ 0 + attr_var count cells c.attr + offset which c = omega (arith, value_var_at count which is low cells c rises there) in subst (λ n. Agrees truth n c (text_of (tuple_at which) c.attr)) at (agrees c there which is),
      ))
