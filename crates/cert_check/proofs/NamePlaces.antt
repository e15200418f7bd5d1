-- The places of names among those of an attribute and of all attributes.
use Rattle.std.proofs.Common.{inl, inr, ◌≡◌, ℕ, ◌+◌, ◌*◌, ◌^◌, ◌<◌, ◌≤◌, Bool, true, false, ◌&&◌, cond, List, [], ◌∷◌, ◌++◌, length, drop, get_or, sym, ap, ◌∙◌, subst, arith, length-append}
use Rattle.std.specs.Prelude.{◌==◌}
use Rattle.std.specs.List.{flat_map, position_or_len, sum_by}
use Rattle.std.specs.Str.{bytes_eq}
use Rattle.std.proofs.lemmas.Bool.{cases_Bool, eqb-false}
use Rattle.std.proofs.lemmas.List.{length-map, drop_more}
use Rattle.std.proofs.lemmas.List.Sums.{sum_by-cons}
use Rattle.cell_values.specs.declared.values.CellValues.{CellValues}
use Rattle.cert_text.specs.declared.answers.Kind.{Kind}
use Rattle.cert_text.specs.declared.answers.Kind.TheVariants.{Consistency, Implication}
use Rattle.cell_values.specs.declared.which.Which.{Which}
use Rattle.cell_values.specs.declared.which.Which.TheVariants.{Only, First, Second}
use Rattle.cert_text.specs.declared.names.CellName.{CellName}
use Rattle.cert_text.specs.declared.names.VarName.{VarName}
use Rattle.cert_text.specs.declared.names.VarName.TheVariants.{Value, Equal}
use Rattle.cert_check.specs.Names.{cell_name, value_vars, attr_vars, value_cells, attr_cells, same_cell, same_var}
use Rattle.cert_check.proofs.Positions.{place-later, place-left, place-right, place-map, place-none, place_within}

-- ---- variables of one attribute

pub value_vars_count : (tuple : Which) (attr : List ℕ) (values : List (List ℕ)) → length (value_vars tuple attr values) ≡ length values
value_vars_count tuple attr values = length-map values (λ value. Value (cell_name tuple attr) value)

pub value_var_place : (tuple : Which) (attr : List ℕ) (values : List (List ℕ)) (cell : CellName) (text : List ℕ) (named : Bool) → same_cell cell (cell_name tuple attr) ≡ named
    → position_or_len (same_var (Value cell text)) (value_vars tuple attr values) ≡ cond named (position_or_len (bytes_eq text) values) (length values)
value_var_place tuple attr values cell text true is =
    place-map (same_var (Value cell text)) (λ value. Value (cell_name tuple attr) value) values
    ∙ ap (λ (b : Bool). position_or_len (λ value. b && bytes_eq text value) values) is
value_var_place tuple attr values cell text false is =
    place-map (same_var (Value cell text)) (λ value. Value (cell_name tuple attr) value) values
    ∙ ap (λ (b : Bool). position_or_len (λ value. b && bytes_eq text value) values) is
    ∙ place-none values

pub equality_place : (tuple : Which) (attr : List ℕ) (values : List (List ℕ)) (named : List ℕ) → position_or_len (same_var (Equal named)) (value_vars tuple attr values) ≡ length values
equality_place tuple attr values named = place-map (same_var (Equal named)) (λ value. Value (cell_name tuple attr) value) values ∙ place-none values

-- over two tuples: the equality, the first tuple's, the second's
module _ (attr : List ℕ) (values : List (List ℕ)) (name : VarName) where
  abbrev ones : List VarName
  ones = value_vars First attr values

  abbrev others : List VarName
  others = value_vars Second attr values

  pub pair_first : same_var name (Equal attr) ≡ false → position_or_len (same_var name) ones < length values → position_or_len (same_var name) (attr_vars Implication attr values) ≡ 1 + position_or_len (same_var name) ones
  pair_first not_equality within =
      let front = place-left (same_var name) ones others (omega (arith, value_vars_count First attr values)) in
      place-later (same_var name) (Equal attr) (ones ++ others) not_equality ∙ omega arith

  pub pair_second : same_var name (Equal attr) ≡ false → length values ≤ position_or_len (same_var name) ones → position_or_len (same_var name) (attr_vars Implication attr values) ≡ 1 + length values + position_or_len (same_var name) others
  pair_second not_equality past =
      let behind = place-right (same_var name) ones others (omega (arith, value_vars_count First attr values)) in
      place-later (same_var name) (Equal attr) (ones ++ others) not_equality ∙ omega (arith, value_vars_count First attr values)

pub pair_count : (attr : List ℕ) (values : List (List ℕ)) → length (attr_vars Implication attr values) ≡ 1 + 2 * length values
pair_count attr values =
    omega (arith, length-append (value_vars First attr values) (value_vars Second attr values), value_vars_count First attr values, value_vars_count Second attr values)

pub attr_vars_few : (kind : Kind) (attr : List ℕ) (values : List (List ℕ)) → length (attr_vars kind attr values) ≤ 2 * (length values + 1)
attr_vars_few Consistency attr values = omega (arith, value_vars_count Only attr values)
attr_vars_few Implication attr values = omega (arith, pair_count attr values)

-- ---- cells of one attribute

pub pair_cell_count : (attr : List ℕ) (values : List (List ℕ)) → length (attr_cells Implication attr values) ≡ 1 + (length (value_cells First attr values) + length (value_cells Second attr values))
pair_cell_count attr values = omega (arith, length-append (value_cells First attr values) (value_cells Second attr values))

value_cells_few : (tuple : Which) (attr : List ℕ) (values : List (List ℕ)) → length (value_cells tuple attr values) ≤ length values
value_cells_few tuple attr values = elim (cases_Bool (length values == 0)) [
  | inl none ↦ rw none (omega arith)
  | inr some ↦ let more = eqb-false (length values) 0 some in rw some (omega arith)
]

pub attr_cells_few : (kind : Kind) (attr : List ℕ) (values : List (List ℕ)) → length (attr_cells kind attr values) ≤ 2 * (length values + 1)
attr_cells_few Consistency attr values = omega (arith, value_cells_few Only attr values)
attr_cells_few Implication attr values = omega (arith, pair_cell_count attr values, value_cells_few First attr values, value_cells_few Second attr values)

-- ---- all attributes, one after the other

-- what an attribute stands for: its variables, or its cells
module _ {X : Type 0} (named : CellValues → List X) (p : X → Bool) where
  -- the place in what is left of the attributes, with the number of what was before, is the place in all
  pub record IsOn (all left : List CellValues) (first : ℕ) : Type 0 where
    pub place : first + position_or_len p (flat_map named left) ≡ position_or_len p (flat_map named all)
    pub count : first + length (flat_map named left) ≡ length (flat_map named all)

  pub on_here : (all left : List CellValues) (cell : CellValues) (first : ℕ) → IsOn all (cell ∷ left) first → position_or_len p (named cell) < length (named cell) → first + position_or_len p (named cell) ≡ position_or_len p (flat_map named all)
  on_here all left cell first on within =
      let front = place-left p (named cell) (flat_map named left) within in
      omega (arith, on.place)

  pub on_later : (all left : List CellValues) (cell : CellValues) (first : ℕ) → IsOn all (cell ∷ left) first → length (named cell) ≤ position_or_len p (named cell) → IsOn all left (first + position_or_len p (named cell))
  on_later all left cell first on past =
      let behind = place-right p (named cell) (flat_map named left) past in
      let exact = place_within p (named cell) in
      record {
        place = omega (arith, on.place);
        count = omega (arith, on.count, length-append (named cell) (flat_map named left));
      }

  -- the next attribute
  pub on_at : (all : List CellValues) (i first : ℕ) (cell : CellValues) → i < length all → cell ≡ get_or all i cell → IsOn all (drop i all) first → IsOn all (cell ∷ drop (i + 1) all) first
  on_at all i first cell within is on = subst (λ (left : List CellValues). IsOn all left first) (drop_more all i cell within ∙ ap (λ (c : CellValues). c ∷ drop (i + 1) all) (sym is)) on

  -- no number is too large
  pub on_fits : (all left : List CellValues) (cell : CellValues) (first : ℕ) → IsOn all (cell ∷ left) first → length (flat_map named all) < 2 ^ 64 → first + position_or_len p (named cell) < 2 ^ 64
  on_fits all left cell first on few =
      omega (arith, on.count, place_within p (named cell), length-append (named cell) (flat_map named left))

-- where each has few
pub all_few : {X : Type 0} (named : CellValues → List X) (all : List CellValues) → ((cell : CellValues) → length (named cell) ≤ 2 * (length cell.values + 1)) → length (flat_map named all) ≤ 2 * sum_by (λ (cell : CellValues). length cell.values + 1) all
all_few named [] few = omega arith
all_few named (cell ∷ all) few =
    omega (arith, length-append (named cell) (flat_map named all), few cell, all_few named all few, sum_by-cons (λ (c : CellValues). length c.values + 1) cell all)
