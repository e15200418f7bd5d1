-- The cells of variables under truth values that tell of two tuples.
use Rattle.std.proofs.Common.{◌≡◌, ℕ, ◌+◌, ◌-◌, ◌<◌, Bool, true, false, List, [], ◌∷◌, ◌++◌, length, sym, ap, ◌∙◌, subst, arith}
use Rattle.std.specs.Prelude.{Contains, nat_eq}
use Rattle.std.specs.List.{All}
use Rattle.std.proofs.lemmas.Bool.{cond_both, cond-false, ne_eqb}
use Rattle.std.proofs.lemmas.List.Elements.{All-nil, All-cons, All-head, All-tail, All-append}
use Rattle.case_tree.specs.declared.clauses.VarCell.{VarCell}
use Rattle.case_tree.specs.CaseTree.{IsIn}
use Rattle.case_tree.proofs.Lists.{All-left, All-right}
use Rattle.cell_values.specs.declared.values.CellValues.{CellValues}
use Rattle.cell_values.specs.Standing.{Agrees}
use Rattle.cell_values.proofs.Choices.{counts_once}
use Rattle.cell_values.proofs.Meaning.{AreValues, IsCovered}
use Rattle.cell_values.specs.declared.which.Which.{Which}
use Rattle.cell_values.specs.declared.which.Which.TheVariants.{Only, First, Second}
use Rattle.cell_values.specs.declared.which.TupleCount.{TupleCount}
use Rattle.cell_values.specs.declared.which.TupleCount.TheVariants.{One, Two}
use Rattle.cell_values.specs.Layout.{attr_cells, attr_var, value_cell, value_var, var_cells, var_width}
use Rattle.cell_values.proofs.Truths.{text_of}
use Rattle.cell_values.proofs.Order.{ArePair, IsWhichOf, offset, Placed, placed_at, placed_by, RisesFrom, value_var_at}
use Rattle.cell_values.proofs.Told.{Tells, tuple_at}

-- ---- cells

-- at most one variable of a cell is true; a demanded cell has a true one
abbrev pub HasOne : (ℕ → Bool) → VarCell → Type 0
HasOne truth cell = (v w : ℕ) → IsIn cell v → IsIn cell w → truth v ≡ true → truth w ≡ true → v ≡ w

abbrev pub HasSome : (ℕ → Bool) → VarCell → Type 0
HasSome truth cell = cell.demanded ≡ true → (v : ℕ) × IsIn cell v × (truth v ≡ true)

abbrev pub equal_cell : ℕ → VarCell
equal_cell first = record { first = first; count = 1; demanded = false }

abbrev pub whole_cell : ℕ → CellValues → VarCell
whole_cell first c = record { first = first; count = length c.values; demanded = c.demanded }

value_cell_all : (P : VarCell → Type 0) (first : ℕ) (c : CellValues) → P (whole_cell first c) → All P (value_cell first c)
value_cell_all P first c fact = cond_both (nat_eq (length c.values) 0) [] (whole_cell first c ∷ []) (All P) (λ _. All-nil P) (λ _. All-cons P (whole_cell first c) [] fact (All-nil P))

-- what is so of each cell of an attribute
abbrev pub HoldsAt : TupleCount → (VarCell → Type 0) → ℕ → CellValues → Type 0
HoldsAt count P first c = (ArePair count → P (equal_cell first)) × ((which : Which) → IsWhichOf count which → P (whole_cell (first + offset which c) c))

attr_cells_all : (count : TupleCount) (P : VarCell → Type 0) (first : ℕ) (c : CellValues) → HoldsAt count P first c → All P (attr_cells count first c)
attr_cells_all One P first c holds = let at : first + 0 ≡ first = omega arith in value_cell_all P first c (subst (λ n. P (whole_cell n c)) at (holds.1 Only tt))
attr_cells_all Two P first c holds =
    let at : first + (1 + length c.values) ≡ first + 1 + length c.values = omega arith in
    All-cons P (equal_cell first) (value_cell (first + 1) c ++ value_cell (first + 1 + length c.values) c) (holds.0 tt)
    (All-append P (value_cell (first + 1) c) (value_cell (first + 1 + length c.values) c) (value_cell_all P (first + 1) c (holds.1 First tt)) (value_cell_all P (first + 1 + length c.values) c (subst (λ n. P (whole_cell n c)) at (holds.1 Second tt))))

pub var_cells_all : (count : TupleCount) (P : VarCell → Type 0) (first : ℕ) (cells : List CellValues) → Placed count (HoldsAt count P) first cells → All P (var_cells count first cells)
var_cells_all count P first [] placed = All-nil P
var_cells_all count P first (c ∷ cs) placed =
    All-append P (attr_cells count first c) (var_cells count (first + var_width count c) cs) (attr_cells_all count P first c placed.0) (var_cells_all count P (first + var_width count c) cs placed.1)

value_cell_at : (P : VarCell → Type 0) (first : ℕ) (c : CellValues) → All P (value_cell first c) → 0 < length c.values → P (whole_cell first c)
value_cell_at P first c all some =
    let there : value_cell first c ≡ whole_cell first c ∷ [] = cond-false (nat_eq (length c.values) 0) [] (whole_cell first c ∷ []) (ne_eqb (length c.values) 0 (λ e. omega arith)) in
    All-head P (whole_cell first c) [] (subst (All P) there all)

attr_cells_at : (count : TupleCount) (P : VarCell → Type 0) (first : ℕ) (c : CellValues) → All P (attr_cells count first c) → 0 < length c.values → (which : Which) → IsWhichOf count which → P (whole_cell (first + offset which c) c)
attr_cells_at One P first c all some Only is = let at : first ≡ first + 0 = omega arith in subst (λ n. P (whole_cell n c)) at (value_cell_at P first c all some)
attr_cells_at One P first c all some First is = absurd is
attr_cells_at One P first c all some Second is = absurd is
attr_cells_at Two P first c all some Only is = absurd is
attr_cells_at Two P first c all some First is =
    value_cell_at P (first + 1) c (All-left P (value_cell (first + 1) c) (value_cell (first + 1 + length c.values) c) (All-tail P (equal_cell first) (value_cell (first + 1) c ++ value_cell (first + 1 + length c.values) c) all)) some
attr_cells_at Two P first c all some Second is =
    let at : first + 1 + length c.values ≡ first + (1 + length c.values) = omega arith in
    subst (λ n. P (whole_cell n c)) at
    (value_cell_at P (first + 1 + length c.values) c (All-right P (value_cell (first + 1) c) (value_cell (first + 1 + length c.values) c) (All-tail P (equal_cell first) (value_cell (first + 1) c ++ value_cell (first + 1 + length c.values) c) all)) some)

module _ (count : TupleCount) (P : VarCell → Type 0) where
  abbrev HoldsThere : ℕ → CellValues → Type 0
  HoldsThere first c = 0 < length c.values → (which : Which) → IsWhichOf count which → P (whole_cell (first + offset which c) c)

  var_cells_at : (first : ℕ) (cells : List CellValues) → All P (var_cells count first cells) → Placed count HoldsThere first cells
  var_cells_at first [] all = tt
  var_cells_at first (c ∷ cs) all = (
    attr_cells_at count P first c (All-left P (attr_cells count first c) (var_cells count (first + var_width count c) cs) all),
    var_cells_at (first + var_width count c) cs (All-right P (attr_cells count first c) (var_cells count (first + var_width count c) cs) all),
  )

  -- what is so of each cell is so of that of a tuple's values
  pub cell_at : (low : ℕ) (cells : List CellValues) (c : CellValues) → RisesFrom low cells → Contains cells c → All P (var_cells count 0 cells) → 0 < length c.values → (which : Which) → IsWhichOf count which → P (whole_cell (value_var which cells c.attr) c)
  cell_at low cells c rises there all some which is =
      let at : 0 + attr_var count cells c.attr + offset which c ≡ value_var which cells c.attr = omega (arith, value_var_at count which is low cells c rises there) in
      subst (λ n. P (whole_cell n c)) at (placed_at count HoldsThere 0 low cells c rises (var_cells_at 0 cells all) there some which is)

-- ---- what two tuples give is allowed

one_value : (truth : ℕ → Bool) (first : ℕ) (c : CellValues) (text : List ℕ) → AreValues c → Agrees truth first c text → HasOne truth (whole_cell first c)
one_value truth first c text is agrees v w v_in w_in v_true w_true =
    let p = v - first in
    let q = w - first in
    let v_from = v_in.0 in
    let v_to = v_in.1 in
    let w_from = w_in.0 in
    let w_to = w_in.1 in
    let v_is : v ≡ first + p = omega arith in
    let w_is : w ≡ first + q = omega arith in
    let p_in : p < length c.values = omega arith in
    let q_in : q < length c.values = omega arith in
    let same : p ≡ q = counts_once c is text p q p_in q_in (sym (agrees p p_in) ∙ ap truth (sym v_is) ∙ v_true) (sym (agrees q q_in) ∙ ap truth (sym w_is) ∙ w_true) in
    v_is ∙ ap (λ k. first + k) same ∙ sym w_is

some_value : (truth : ℕ → Bool) (first : ℕ) (c : CellValues) (text : List ℕ) → IsCovered c text → Agrees truth first c text → HasSome truth (whole_cell first c)
some_value truth first c text covered agrees demanded =
    let (place, within, counts) = covered demanded in
    (first + place, (omega arith, omega arith), agrees place within ∙ counts)

one_of_one : (truth : ℕ → Bool) (first : ℕ) → HasOne truth (equal_cell first)
one_of_one truth first v w v_in w_in v_true w_true =
    let v_from = v_in.0 in
    let v_to = v_in.1 in
    let w_from = w_in.0 in
    let w_to = w_in.1 in
    omega arith

none_demanded : (truth : ℕ → Bool) (first : ℕ) → HasSome truth (equal_cell first)
none_demanded truth first demanded = absurd cc

-- what is known of each attribute and of the texts of the tuples there
abbrev pub Stands : TupleCount → List (List ℕ) → List (List ℕ) → CellValues → Type 0
Stands count one other c = AreValues c × ((which : Which) → IsWhichOf count which → IsCovered c (text_of (tuple_at one other which) c.attr))

module _ (count : TupleCount) (truth : ℕ → Bool) (one other : List (List ℕ)) (low : ℕ) (cells : List CellValues) (rises : RisesFrom low cells) (stands : (c : CellValues) → Contains cells c → Stands count one other c)
    (tells : Placed count (Tells one other count truth) 0 cells) where
  told_of : (c : CellValues) → Contains cells c → Tells one other count truth (0 + attr_var count cells c.attr) c
  told_of c there = placed_at count (Tells one other count truth) 0 low cells c rises tells there

  pub has_one : All (HasOne truth) (var_cells count 0 cells)
  has_one = var_cells_all count (HasOne truth) 0 cells (placed_by count (HoldsAt count (HasOne truth)) 0 low cells rises (λ c there. (
    λ pair. one_of_one truth (0 + attr_var count cells c.attr),
    λ which is. one_value truth (0 + attr_var count cells c.attr + offset which c) c (text_of (tuple_at one other which) c.attr) (stands c there).0 ((told_of c there).1 which is),
  )))

  pub has_some : All (HasSome truth) (var_cells count 0 cells)
  has_some = var_cells_all count (HasSome truth) 0 cells (placed_by count (HoldsAt count (HasSome truth)) 0 low cells rises (λ c there. (
    λ pair. none_demanded truth (0 + attr_var count cells c.attr),
    λ which is. some_value truth (0 + attr_var count cells c.attr + offset which c) c (text_of (tuple_at one other which) c.attr) ((stands c there).1 which is) ((told_of c there).1 which is),
  )))
