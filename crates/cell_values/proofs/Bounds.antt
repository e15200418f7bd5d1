-- How many variables there are, and where those of an attribute lie.
use Rattle.std.proofs.Common.{◌≡◌, ℕ, zero, suc, ◌+◌, ◌*◌, ◌^◌, ◌<◌, ◌≤◌, Bool, true, false, cond, List, [], ◌∷◌, ◌++◌, length, Option, Some, refl, sym, ap, ◌∙◌, subst, append_assoc, arith}
use Rattle.std.specs.Prelude.{find, sum_by, nat_lt, nat_eq, Contains}
use Rattle.std.specs.Option.{option_map_or}
use Rattle.std.proofs.lemmas.Bool.{eqb-true, le-ltb}
use Rattle.std.proofs.lemmas.List.Sums.{sum_by-cons, sum_by-append}
use Rattle.std.proofs.lemmas.Option.{none-some}
use Rattle.cfd_semantics.proofs.Members.{contains-here, contains-there}
use Rattle.case_tree.specs.declared.clauses.VarCell.{VarCell}
use Rattle.case_tree.specs.CaseTree.{FollowFrom, var_count}
use Rattle.case_tree.proofs.Cells.{var_count-cons}
use Rattle.cell_values.specs.declared.which.Which.{Which}
use Rattle.cell_values.specs.declared.which.Which.TheVariants.{Only, First, Second}
use Rattle.cell_values.specs.declared.which.TupleCount.{TupleCount}
use Rattle.cell_values.specs.declared.which.TupleCount.TheVariants.{One, Two}
use Rattle.cell_values.specs.declared.values.CellValues.{CellValues}
use Rattle.cell_values.specs.Layout.{attr_cells, attr_var, count_of, value_cell, value_var, var_cells, var_total, var_width}
use Rattle.cell_values.specs.Values.{AreFew}
use Rattle.cell_values.proofs.Order.{attr_var-cons, find_at, RisesFrom}

some_same : {A : Type 0} (x y : A) → ◌≡◌ {A = Option A} (Some x) (Some y) → x ≡ y
some_same x y e = cc

-- ---- an attribute's variables are within all

module _ (count : TupleCount) where
  pub total_cons : (c : CellValues) (cs : List CellValues) → var_total count (c ∷ cs) ≡ var_width count c + var_total count cs
  total_cons c cs = sum_by-cons (var_width count) c cs

  below_by : (attr : ℕ) (c : CellValues) (cs : List CellValues) (b : Bool) → nat_lt c.attr attr ≡ b → attr_var count cs attr ≤ var_total count cs → attr_var count (c ∷ cs) attr ≤ var_total count (c ∷ cs)
  below_by attr c cs true is rest = omega (arith, attr_var-cons count attr c cs true is, total_cons c cs)
  below_by attr c cs false is rest = omega (arith, attr_var-cons count attr c cs false is, total_cons c cs)

  attr_below : (cells : List CellValues) (attr : ℕ) → attr_var count cells attr ≤ var_total count cells
  attr_below [] attr = none count attr where
    none : (n : TupleCount) (at : ℕ) → attr_var n [] at ≤ var_total n []
    none One at = omega arith
    none Two at = omega arith
  attr_below (c ∷ cs) attr = below_by attr c cs (nat_lt c.attr attr) refl (attr_below cs attr)

  within_by : (attr : ℕ) (c found : CellValues) (cs : List CellValues) (here : Bool) → nat_eq c.attr attr ≡ here → (find (λ (cell : CellValues). nat_eq cell.attr attr) cs ≡ Some found → attr_var count cs attr + var_width count found ≤ var_total count cs)
      → cond {A = Option CellValues} here (Some c) (find (λ (cell : CellValues). nat_eq cell.attr attr) cs) ≡ Some found → attr_var count (c ∷ cs) attr + var_width count found ≤ var_total count (c ∷ cs)
  within_by attr c found cs true is rest e =
      let same : var_width count c ≡ var_width count found = ap (var_width count) (some_same c found e) in
      let at = eqb-true c.attr attr is in
      omega (arith, attr_var-cons count attr c cs false (le-ltb c.attr attr (omega arith)), total_cons c cs, attr_below cs attr)
  within_by attr c found cs false is rest e = within_later (nat_lt c.attr attr) refl (rest e) where
    within_later : (less : Bool) → nat_lt c.attr attr ≡ less → attr_var count cs attr + var_width count found ≤ var_total count cs → attr_var count (c ∷ cs) attr + var_width count found ≤ var_total count (c ∷ cs)
    within_later true less inside = omega (arith, attr_var-cons count attr c cs true less, total_cons c cs)
    within_later false less inside = omega (arith, attr_var-cons count attr c cs false less, total_cons c cs)

  pub found_within : (cells : List CellValues) (attr : ℕ) (found : CellValues) → find (λ (cell : CellValues). nat_eq cell.attr attr) cells ≡ Some found → attr_var count cells attr + var_width count found ≤ var_total count cells
  found_within [] attr found e = absurd (none-some _ e)
  found_within (c ∷ cs) attr found e = within_by attr c found cs (nat_eq c.attr attr) refl (found_within cs attr found) e

  pub inside : (low : ℕ) (cells : List CellValues) (c : CellValues) → RisesFrom low cells → Contains cells c → attr_var count cells c.attr + var_width count c ≤ var_total count cells
  inside low cells c rising there = found_within cells c.attr c (find_at low cells c rising there)

found_attr_by : (attr : ℕ) (c found : CellValues) (cs : List CellValues) (here : Bool) → nat_eq c.attr attr ≡ here → (find (λ (cell : CellValues). nat_eq cell.attr attr) cs ≡ Some found → (found.attr ≡ attr) × Contains cs found)
    → cond {A = Option CellValues} here (Some c) (find (λ (cell : CellValues). nat_eq cell.attr attr) cs) ≡ Some found → (found.attr ≡ attr) × Contains (c ∷ cs) found
found_attr_by attr c found cs true is rest e =
    let same = some_same c found e in
    (ap (λ (x : CellValues). x.attr) (sym same) ∙ eqb-true c.attr attr is, subst (Contains (c ∷ cs)) same (contains-here c cs))
found_attr_by attr c found cs false is rest e = let more = rest e in (more.0, contains-there found c cs more.1)

pub found_attr : (cells : List CellValues) (attr : ℕ) (found : CellValues) → find (λ (cell : CellValues). nat_eq cell.attr attr) cells ≡ Some found → (found.attr ≡ attr) × Contains cells found
found_attr [] attr found e = absurd (none-some _ e)
found_attr (c ∷ cs) attr found e = found_attr_by attr c found cs (nat_eq c.attr attr) refl (found_attr cs attr found) e

-- ---- the cells

count_value : (first : ℕ) (c : CellValues) (empty : Bool) → nat_eq (length c.values) 0 ≡ empty → var_count (cond empty [] (record { first = first; count = length c.values; demanded = c.demanded } ∷ [])) ≡ length c.values
count_value first c true is = sym (eqb-true (length c.values) 0 is)
count_value first c false is = var_count-cons (record { first = first; count = length c.values; demanded = c.demanded }) [] ∙ omega arith

count_attr : (count : TupleCount) (first : ℕ) (c : CellValues) → var_count (attr_cells count first c) ≡ var_width count c
count_attr One first c = count_value first c (nat_eq (length c.values) 0) refl
count_attr Two first c =
    let n = length c.values in
    let left = value_cell (first + 1) c in
    let right = value_cell (first + 1 + n) c in
    omega (
      arith,
      var_count-cons (record { first = first; count = 1; demanded = false }) (left ++ right),
      sum_by-append (λ (cell : VarCell). cell.count) left right,
      count_value (first + 1) c (nat_eq n 0) refl,
      count_value (first + 1 + n) c (nat_eq n 0) refl,
    )

follow_value : (first next : ℕ) (c : CellValues) (rest : List VarCell) (empty : Bool) → nat_eq (length c.values) 0 ≡ empty → first + length c.values ≡ next → FollowFrom next rest
    → FollowFrom first (cond empty [] (record { first = first; count = length c.values; demanded = c.demanded } ∷ []) ++ rest)
follow_value first next c rest true is at follow =
    let none = eqb-true (length c.values) 0 is in
    let same : next ≡ first = omega arith in
    subst (λ n. FollowFrom n rest) same follow
follow_value first next c rest false is at follow =
    (refl, some (length c.values) is, subst (λ n. FollowFrom n rest) (sym at) follow) where
      some : (n : ℕ) → nat_eq n 0 ≡ false → 0 < n
      some zero e = absurd cc
      some (suc n) e = omega arith

follow_attr : (count : TupleCount) (first : ℕ) (c : CellValues) (rest : List VarCell) → FollowFrom (first + var_width count c) rest → FollowFrom first (attr_cells count first c ++ rest)
follow_attr One first c rest follow = follow_value first (first + length c.values) c rest (nat_eq (length c.values) 0) refl refl follow
follow_attr Two first c rest follow =
    let n = length c.values in
    let next = first + (1 + 2 * n) in
    let right = value_cell (first + 1 + n) c in
    let end : first + 1 + n + n ≡ next = omega arith in
    let later = follow_value (first + 1 + n) next c rest (nat_eq n 0) refl end follow in
    let front = follow_value (first + 1) (first + 1 + n) c (right ++ rest) (nat_eq n 0) refl refl later in
    (refl, omega arith, subst (FollowFrom (first + 1)) (sym (append_assoc (value_cell (first + 1) c) right rest)) front)

width_most : (count : TupleCount) (c : CellValues) → var_width count c ≤ 1 + 2 * length c.values
width_most One c = omega arith
width_most Two c = omega arith

module _ (count : TupleCount) where
  pub cells_count : (first : ℕ) (cells : List CellValues) → var_count (var_cells count first cells) ≡ var_total count cells
  cells_count first [] = refl
  cells_count first (c ∷ cs) =
      let next = first + var_width count c in
      omega (arith, sum_by-append (λ (cell : VarCell). cell.count) (attr_cells count first c) (var_cells count next cs), count_attr count first c, cells_count next cs, total_cons count c cs)

  pub cells_follow : (first : ℕ) (cells : List CellValues) → FollowFrom first (var_cells count first cells)
  cells_follow first [] = tt
  cells_follow first (c ∷ cs) = follow_attr count first c (var_cells count (first + var_width count c) cs) (cells_follow (first + var_width count c) cs)

  pub total_fits : (cells : List CellValues) → AreFew cells → var_total count cells < 2 ^ 64
  total_fits cells few = omega (arith, twice cells) where
    twice : (cs : List CellValues) → var_total count cs ≤ 2 * sum_by (λ (cell : CellValues). length cell.values + 1) cs
    twice [] = omega arith
    twice (c ∷ cs) = omega (arith, total_cons count c cs, width_most count c, sum_by-cons (λ (cell : CellValues). length cell.values + 1) c cs, twice cs)

-- the variables of a tuple's values are within all
pub value_within : (which : Which) (cells : List CellValues) (attr : ℕ) (found : CellValues) → find (λ (cell : CellValues). nat_eq cell.attr attr) cells ≡ Some found → value_var which cells attr + length found.values ≤ var_total (count_of which) cells
value_within Only cells attr found e = found_within One cells attr found e
value_within First cells attr found e = omega (arith, found_within Two cells attr found e)
value_within Second cells attr found e = omega (arith, found_within Two cells attr found e, ap (λ (o : Option CellValues). length (option_map_or (λ (cell : CellValues). cell.values) o [])) e)
