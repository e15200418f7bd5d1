-- The variables of cells that follow one another.
use Rattle.std.proofs.Common.{◌≡◌, ℕ, zero, suc, ◌+◌, ◌-◌, ◌<◌, ◌≤◌, true, false, leb, List, [], ◌∷◌, length, get_or, drop, Some, sym, ap, subst, ◌∙◌, ◌↔◌, ⊎_elim, arith, add-one}
use Rattle.std.specs.List.Sorted.{IsNonDecreasingBy, IsPartitionPoint}
use Rattle.std.specs.List.{Any}
use Rattle.std.proofs.lemmas.List.{get_or_default, drop_more}
use Rattle.std.proofs.lemmas.Bool.{cases_lt, cases_order, leb-true, leb-false}
use Rattle.std.proofs.lemmas.List.Sorted.{IsNonDecreasingBy-from_all_adjacent}
use Rattle.std.specs.Prelude.{slice_get}
use Rattle.std.proofs.lemmas.List.Sums.{sum_by-cons}
use Rattle.case_tree.specs.declared.clauses.VarCell.{VarCell}
use Rattle.case_tree.specs.CaseTree.{FollowFrom, IsIn, var_count}

-- the variables of a cell and of the cells after it
pub var_count-cons : (cell : VarCell) (cells : List VarCell) → var_count (cell ∷ cells) ≡ cell.count + var_count cells
var_count-cons cell cells = sum_by-cons (λ (x : VarCell). x.count) cell cells

-- the last cell ends where the variables of all cells end
pub end_of_last : (first : ℕ) (cells : List VarCell) (k : ℕ) (last : VarCell) → FollowFrom first cells → slice_get cells k ≡ Some last → k + 1 ≡ length cells → last.first + last.count ≡ first + var_count cells
end_of_last first [] k last follow there is_last = cc
end_of_last first (cell ∷ []) zero last follow there is_last =
    let same : cell ≡ last = cc in
    let starts : last.first ≡ first = rw (sym same) follow.0 in
    let counted : cell.count ≡ last.count = ap (λ (x : VarCell). x.count) same in
    omega (arith, var_count-cons cell [])
end_of_last first (cell ∷ next ∷ cells) zero last follow there is_last = omega arith
end_of_last first (cell ∷ cells) (suc k) last follow there is_last =
    omega (arith, var_count-cons cell cells, end_of_last (first + cell.count) cells k last follow.2 there (omega arith))

-- each cell begins where the one before it ends
pub follow_next : (first : ℕ) (cells : List VarCell) (k : ℕ) (d : VarCell) → FollowFrom first cells → k + 1 < length cells → (get_or cells (k + 1) d).first ≡ (get_or cells k d).first + (get_or cells k d).count
follow_next first [] k d follow in_range = absurd (omega arith)
follow_next first (cell ∷ []) k d follow in_range = absurd (omega arith)
follow_next first (cell ∷ next ∷ cells) zero d follow in_range = let starts = follow.2.0 in omega (arith, follow.0)
follow_next first (cell ∷ next ∷ cells) (suc k) d follow in_range =
    rw add-one (rw add-one at (follow_next (first + cell.count) (next ∷ cells) k d follow.2 (omega arith)))

-- so their beginnings rise
pub cells_rise : (cells : List VarCell) → FollowFrom 0 cells → IsNonDecreasingBy (λ (cell : VarCell). cell.first) cells
cells_rise cells follow =
    IsNonDecreasingBy-from_all_adjacent (λ (cell : VarCell). cell.first) cells (λ k d in_range. omega (arith, follow_next 0 cells k d follow in_range))

-- the end of a cell is at most the end of all
pub ends_within : (first : ℕ) (cells : List VarCell) (k : ℕ) (d : VarCell) → FollowFrom first cells → k < length cells → (get_or cells k d).first + (get_or cells k d).count ≤ first + var_count cells
ends_within first [] k d follow in_range = absurd (omega arith)
ends_within first (cell ∷ cells) zero d follow in_range = omega (arith, var_count-cons cell cells, follow.0)
ends_within first (cell ∷ cells) (suc k) d follow in_range =
    omega (arith, var_count-cons cell cells, ends_within (first + cell.count) cells k d follow.2 (omega arith))

-- the only cell in which a variable can lie is the last that doesn't begin after it
pub cell_of_var : (cells : List VarCell) (after v k : ℕ) (d : VarCell) → FollowFrom 0 cells → IsPartitionPoint (λ (cell : VarCell). leb cell.first v ≡ true) (λ (cell : VarCell). leb cell.first v ≡ false) cells after → after ≤ length cells → k < length cells → IsIn (get_or cells k d) v → k + 1 ≡ after
cell_of_var cells after v k d follow (before, past) bound in_range (low, high) =
    let not_past : k < after =
    ⊎_elim (λ lt. lt) (λ le. let begins_after = leb-false _ _ (past k d le in_range) in absurd (omega arith)) (cases_lt k after)
    in
    ⊎_elim
    (λ more.
    let begins_before = leb-true _ _ (before (k + 1) d (omega arith) more) in
    absurd (omega (arith, follow_next 0 cells k d follow (omega arith))))
    (λ last. omega arith)
    (cases_lt (k + 1) after)

module _ (cells : List VarCell) (after one other : ℕ) (follow : FollowFrom 0 cells) (point : IsPartitionPoint (λ (cell : VarCell). leb cell.first one ≡ true) (λ (cell : VarCell). leb cell.first one ≡ false) cells after) (bound : after ≤ length cells) where
  -- no cell has a variable that all cells begin after
  pub shared_by_none : after ≡ 0 → Any (λ (cell : VarCell). IsIn cell one × IsIn cell other) cells → ⊥
  shared_by_none all_after (k, cell, in_range, is, (one_in, other_in)) =
      let place = cell_of_var cells after one k cell follow point bound in_range (subst (λ (x : VarCell). IsIn x one) (sym is) one_in) in
      omega arith

  -- and else the last that doesn't begin after it has both, where one has
  pub shared_by_last : 0 < after → (d : VarCell) → (IsIn (get_or cells (after - 1) d) one × IsIn (get_or cells (after - 1) d) other) ↔ Any (λ (cell : VarCell). IsIn cell one × IsIn cell other) cells
  shared_by_last some d = (
    λ both. (after - 1, get_or cells (after - 1) d, omega arith, get_or_default cells (after - 1) _ d (omega arith), both),
    λ (k, cell, in_range, is, (one_in, other_in)).
        let place = cell_of_var cells after one k cell follow point bound in_range (subst (λ (x : VarCell). IsIn x one) (sym is) one_in) in
        let here : get_or cells (after - 1) d ≡ cell =
        get_or_default cells (after - 1) d cell (omega arith) ∙ ap (λ (i : ℕ). get_or cells i cell) (omega arith) ∙ is
        in
        rw here (one_in, other_in),
  )

-- the cells from place i on begin with the cell there
pub FollowFrom-more : (first : ℕ) (cells : List VarCell) (i : ℕ) (d : VarCell) → i < length cells → FollowFrom first (drop i cells) ↔ (((get_or cells i d).first ≡ first) × (0 < (get_or cells i d).count) × FollowFrom (first + (get_or cells i d).count) (drop (i + 1) cells))
FollowFrom-more first cells i d in_range =
    let parts = drop_more cells i d in_range in
    (λ follow. subst (FollowFrom first) parts follow, λ follow. subst (FollowFrom first) (sym parts) follow)

pub var_count-more : (cells : List VarCell) (i : ℕ) (d : VarCell) → i < length cells → var_count (drop i cells) ≡ (get_or cells i d).count + var_count (drop (i + 1) cells)
var_count-more cells i d in_range = ap var_count (drop_more cells i d in_range) ∙ var_count-cons (get_or cells i d) (drop (i + 1) cells)

-- each variable lies in a cell
pub cell_there : (first : ℕ) (cells : List VarCell) (v : ℕ) (d : VarCell) → FollowFrom first cells → first ≤ v → v < first + var_count cells → (k : ℕ) × (k < length cells) × IsIn (get_or cells k d) v
cell_there first [] v d follow low high = absurd (omega arith)
cell_there first (cell ∷ cells) v d follow low high =
    ⊎_elim
    (λ here. (0, omega arith, (omega (arith, follow.0), omega (arith, follow.0))))
    (λ past.
    let (k, in_range, there) = cell_there (first + cell.count) cells v d follow.2 past (omega (arith, var_count-cons cell cells)) in
    (suc k, omega arith, there))
    (cases_lt v (first + cell.count))

-- and that is the last that doesn't begin after it
pub cell_of_var_is : (cells : List VarCell) (after v : ℕ) (d : VarCell) → FollowFrom 0 cells → v < var_count cells → IsPartitionPoint (λ (cell : VarCell). leb cell.first v ≡ true) (λ (cell : VarCell). leb cell.first v ≡ false) cells after → after ≤ length cells → (0 < after) × IsIn (get_or cells (after - 1) d) v
cell_of_var_is cells after v d follow known point bound =
    let (k, in_range, there) = cell_there 0 cells v d follow (omega arith) (omega arith) in
    let place = cell_of_var cells after v k d follow point bound in_range there in
    (omega arith, subst (λ (i : ℕ). IsIn (get_or cells i d) v) (let same : k ≡ after - 1 = omega arith in same) there)

-- a cell ends where a later one begins, or before
pub ends_before : (cells : List VarCell) (j k : ℕ) (d : VarCell) → FollowFrom 0 cells → j < k → k < length cells → (get_or cells j d).first + (get_or cells j d).count ≤ (get_or cells k d).first
ends_before cells j k d follow before in_range =
    let next = follow_next 0 cells j d follow (omega arith) in
    let rise = cells_rise cells follow (j + 1) k d (omega arith) in_range in
    omega arith

-- so a variable lies in one cell
pub same_cell : (cells : List VarCell) (j k v : ℕ) (d : VarCell) → FollowFrom 0 cells → j < length cells → k < length cells → IsIn (get_or cells j d) v → IsIn (get_or cells k d) v → j ≡ k
same_cell cells j k v d follow j_in k_in (j_low, j_high) (k_low, k_high) =
    ⊎_elim
    (λ same. same)
    (λ differ.
    absurd (⊎_elim
    (λ before. let apart = ends_before cells j k d follow before k_in in omega arith)
    (λ after. let apart = ends_before cells k j d follow after j_in in omega arith)
    differ))
    (cases_order j k)

-- no cell is empty
pub has_vars : (first : ℕ) (cells : List VarCell) (k : ℕ) (cell : VarCell) → FollowFrom first cells → slice_get cells k ≡ Some cell → 0 < cell.count
has_vars first [] k cell follow there = cc
has_vars first (x ∷ cells) zero cell follow there = let same : x ≡ cell = cc in rw (sym same) follow.1
has_vars first (x ∷ cells) (suc k) cell follow there = has_vars (first + x.count) cells k cell follow.2 there
