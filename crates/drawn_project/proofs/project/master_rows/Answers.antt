use Rattle.std.proofs.Common.{◌++◌, List, ℕ, [], ◌∷◌, ap, sym, ◌∙◌, zero-add, le_antisymm}
use Rattle.std.proofs.lemmas.List.FromFn.{map-range_with_len_more}
use Rattle.drawn_project.specs.Project.{master_row, master_rows}
use Rattle.drawn_project.proofs.project.master_rows.Goals as goal

pub loop-number-init : goal.loop-number-init
unfolding master_rows
loop-number-init c = c.new-rows.ensures

pub loop-number-preserved : goal.loop-number-preserved
unfolding master_rows
loop-number-preserved c =
    c.in_ok-push.ensures.ok
    ∙ ap (λ (row : List (List ℕ)). c.loop-number.rows ++ row ∷ []) c.in_ok-master_row.ensures
    ∙ ap (λ (rows : List (List (List ℕ))). rows ++ master_row c.loop-number.number ∷ []) c.loop-number.invariant
    ∙ sym (map-range_with_len_more master_row 0 c.loop-number.number c.loop-number.number (zero-add c.loop-number.number))

pub returns : goal.returns
returns c = c.loop-number.invariant ∙ ap master_rows (le_antisymm c.loop-number.auto.number-end c.loop-number-test.false)
