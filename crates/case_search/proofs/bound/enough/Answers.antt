use Rattle.std.proofs.Common.{ℕ, ◌+◌, ◌*◌, min, take, sym, ap, ◌∙◌}
use Rattle.case_tree.specs.CaseTree.{var_count}
use Rattle.case_search.specs.Enough.{choices}
use Rattle.case_search.proofs.Choices.{choices-demanded, choices-free, one_more}
use Rattle.case_search.proofs.bound.enough.Goals as goal
use Rattle.case_search.proofs.bound.enough.Goals.{then-cell, else-cell}

pub loop-cell-preserved : goal.loop-cell-preserved
loop-cell-preserved c =
    let cells = c.cells-cell-items.result.now in
    let vars = var_count c.args.clauses.now.cells + 1 in
    let so_far = c.loop-cell.invariant.product in
    record {
      cells = c.loop-cell.invariant.cells;
      product = elim c.if-cell.branch [
        | then-cell w ↦
            w.product-is ∙ w.min-product-then-cell.ensures ∙ ap (λ (n : ℕ). min (c.loop-cell.product * n) 1000001) w.min.ensures
            ∙ one_more c.loop-cell.product (choices (take c.loop-cell.cell-index cells)) vars _ 1000001 so_far
            ∙ ap (λ (n : ℕ). min (n * vars) 1000001) (sym (choices-demanded cells c.loop-cell.cell-index _ c.loop-cell-test.true w.if-cell.true))
        | else-cell w ↦ w.product-is ∙ so_far ∙ ap (λ (n : ℕ). min (n * vars) 1000001) (sym (choices-free cells c.loop-cell.cell-index _ c.loop-cell-test.true w.if-cell.false))
      ];
    }
