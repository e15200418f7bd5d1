use Rattle.std.proofs.Common.{arith}
use Rattle.case_search.proofs.Around.{cell_ends}
use Rattle.case_search.proofs.hints.Hints.look_at_cell.Goals as goal

pub force_others-requires : goal.force_others-requires
force_others-requires c =
    cell_ends c.args.clauses.now c.cells-cells.result.now c.cell_of-at.result _ c.cells-cells.ensures.well_formed c.cells-cells.ensures.cells (omega (arith, c.if-at-cells.false))

pub force_last-requires : goal.force_last-requires
force_last-requires c =
    cell_ends c.args.clauses.now c.cells-cells.result.now c.cell_of-at.result _ c.cells-cells.ensures.well_formed c.cells-cells.ensures.cells (omega (arith, c.if-at-cells.false))
