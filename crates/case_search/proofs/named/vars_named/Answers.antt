use Rattle.case_search.proofs.Around.{cell_ends}
use Rattle.case_search.proofs.named.vars_named.Goals as goal

pub vars_of_cell-requires : goal.vars_of_cell-requires
vars_of_cell-requires c =
    cell_ends c.args.clauses.now c.cells-cells.result.now c.in-NoneOf.at _ c.cells-cells.ensures.well_formed c.cells-cells.ensures.cells c.if-at-cells.true
