use Rattle.case_search.proofs.Around.{cell_ends}
use Rattle.case_search.proofs.hints.Hints.wanted_split.Goals as goal

pub latest_open-requires : goal.latest_open-requires
latest_open-requires c =
    cell_ends c.args.clauses.now c.cells-cells.result.now _ _ c.cells-cells.ensures.well_formed c.cells-cells.ensures.cells c.if-at-cells.true
