use Rattle.std.proofs.Common.{arith}
use Rattle.case_search.proofs.Around.{cell_ends, wanted_of}
use Rattle.case_search.proofs.step.is_wanted.Goals as goal

pub lacks_true-requires : goal.lacks_true-requires
lacks_true-requires c =
    cell_ends c.args.clauses.now c.cells-cells.result.now c.cell_of-at.result _ c.cells-cells.ensures.well_formed c.cells-cells.ensures.cells (omega (arith, c.if-at-cells.false))

pub returns-clause-wanted : goal.returns-clause-wanted
returns-clause-wanted c =
    λ yes.
    wanted_of c.args.clauses.now c.args.trail.now.path c.cells-cells.result.now c.cell_of-at.result c.args.var _ c.cells-cells.ensures.cells (omega (arith, c.if-at-cells.false)) c.cell_of-at.ensures.lies (c.lacks_true.ensures.demanded yes) (c.lacks_true.ensures.none yes)
