use Rattle.std.proofs.Common.{ap, ◌∙◌}
use Rattle.std.proofs.lemmas.Bool.{iff_false}
use Rattle.case_search.specs.Places.{list_of}
use Rattle.case_search.proofs.Around.{IfNone-weaker, none_by_true, none_by_other}
use Rattle.case_search.proofs.step.reason_by.Goals as goal

pub returns-then-gives-clause-none : goal.returns-then-gives-clause-none
returns-then-gives-clause-none c =
    IfNone-weaker c.pair_with.result _ _
    (none_by_true c.args.clauses.now c.args.trail.now.path c.args.last.var c.cell_of-cell.result (list_of c.args.guards.now) _ c.of.result.now c.cell_of-cell.ensures.well_formed c.requires.guarded c.requires.quiet (c.of.ensures ∙ ap (list_of c.args.guards.now) c.opposite.ensures) c.in_default.ensures.none c.cell_of-cell.ensures.lies (c.gives.ensures.0 c.if-gives.true))
    c.pair_with.ensures.none

pub returns-clause-none : goal.returns-clause-none
returns-clause-none c =
    none_by_other c.args.clauses.now c.args.trail.now.path c.args.last.var c.cell_of-cell.result (list_of c.args.guards.now) _ c.of.result.now c.cell_of-cell.ensures.well_formed c.requires.guarded c.requires.quiet (c.of.ensures ∙ ap (list_of c.args.guards.now) c.opposite.ensures) c.in_default.ensures.none c.cell_of-cell.ensures.lies (iff_false c.gives.ensures c.if-gives.false) (iff_false c.holds.ensures c.if-holds.false)
