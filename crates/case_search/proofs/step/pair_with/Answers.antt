use Rattle.case_search.proofs.Around.{cell_ends, cell_in_range, cell_has, pair_holds}
use Rattle.case_search.proofs.step.pair_with.Goals as goal
use Rattle.std.proofs.Common.{sym}

pub other_true-requires : goal.other_true-requires
other_true-requires c =
    cell_ends c.args.clauses.now c.cells.result.now c.args.at _ c.cells.ensures.well_formed c.cells.ensures.cells (cell_in_range c.args.clauses.now c.cells.result.now c.args.at c.args.var c.cells.ensures.cells c.requires.there)

pub returns-then-other-var-clause-found : goal.returns-then-other-var-clause-found
returns-then-other-var-clause-found c =
    let (inside, differ, is_true) = c.in-Some.ensures.found in
    let same = c.cells.ensures.cells in
    pair_holds c.args.clauses.now c.args.trail.now.path c.cells.result.now c.args.at c.in-Some.other c.args.var _ same (cell_in_range c.args.clauses.now c.cells.result.now c.args.at c.args.var same c.requires.there) differ inside (cell_has c.args.clauses.now c.cells.result.now c.args.at c.args.var _ same c.requires.there) is_true c.requires.is_true

pub returns-else-other-var-clause-found : goal.returns-else-other-var-clause-found
returns-else-other-var-clause-found c =
    let (inside, differ, is_true) = c.in-Some.ensures.found in
    let same = c.cells.ensures.cells in
    pair_holds c.args.clauses.now c.args.trail.now.path c.cells.result.now c.args.at c.args.var c.in-Some.other _ same (cell_in_range c.args.clauses.now c.cells.result.now c.args.at c.args.var same c.requires.there) (λ e. differ (sym e)) (cell_has c.args.clauses.now c.cells.result.now c.args.at c.args.var _ same c.requires.there) inside c.requires.is_true is_true

pub returns-in-None-clause-none : goal.returns-in-None-clause-none
returns-in-None-clause-none c v other there is_true =
    c.in-None.ensures.none v other (cell_has c.args.clauses.now c.cells.result.now c.args.at v _ c.cells.ensures.cells there) is_true
