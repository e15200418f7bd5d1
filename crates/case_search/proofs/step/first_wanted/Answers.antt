use Rattle.std.proofs.Common.{◌≡◌, true, List, subst, ⊎_elim, arith}
use Rattle.std.specs.List.{All}
use Rattle.std.proofs.lemmas.List.{take_all}
use Rattle.std.proofs.lemmas.List.Elements.{All-more}
use Rattle.case_tree.specs.declared.clauses.VarCell.{VarCell}
use Rattle.case_tree.specs.declared.tree.Reason.TheVariants.{NoneOf}
use Rattle.case_search.specs.Step.{HasTrue}
use Rattle.case_search.proofs.Around.{cell_ends, known, none_holds}
use Rattle.case_search.proofs.step.first_wanted.Goals as goal

pub wanted_in-requires : goal.wanted_in-requires
wanted_in-requires c =
    cell_ends c.args.clauses.now c.cells-cells.result.now c.loop-at.at _ c.cells-cells.ensures.well_formed c.cells-cells.ensures.cells c.loop-at-test.true

pub returns-in-Some-clause-open : goal.returns-in-Some-clause-open
returns-in-Some-clause-open c = (
  known c.args.clauses.now c.cells-cells.result.now c.loop-at.at c.in-Some.var _ c.cells-cells.ensures.well_formed c.cells-cells.ensures.cells c.loop-at-test.true c.in-Some.ensures.found.0,
  c.in-Some.ensures.found.1,
)

pub loop-at-preserved : goal.loop-at-preserved
loop-at-preserved c =
    All-more (λ (cell : VarCell). cell.demanded ≡ true → HasTrue c.args.trail.now.path cell) c.cells-cells.result.now c.loop-at.at _ c.loop-at-test.true c.loop-at.invariant
    (λ demanded.
    ⊎_elim
    (λ some. some)
    (λ all_false. absurd (c.requires (NoneOf c.loop-at.at) (none_holds c.args.clauses.now c.args.trail.now.path c.cells-cells.result.now c.loop-at.at _ c.cells-cells.ensures.cells c.loop-at-test.true demanded all_false)))
    (c.in_default.ensures.none demanded))

pub returns-clause-none : goal.returns-clause-none
returns-clause-none c =
    let chosen : VarCell → Type 0 = λ cell. cell.demanded ≡ true → HasTrue c.args.trail.now.path cell in
    subst (λ (cells : List VarCell). All chosen cells) c.cells-cells.ensures.cells
    (subst (λ (cells : List VarCell). All chosen cells) (take_all c.loop-at.at c.cells-cells.result.now (omega arith)) c.loop-at.invariant)
