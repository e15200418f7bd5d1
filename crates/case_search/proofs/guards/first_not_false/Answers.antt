use Rattle.std.proofs.Common.{subst, arith}
use Rattle.std.proofs.lemmas.List.{take_all}
use Rattle.std.proofs.lemmas.List.Elements.{All-more}
use Rattle.std.specs.List.{All}
use Rattle.case_tree.specs.CaseTree.{IsFalseOn}
use Rattle.case_search.proofs.guards.first_not_false.Goals as goal

pub loop-literal-preserved : goal.loop-literal-preserved
loop-literal-preserved c =
    All-more (IsFalseOn c.args.trail.now.path) _ _ _ c.loop-literal-test.true c.loop-literal.invariant (c.gives.ensures.0 c.if-not-gives.false)

pub returns-clause-none : goal.returns-clause-none
returns-clause-none c =
    subst (All (IsFalseOn c.args.trail.now.path)) (take_all c.loop-literal.literal-index c.args.clause.now (omega arith)) c.loop-literal.invariant
