use Rattle.std.proofs.Common.{refl, subst, arith}
use Rattle.std.proofs.lemmas.List.{take_all}
use Rattle.std.proofs.lemmas.List.Elements.{All-more}
use Rattle.std.specs.List.{All}
use Rattle.case_tree.specs.CaseTree.{IsFalseOn}
use Rattle.case_tree.proofs.reasons.are_all_false.Goals as goal

pub loop-literal-preserved : goal.loop-literal-preserved
loop-literal-preserved c =
    All-more (IsFalseOn c.args.trail.now.path) _ _ _ c.loop-literal-test.true c.loop-literal.invariant (c.gives.ensures.0 c.if-not-gives.false)

pub returns : goal.returns
returns c =
    (λ _. subst (All (IsFalseOn c.args.trail.now.path)) (take_all c.loop-literal.literal-index c.args.literals.now (omega arith)) c.loop-literal.invariant, λ _. refl)
