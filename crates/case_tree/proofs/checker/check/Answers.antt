use Rattle.std.proofs.Common.{List, subst}
use Rattle.case_tree.specs.declared.checker.Checked.{Checked}
use Rattle.case_tree.specs.declared.tree.Node.{Node}
use Rattle.case_tree.specs.Verdict.{IsVerdict}
use Rattle.case_tree.proofs.Soundness.{sound}
use Rattle.case_tree.proofs.Verdicts.{IsVerdict-closed, IsVerdict-partial, IsVerdict-wrong}
use Rattle.case_tree.proofs.checker.check.Goals as goal
use Rattle.case_tree.proofs.checker.check.Goals.{After-walk}

-- the walk's verdict is the tree's
verdict : (c : After-walk) → IsVerdict c.args.clauses.now c.args.tree.now c.walk.result
verdict c =
    subst (λ (nodes : List Node). IsVerdict c.args.clauses.now nodes c.walk.result) c.nodes.ensures.nodes c.walk.ensures.verdict

pub returns-clause-closed : goal.returns-clause-closed
returns-clause-closed c leaves =
    let told = verdict (goal.at.returns-clause-closed c).After-walk in
    (λ is. subst (λ (answer : Checked). IsVerdict c.args.clauses.now c.args.tree.now answer) is told, λ (refuted, counted). IsVerdict-closed _ _ _ leaves told refuted counted)

pub returns-clause-partial : goal.returns-clause-partial
returns-clause-partial c leaves =
    let told = verdict (goal.at.returns-clause-partial c).After-walk in
    (λ is. subst (λ (answer : Checked). IsVerdict c.args.clauses.now c.args.tree.now answer) is told, λ (open_one, counted). IsVerdict-partial _ _ _ leaves told open_one counted)

pub returns-clause-wrong : goal.returns-clause-wrong
returns-clause-wrong c node =
    let told = verdict (goal.at.returns-clause-wrong c).After-walk in
    (λ is. subst (λ (answer : Checked). IsVerdict c.args.clauses.now c.args.tree.now answer) is told, λ wrong. IsVerdict-wrong _ _ _ node told wrong)

pub returns-clause-sound : goal.returns-clause-sound
returns-clause-sound c leaves is =
    let told = verdict (goal.at.returns-clause-sound c).After-walk in
    sound _ _ (subst (λ (answer : Checked). IsVerdict c.args.clauses.now c.args.tree.now answer) is told).0
