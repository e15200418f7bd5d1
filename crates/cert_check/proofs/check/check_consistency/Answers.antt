use Rattle.std.proofs.Common.{ℕ, Option, sym, subst}
use Rattle.std.specs.Prelude.{IfOk}
use Rattle.cert_text.specs.Written.{IsAnswerTo}
use Rattle.cert_text.specs.declared.answers.Kind.TheVariants.{Consistency}
use Rattle.cert_text.specs.declared.cert.Answer.{Answer}
use Rattle.cert_check.specs.Verdict.{ConsistencyLines, LineOf}
use Rattle.cert_check.proofs.OneTrees.{whole_tree}
use Rattle.cert_check.proofs.check.check_consistency.Goals as goal

pub check_consistency_tree-requires-clause-tree : goal.check_consistency_tree-requires-clause-tree
check_consistency_tree-requires-clause-tree c = whole_tree Consistency c.in-Tree.lines (subst (λ (answer : Answer). IsAnswerTo Consistency answer) c.in-Tree.is c.requires.answer)

pub returns-in-Tree : goal.returns-in-Tree
returns-in-Tree c =
    subst (λ (found : Option ℕ). IfOk c.check_consistency_tree.result (LineOf c.args.line found (ConsistencyLines c.args.rules.now c.args.answer.now))) (sym c.in-Some.is)
    (subst (λ (answer : Answer). IfOk c.check_consistency_tree.result (ConsistencyLines c.args.rules.now answer c.in-Some.table)) (sym c.in-Tree.is) c.check_consistency_tree.ensures)
