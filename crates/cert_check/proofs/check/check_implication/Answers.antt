use Rattle.std.proofs.Common.{Option, sym, subst}
use Rattle.std.specs.Prelude.{IfOk}
use Rattle.rule_model.specs.declared.dep.Dep.{Dep}
use Rattle.cert_text.specs.Written.{IsAnswerTo}
use Rattle.cert_text.specs.declared.answers.Kind.TheVariants.{Implication}
use Rattle.cert_text.specs.declared.cert.Answer.{Answer}
use Rattle.cert_check.specs.Verdict.{ImplicationLines, LineOf}
use Rattle.cert_check.proofs.OneTrees.{whole_tree}
use Rattle.cert_check.proofs.check.check_implication.Goals as goal

pub check_implication_tree-requires-clause-tree : goal.check_implication_tree-requires-clause-tree
check_implication_tree-requires-clause-tree c = whole_tree Implication c.in-Tree.lines (subst (λ (answer : Answer). IsAnswerTo Implication answer) c.in-Tree.is c.requires.answer)

pub returns-in-Tree : goal.returns-in-Tree
returns-in-Tree c =
    subst (λ (found : Option Dep). IfOk c.check_implication_tree.result (LineOf c.args.line found (ImplicationLines c.args.rules.now c.args.answer.now))) (sym c.in-Some.is)
    (subst (λ (answer : Answer). IfOk c.check_implication_tree.result (ImplicationLines c.args.rules.now answer c.in-Some.dep)) (sym c.in-Tree.is) c.check_implication_tree.ensures)
