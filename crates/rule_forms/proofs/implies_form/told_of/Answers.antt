use Rattle.std.proofs.Common.{sym, subst}
use Rattle.cfd_implication.specs.Answers.{IsImplicationAnswer}
use Rattle.cfd_implication.specs.Question.{AskedDep}
use Rattle.cli_output.specs.declared.status.Status.{Status}
use Rattle.rule_forms.specs.ImpliesForm.{implies_outputs}
use Rattle.rule_forms.proofs.CertAnswers.{dep_told}
use Rattle.rule_forms.proofs.implies_form.told_of.Goals as goal

pub returns-clause-output : goal.returns-clause-output
returns-clause-output c =
    let asked = c.args.asked.now in
    let budget = c.args.budget in
    let answer = c.in_ok-answer.answer in
    let text = c.in_ok-text.text.items in
    let question-is = c.in_ok-question.ensures.asked in
    let answered = subst (λ (q : AskedDep). IsImplicationAnswer q.schema q.deps q.dep budget answer) question-is c.in_ok-answer.ensures in
    let right = c.in_ok-text.ensures.right asked.rules asked.dep c.in_ok-question.ensures.valid question-is in
    subst (λ (status : Status). implies_outputs budget asked text status) (sym c.implication_status-status.ensures.status) (dep_told asked.rules asked.dep budget answer text answered right)
