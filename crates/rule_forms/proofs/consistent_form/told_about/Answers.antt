use Rattle.std.proofs.Common.{◌≡◌, sym, subst}
use Rattle.schema_core.specs.Lookups.{table_number}
use Rattle.rule_parser.specs.RuleText.{table_name}
use Rattle.rule_parser.proofs.Numbered.{table_number-name}
use Rattle.cfd_consistency.specs.Question.{AskedTable}
use Rattle.cert_check.specs.Made.{name_of}
use Rattle.cli_output.specs.declared.status.Status.{Status}
use Rattle.rule_forms.specs.ConsistentForm.{consistency_status, consistent_outputs}
use Rattle.rule_forms.proofs.CertAnswers.{table_told}
use Rattle.rule_forms.proofs.consistent_form.told_about.Goals as goal

pub consistency_text-requires : goal.consistency_text-requires
consistency_text-requires c = record { budget = c.args.budget; some = c.requires.some; within = c.requires.within; answer = c.in_ok-answer.ensures }

pub returns-clause-output : goal.returns-clause-output
returns-clause-output c =
    let rules = c.args.rules.now in
    let table = c.args.table in
    let budget = c.args.budget in
    let answer = c.in_ok-answer.answer in
    let text = c.in_ok-text.text.items in
    let asked-is = c.in_ok-asked.ensures.asked in
    let number = subst (λ (a : AskedTable). table_number a.rules.schema (name_of a) ≡ a.table) (sym asked-is) (table_number-name rules.schema table c.in_ok-asked.ensures.valid.schema c.requires.there) in
    let told = table_told c.in_ok-asked.asked budget answer text number c.in_ok-answer.ensures c.in_ok-text.ensures in
    subst (λ (status : Status). consistent_outputs (table_name rules.schema table) budget rules text status) (sym c.consistency_status-status.ensures.status)
    (subst (λ (a : AskedTable). consistent_outputs (name_of a) budget a.rules text (consistency_status answer)) asked-is told)
