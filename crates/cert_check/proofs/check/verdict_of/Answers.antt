use Rattle.std.proofs.Common.{◌≡◌, ℕ, List, Option, ◌∙◌, sym, ap, subst}
use Rattle.std.specs.Prelude.{IfOk}
use Rattle.schema_core.specs.Schemas.{table_place}
use Rattle.schema_core.specs.declared.schema.Schema.{Schema}
use Rattle.cert_text.specs.declared.cert.Question.{Question}
use Rattle.cert_check.specs.Verdict.{ConsistencyLines, LineOf, QuestionLines}
use Rattle.cert_check.proofs.check.verdict_of.Goals as goal

pub returns-in-Consistent-clause-verdict : goal.returns-in-Consistent-clause-verdict
returns-in-Consistent-clause-verdict c =
    let rules = c.args.rules.now in
    let line = c.args.cert.now.asked.line in
    let answer = c.args.cert.now.answer in
    let found-is : c.table_named-found.result ≡ table_place rules.schema c.in-Consistent.table =
    c.table_named-found.ensures.place ∙ ap (λ (schema : Schema). table_place schema c.as_str.result.now) c.schema-schema.ensures.schema ∙ ap (λ (name : List ℕ). table_place rules.schema name) c.as_str.ensures.bytes in
    subst (λ (question : Question). IfOk c.check_consistency.result (QuestionLines rules line question answer)) (sym c.in-Consistent.is)
    (subst (λ (found : Option ℕ). IfOk c.check_consistency.result (LineOf line found (ConsistencyLines rules answer))) found-is c.check_consistency.ensures)
