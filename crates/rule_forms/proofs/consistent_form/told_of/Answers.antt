use Rattle.std.proofs.Common.{◌≡◌, ℕ, ◌<◌, List, length, IfOk, HoldsAt, ◌∙◌, subst}
use Rattle.schema_core.specs.declared.schema.Schema.{Schema}
use Rattle.schema_core.specs.declared.schema.Table.{Table}
use Rattle.rule_parser.proofs.Numbered.{table_name-there}
use Rattle.rule_forms.specs.ConsistentForm.{consistent_outputs}
use Rattle.rule_forms.proofs.consistent_form.told_of.Goals as goal

pub returns-clause-output : goal.returns-clause-output
returns-clause-output c =
    let rules = c.args.rules.now in
    let number = c.in-Some.number in
    let found = subst (λ (s : Schema). (number < length s.tables) × HoldsAt (λ (t : Table). t.name ≡ c.as_str.result.now) s.tables number) c.schema.ensures.schema c.in-Some.ensures.found in
    let named = table_name-there rules.schema number found.0 ∙ found.1 _ ∙ c.as_str.ensures.bytes in
    subst (λ (name : List ℕ). IfOk c.told_about.result (λ told. consistent_outputs name c.args.budget rules told.text.items told.status)) named c.told_about.ensures.output
