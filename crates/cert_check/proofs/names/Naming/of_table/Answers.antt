use Rattle.std.proofs.Common.{ℕ, [], ◌∙◌, ap}
use Rattle.schema_core.specs.Lookups.{attrs_at}
use Rattle.schema_core.specs.declared.schema.Schema.{Schema}
use Rattle.rule_model.specs.Books.{Book, book_deps}
use Rattle.cell_values.specs.TableRules.{rules_with}
use Rattle.cert_check.proofs.Occurring.{within_of}
use Rattle.cert_check.proofs.names.Naming.of_table.Goals as goal

pub new-requires-clause-there : goal.new-requires-clause-there
new-requires-clause-there c =
    let asked = c.args.asked.now in
    let schema-is = c.schema.ensures.schema ∙ ap (λ (rules : Book). rules.schema) c.rules.ensures in
    let attrs-are = c.attrs_at-attrs.ensures ∙ ap (λ (schema : Schema). attrs_at schema c.table.result) schema-is ∙ ap (λ (table : ℕ). attrs_at asked.rules.schema table) c.table.ensures.table in
    within_of c.attrs_at-attrs.result.now (attrs_at asked.rules.schema asked.table) (rules_with asked.table (book_deps asked.rules) []) c.values.result.now attrs-are c.values.ensures.values
