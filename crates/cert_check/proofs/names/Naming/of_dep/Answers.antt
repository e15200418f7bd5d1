use Rattle.std.proofs.Common.{[], ◌∷◌, ◌∙◌, ap}
use Rattle.schema_core.specs.Lookups.{attrs_at}
use Rattle.schema_core.specs.declared.schema.Schema.{Schema}
use Rattle.rule_model.specs.declared.dep.Dep.{Dep}
use Rattle.cell_values.specs.TableRules.{rules_with}
use Rattle.cert_check.proofs.Occurring.{within_of}
use Rattle.cert_check.proofs.names.Naming.of_dep.Goals as goal

pub new-requires-clause-there : goal.new-requires-clause-there
new-requires-clause-there c =
    let asked = c.args.asked.now in
    let attrs-are = c.attrs_at-attrs.ensures ∙ ap (λ (schema : Schema). attrs_at schema c.dep.result.now.table) c.schema.ensures.schema ∙ ap (λ (dep : Dep). attrs_at asked.schema dep.table) c.dep.ensures.dep in
    within_of c.attrs_at-attrs.result.now (attrs_at asked.schema asked.dep.table) (rules_with asked.dep.table asked.deps (asked.dep ∷ [])) c.values.result.now attrs-are c.values.ensures.values
