use Rattle.std.proofs.Common.{List, [], ◌∷◌, ◌∙◌, sym, ap, subst}
use Rattle.schema_core.specs.Lookups.{attrs_at}
use Rattle.schema_core.specs.declared.schema.Attr.{Attr}
use Rattle.rule_model.specs.declared.dep.Dep.{Dep}
use Rattle.cell_values.specs.TableRules.{rules_with}
use Rattle.cell_values.specs.declared.values.CellValues.{CellValues}
use Rattle.cert_text.specs.declared.answers.Kind.TheVariants.{Implication}
use Rattle.cfd_implication.specs.Question.{asked_values}
use Rattle.cert_check.specs.Made.{HaveNames}
use Rattle.cert_check.specs.Names.{Names, names_of}
use Rattle.cert_check.specs.Shown.{asks_from}
use Rattle.cert_check.proofs.Occurring.{within_of}
use Rattle.cert_check.proofs.QuestionNames.{names_from}
use Rattle.cert_check.proofs.NodesBack.{tree_named}
use Rattle.cert_check.proofs.tree_lines.tree_text.Goals as goal

pub new-names-requires-clause-there : goal.new-names-requires-clause-there
new-names-requires-clause-there c =
    let schema = c.args.schema.now in
    let dep = c.args.dep.now in
    let values-are = c.as_slice-2.ensures ∙ c.in_ok-values.ensures.values in
    within_of c.attrs_at.result.now (attrs_at schema dep.table) (rules_with dep.table c.as_slice.result.now (dep ∷ [])) c.as_slice-2.result.now c.attrs_at.ensures values-are

pub text_of-requires : goal.text_of-requires
text_of-requires c =
    let schema = c.args.schema.now in
    let deps = c.args.deps.now in
    let dep = c.args.dep.now in
    let asks = asks_from schema deps dep in
    let is = c.requires.tree in
    let named = tree_named asks.set asks.names (names_from schema deps dep c.requires.schema c.requires.dep) is.tree c.args.tree.now is.listed is.right in
    let values-are = c.as_slice-2.ensures ∙ c.in_ok-values.ensures.values ∙ ap (λ (ds : List Dep). asked_values schema ds dep) c.as_slice.ensures in
    let names-are = c.new-names.ensures ∙ ap (λ (attrs : List Attr). names_of Implication attrs c.as_slice-2.result.now) c.attrs_at.ensures ∙ ap (λ (values : List CellValues). names_of Implication (attrs_at schema dep.table) values) values-are in
    subst (λ (names : Names). HaveNames names c.args.tree.now) (sym names-are) named
