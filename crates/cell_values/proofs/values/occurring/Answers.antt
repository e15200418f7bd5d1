use Rattle.std.specs.Option.{option_map_or}
use Rattle.std.proofs.lemmas.Option.{slice_get-get_or}
use Rattle.schema_core.specs.declared.schema.Attr.{Attr}
use Rattle.schema_core.specs.declared.schema.Domain.{Domain}
use Rattle.schema_core.specs.declared.schema.Domain.TheVariants.{AnyText}
use Rattle.cell_values.specs.declared.values.CellValues.{CellValues}
use Rattle.std.proofs.Common.{◌≡◌, ℕ, ◌∙◌, sym, ap, get_or, Option, cond, [], ◌∷◌, ◌++◌, List}
use Rattle.schema_core.specs.Lookups.{domain_at}
use Rattle.cell_values.specs.TableRules.{occurs}
use Rattle.cell_values.specs.Values.{cell_values}
use Rattle.cell_values.proofs.Gathering.{occurring_more}
use Rattle.cell_values.proofs.values.occurring.Goals as goal

pub loop-attr-preserved : goal.loop-attr-preserved
loop-attr-preserved c =
    let attrs = c.args.attrs.now in
    let rules = c.args.rules.now in
    let attr = c.loop-attr.attr in
    let made : ℕ → CellValues = λ at. cell_values rules at (domain_at attrs at) in
    let item : Attr = c.index-attrs-attr.result in
    let domain-is : (get_or attrs attr item).domain ≡ domain_at attrs attr = sym (ap (λ (o : Option Attr). option_map_or (λ (a : Attr). a.domain) o AnyText) (slice_get-get_or attrs attr item c.loop-attr-test.true)) in
    c.in_ok-add_attr.ensures
    ∙ ap (λ (domain : Domain). c.loop-attr.cells ++ cond (occurs rules attr) (cell_values rules attr domain ∷ []) []) domain-is
    ∙ ap (λ (cells : List CellValues). cells ++ cond (occurs rules attr) (made attr ∷ []) []) c.loop-attr.invariant
    ∙ sym (occurring_more made (occurs rules) attr)
