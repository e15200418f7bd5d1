use Rattle.std.proofs.Common.{◌≡◌, ℕ, ◌∙◌, sym, ap, false, get_or, Bool, Option, [], ◌∷◌, ◌++◌, List, arith}
use Rattle.std.specs.Prelude.{map, slice_index_or, find, ◌==◌}
use Rattle.std.specs.List.{range_with_len}
use Rattle.std.specs.Option.{option_map_or}
use Rattle.std.proofs.lemmas.Option.{slice_get-get_or}
use Rattle.std.proofs.lemmas.List.FromFn.{map-range_with_len_more}
use Rattle.schema_core.specs.Lookups.{domain_at}
use Rattle.schema_core.specs.declared.schema.Attr.{Attr}
use Rattle.schema_core.specs.declared.schema.Domain.{Domain}
use Rattle.schema_core.specs.declared.schema.Domain.TheVariants.{AnyText}
use Rattle.cell_values.specs.declared.values.CellValues.{CellValues}
use Rattle.cell_values.specs.Readings.{attr_text}
use Rattle.cell_values.proofs.readings.tuple_of.Goals as goal

pub loop-attr-preserved : goal.loop-attr-preserved
loop-attr-preserved c =
    let attrs = c.args.attrs.now in
    let cells = c.args.cells.now in
    let attr = c.loop-attr.attr in
    let truth : ℕ → Bool = λ var. slice_index_or c.args.truth.now var false in
    let found : ℕ → Option CellValues = λ at. find (λ (cell : CellValues). cell.attr == at) cells in
    let made : ℕ → List ℕ = λ at. attr_text c.args.which cells truth at (domain_at attrs at) (found at) in
    let item : Attr = c.index-attrs-attr.result in
    let domain-is : (get_or attrs attr item).domain ≡ domain_at attrs attr = sym (ap (λ (o : Option Attr). option_map_or (λ (a : Attr). a.domain) o AnyText) (slice_get-get_or attrs attr item c.loop-attr-test.true)) in
    let text : c.in_ok-attr_text.field-0 ≡ made attr = c.in_ok-attr_text.ensures ∙ ap (λ (domain : Domain). attr_text c.args.which cells truth attr domain (found attr)) domain-is in
    c.in_ok-push.ensures.ok
    ∙ ap (λ (tuple : List (List ℕ)). tuple ++ c.in_ok-attr_text.field-0 ∷ []) c.loop-attr.invariant
    ∙ ap (λ (t : List ℕ). map made (range_with_len 0 attr) ++ t ∷ []) text
    ∙ sym (map-range_with_len_more made 0 attr attr (omega arith))
