use Rattle.std.proofs.Common.{◌↔◌, List, ℕ, ◌∙◌, ap, subst}
use Rattle.std.specs.Prelude.{IsTrue}
use Rattle.schema_core.specs.Lookups.{attrs_at}
use Rattle.schema_core.specs.declared.schema.Attr.{Attr}
use Rattle.schema_core.specs.declared.schema.Schema.{Schema}
use Rattle.cert_check.specs.Shown.{IsShortTuple}
use Rattle.cert_check.proofs.check.is_tuple_of.Goals as goal

pub returns : goal.returns
returns c =
    let attrs-is = c.attrs_at.ensures ∙ ap (λ (schema : Schema). attrs_at schema c.args.table) c.schema.ensures.schema in
    subst (λ (attrs : List Attr). IsTrue c.is_short_tuple.result ↔ IsShortTuple attrs c.args.tuple.now) attrs-is
    (subst (λ (tuple : List (List ℕ)). IsTrue c.is_short_tuple.result ↔ IsShortTuple c.attrs_at.result.now tuple) c.as_slice.ensures c.is_short_tuple.ensures)
