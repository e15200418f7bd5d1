use Rattle.std.proofs.Common.{◌≡◌, ◌++◌, List, subst}
use Rattle.std.specs.Prelude.{OnOk}
use Rattle.schema_core.specs.declared.schema.Attr.{Attr}
use Rattle.view_refusal.specs.Hints.{attr_parts, attrs_words, names_text}
use Rattle.view_refusal.proofs.Ends.{then_piece}
use Rattle.view_refusal.proofs.hints.push_attrs.Goals as goal

pub returns : goal.returns
returns c =
    let attrs = c.args.table.now.attrs in
    let before = c.push_attrs_words.new.out.items in
    then_piece c.push_names.result c.push_names.new.out.items before c.args.out.now.items (attrs_words c.args.table.now) (names_text attr_parts attrs)
    (subst (λ (xs : List Attr). OnOk c.push_names.result (c.push_names.new.out.items ≡ before ++ names_text attr_parts xs)) c.as_slice.ensures c.push_names.ensures) c.in_ok-push_attrs_words.ensures
