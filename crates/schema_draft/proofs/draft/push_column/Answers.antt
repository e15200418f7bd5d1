use Rattle.std.proofs.Common.{◌≡◌, ap, length, subst, sym, ◌∙◌, arith}
use Rattle.std.specs.Prelude.{OnOk}
use Rattle.schema_core.specs.declared.schema.Attr.{Attr}
use Rattle.schema_draft.specs.Columns.{column_of}
use Rattle.schema_draft.proofs.Steps.{column_written}
use Rattle.schema_draft.proofs.draft.push_column.Goals as goal

pub returns : goal.returns
returns c =
    subst (λ t. OnOk c.push_notes.result (c.push_notes.new.out.items ≡ t))
    (column_written c.args.sheet.now c.args.place c.as_slice-attrs.result.now c.index-attrs-place.result _ c.names_column-fits.result c.as_slice-2.result.now c.args.out.now.items c.push_attr.new.out.items c.as_slice-attrs.ensures
    (omega (arith, c.requires, ap length c.as_slice-attrs.ensures)) c.index-attrs-place.is (sym (ap (λ (a : Attr). a.name) c.index-attrs-place.is)) c.names_column-fits.ensures
    (c.as_slice-2.ensures ∙ c.in_ok-values.ensures ∙ ap (λ rows. column_of rows c.args.place) c.as_slice.ensures) c.in_ok-push_attr.ensures)
    c.push_notes.ensures
