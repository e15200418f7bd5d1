use Rattle.std.proofs.Common.{◌≡◌, Ok, Some, None, length, refl, sym, ap, ◌∙◌}
use Rattle.std.specs.List.{slice_get}
use Rattle.std.proofs.lemmas.Option.{IfSome_then, slice_get_read}
use Rattle.schema_core.specs.Schemas.{attr_place}
use Rattle.row_store.specs.Tuple.{ids_of, ids_behind}
use Rattle.bench_core.specs.Edited.{after_set, require_text, refusal_of}
use Rattle.bench_core.specs.Stored.{HaveTexts, stored, table_state}
use Rattle.bench_core.proofs.Steps.{handed_on}
use Rattle.row_takers.proofs.Kept.{have-kept}
use Rattle.bench_core.proofs.Planned.{set-absent, set-no-attr, set-refused, set-done, have-texts, below-row, for_some, wide}
use Rattle.bench_core.proofs.target.Target.set.Goals as goal

pub returns-in_default-clause-edited : goal.returns-in_default-clause-edited
returns-in_default-clause-edited c = set-absent c.args.self.now.limits.now c.args.self.now.table.now c.args.pool.now (stored c.args.self.now.store.now) c.args.row c.args.attr.now c.args.value.now (sym c.get.ensures ∙ ap ids_behind c.in_default.is)

pub returns-in_default-attr_named-clause-edited : goal.returns-in_default-attr_named-clause-edited
returns-in_default-attr_named-clause-edited c =
    let at = sym c.get.ensures ∙ ap ids_behind c.in-Some.is in
    let none : attr_place c.args.self.now.table.now c.args.attr.now ≡ None = rw (← c.as_str.ensures.bytes) (sym c.attr_named.ensures.place ∙ c.in_default-attr_named.is) in
    set-no-attr c.args.self.now.limits.now c.args.self.now.table.now c.args.pool.now (stored c.args.self.now.store.now) c.args.row (ids_of c.in-Some.old.now) c.args.attr.now c.args.value.now at none

pub returns-in_err-check_text-clause-edited : goal.returns-in_err-check_text-clause-edited
returns-in_err-check_text-clause-edited c =
    let attrs = c.args.self.now.table.now.attrs in
    let column = c.in-Some-attr_named.column in
    let attr = c.index-as_slice-column.result in
    let old = c.in-Some.old.now in
    let at = sym c.get.ensures ∙ ap ids_behind c.in-Some.is in
    let named : attr_place c.args.self.now.table.now c.args.attr.now ≡ Some column = rw (← c.as_str.ensures.bytes) (sym c.in-Some-attr_named.ensures.place) in
    let there : slice_get attrs column ≡ Some attr = slice_get_read attrs (length attrs) column attr refl c.in-Some-attr_named.ensures.found.0 (rw c.as_slice.ensures at c.index-as_slice-column.is) in
    handed_on refusal_of (after_set c.args.self.now.limits.now c.args.self.now.table.now (table_state c.args.pool.now (stored c.args.self.now.store.now)) c.args.row c.args.attr.now c.args.value.now) _ c.from_residual.result c.in_err-check_text.field-0.0 c.from_residual.ensures.1
    (IfSome_then (refusal_of c.in_err-check_text.field-0.0) c.in_err-check_text.ensures
    (λ refusal told. set-refused c.args.self.now.limits.now c.args.self.now.table.now c.args.pool.now (stored c.args.self.now.store.now) c.args.row (ids_of old) c.args.attr.now c.args.value.now column attr refusal at named there told))

pub with_text-requires-clause-column : goal.with_text-requires-clause-column
with_text-requires-clause-column c =
    let at = sym c.get.ensures ∙ ap ids_behind c.in-Some.is in
    let long = wide c.args.pool.now (stored c.args.self.now.store.now) c.args.row c.args.self.now.limits.now.cell_bytes c.args.self.now.limits.now.last_id c.args.self.now.table.now (ids_of c.in-Some.old.now) c.requires.state at in
    rw long c.in-Some-attr_named.ensures.found.0

pub with_text-requires-clause-named : goal.with_text-requires-clause-named
with_text-requires-clause-named c = have-texts c.args.pool.now (stored c.args.self.now.store.now) c.args.row (ids_of c.in-Some.old.now) c.requires.named (sym c.get.ensures ∙ ap ids_behind c.in-Some.is)

pub returns-clause-edited : goal.returns-clause-edited
returns-clause-edited c =
    let attrs = c.args.self.now.table.now.attrs in
    let column = c.in-Some-attr_named.column in
    let attr = c.index-as_slice-column.result in
    let at = sym c.get.ensures ∙ ap ids_behind c.in-Some.is in
    let named : attr_place c.args.self.now.table.now c.args.attr.now ≡ Some column = rw (← c.as_str.ensures.bytes) (sym c.in-Some-attr_named.ensures.place) in
    let there : slice_get attrs column ≡ Some attr = slice_get_read attrs (length attrs) column attr refl c.in-Some-attr_named.ensures.found.0 (rw c.as_slice.ensures at c.index-as_slice-column.is) in
    let passed : require_text c.args.self.now.limits.now attr c.args.value.now ≡ Ok tt = c.in_ok-check_text.ensures in
    set-done c.args.pool.now c.with_text.new.pool c.with_text.ensures.kept (stored c.args.self.now.store.now) c.requires.named c.args.self.now.limits.now c.args.self.now.table.now c.args.row (ids_of c.in-Some.old.now) (ids_of c.in_ok-new.new) c.args.attr.now c.args.value.now column attr at
    (record { same = c.in_ok-new.ensures.texts; named = c.in_ok-new.ensures.named }) named there passed

pub returns-clause-planned : goal.returns-clause-planned
returns-clause-planned c =
    let at = sym c.get.ensures ∙ ap ids_behind c.in-Some.is in
    let same : ids_of c.in_ok-clone.field-0 ≡ ids_of c.in-Some.old.now = c.in_ok-clone.ensures.cases in
    let have = have-kept c.args.pool.now c.with_text.new.pool c.with_text.ensures.kept (ids_of c.in-Some.old.now) (have-texts c.args.pool.now (stored c.args.self.now.store.now) c.args.row (ids_of c.in-Some.old.now) c.requires.named at) in
    record {
      of_table = refl;
      can = record { old = at ∙ ap Some (sym same); next = below-row c.args.pool.now (stored c.args.self.now.store.now) c.args.row (ids_of c.in-Some.old.now) c.requires.state.below_next at };
      is = record { there = refl; old = for_some (HaveTexts c.with_text.new.pool) (ids_of c.in_ok-clone.field-0) (rw same have); new = for_some (HaveTexts c.with_text.new.pool) (ids_of c.in_ok-new.new) c.in_ok-new.ensures.named };
    }
