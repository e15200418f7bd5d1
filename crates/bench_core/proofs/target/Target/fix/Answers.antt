use Rattle.std.proofs.Common.{◌≡◌, Ok, Some, refl, sym, ap, ◌∙◌}
use Rattle.std.proofs.lemmas.Option.{IfSome_then}
use Rattle.row_store.specs.Tuple.{ids_of, ids_behind}
use Rattle.bench_core.specs.Edited.{after_fix, require_row, refusal_of}
use Rattle.bench_core.specs.Stored.{HaveTexts, stored, table_state}
use Rattle.bench_core.proofs.Steps.{handed_on}
use Rattle.row_takers.proofs.Kept.{AreIds, have-kept}
use Rattle.bench_core.proofs.Planned.{fix-absent, fix-refused, fix-done, have-texts, below-row, for_some}
use Rattle.bench_core.proofs.target.Target.fix.Goals as goal

pub returns-in_default-clause-edited : goal.returns-in_default-clause-edited
returns-in_default-clause-edited c = fix-absent c.args.self.now.limits.now c.args.self.now.table.now c.args.pool.now (stored c.args.self.now.store.now) c.args.row c.args.values.now (sym c.get.ensures ∙ ap ids_behind c.in_default.is)

pub returns-clause-edited : goal.returns-clause-edited
returns-clause-edited c =
    let at = sym c.get.ensures ∙ ap ids_behind c.in-Some.is in
    let are : AreIds c.intern_all.new.pool (ids_of c.in_ok-new.new) c.args.values.now = record { same = c.in_ok-new.ensures.texts ∙ c.as_slice-2.ensures; named = c.in_ok-new.ensures.named } in
    let passed : require_row c.args.self.now.limits.now c.args.self.now.table.now c.args.values.now ≡ Ok tt = rw c.as_slice.ensures at c.in_ok-check_row.ensures in
    fix-done c.args.pool.now c.intern_all.new.pool c.intern_all.ensures.kept (stored c.args.self.now.store.now) c.requires.named c.args.self.now.limits.now c.args.self.now.table.now c.args.row (ids_of c.in-Some.old.now) (ids_of c.in_ok-new.new) c.args.values.now at are passed

pub returns-clause-planned : goal.returns-clause-planned
returns-clause-planned c =
    let at = sym c.get.ensures ∙ ap ids_behind c.in-Some.is in
    let same : ids_of c.in_ok-clone.field-0 ≡ ids_of c.in-Some.old.now = c.in_ok-clone.ensures.cases in
    let have = have-kept c.args.pool.now c.intern_all.new.pool c.intern_all.ensures.kept (ids_of c.in-Some.old.now) (have-texts c.args.pool.now (stored c.args.self.now.store.now) c.args.row (ids_of c.in-Some.old.now) c.requires.named at) in
    record {
      of_table = refl;
      can = record { old = at ∙ ap Some (sym same); next = below-row c.args.pool.now (stored c.args.self.now.store.now) c.args.row (ids_of c.in-Some.old.now) c.requires.state.below_next at };
      is = record { there = refl; old = for_some (HaveTexts c.intern_all.new.pool) (ids_of c.in_ok-clone.field-0) (rw same have); new = for_some (HaveTexts c.intern_all.new.pool) (ids_of c.in_ok-new.new) c.in_ok-new.ensures.named };
    }

pub returns-in_err-check_row-clause-edited : goal.returns-in_err-check_row-clause-edited
returns-in_err-check_row-clause-edited c =
    let at = sym c.get.ensures ∙ ap ids_behind c.in-Some.is in
    handed_on refusal_of (after_fix c.args.self.now.limits.now c.args.self.now.table.now (table_state c.args.pool.now (stored c.args.self.now.store.now)) c.args.row c.args.values.now) _ c.from_residual.result c.in_err-check_row.field-0.0 c.from_residual.ensures.1
    (IfSome_then (refusal_of c.in_err-check_row.field-0.0) (rw c.as_slice.ensures at c.in_err-check_row.ensures)
    (λ refusal told. fix-refused c.args.self.now.limits.now c.args.self.now.table.now c.args.pool.now (stored c.args.self.now.store.now) c.args.row (ids_of c.in-Some.old.now) c.args.values.now refusal at told))
