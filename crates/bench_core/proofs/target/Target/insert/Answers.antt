use Rattle.std.proofs.Common.{◌≡◌, Ok, true, nat_le, le-leb, ◌∙◌}
use Rattle.row_store.specs.Tuple.{ids_of}
use Rattle.bench_core.specs.Edited.{require_row}
use Rattle.bench_core.specs.Stored.{stored}
use Rattle.row_takers.proofs.Kept.{AreIds}
use Rattle.bench_core.proofs.Planned.{insert-done}
use Rattle.bench_core.proofs.target.Target.insert.Goals as goal

pub returns-clause-edited : goal.returns-clause-edited
returns-clause-edited c =
    let are : AreIds c.intern_all.new.pool (ids_of c.in_ok-new.new) c.args.values.now = record { same = c.in_ok-new.ensures.texts ∙ c.as_slice-2.ensures; named = c.in_ok-new.ensures.named } in
    let passed : require_row c.args.self.now.limits.now c.args.self.now.table.now c.args.values.now ≡ Ok tt = rw c.as_slice.ensures at c.in_ok-check_row.ensures in
    let left : nat_le c.args.self.now.store.now.next c.args.self.now.limits.now.last_id ≡ true = le-leb _ _ (rw c.next_id-row.ensures.value at c.if-row-self.false) in
    rw (c.if-not-self.false, c.next_id-row.ensures.value)
    (insert-done c.args.pool.now c.intern_all.new.pool c.intern_all.ensures.kept (stored c.args.self.now.store.now) c.requires.named c.args.self.now.limits.now c.args.self.now.table.now (ids_of c.in_ok-new.new) c.args.values.now are c.requires.state passed left)
