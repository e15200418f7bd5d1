use Rattle.std.proofs.Common.{◌≡◌, ◌+◌, ◌-◌, arith}
use Rattle.row_store.proofs.RowsKept.{below_newest}
use Rattle.bench_core.proofs.Holding.{given-none}
use Rattle.bench_core.proofs.changes.take_newest.Goals as goal

pub set_next-requires : goal.set_next-requires
set_next-requires c =
    let given = given-none c.args.change.now.old c.args.change.now.row c.args.store.now.next c.requires.inserted c.requires.made.next in
    let above : c.next_id-newest.result ≡ c.next_id-newest.result - 1 + 1 = omega (arith, given, c.next_id-newest.ensures.value) in
    rw c.take.ensures.rows (below_newest c.args.store.now.rows (c.next_id-newest.result - 1) c.next_id-newest.result above c.next_id-newest.ensures.above)
