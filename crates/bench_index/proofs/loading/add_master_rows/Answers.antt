use Rattle.std.proofs.Common.{◌≤◌, ◌*◌, arith}
use Rattle.master_index.specs.Masters.{lists_of}
use Rattle.bench_index.proofs.Loaded.{probes-end}
use Rattle.bench_index.proofs.loading.add_master_rows.Goals as goal

pub returns-clause-probes : goal.returns-clause-probes
returns-clause-probes g c =
    let end : c.args.store.now.next ≤ c.loop-row.row = omega (arith, c.loop-row-test.false, c.next_id-row-end.ensures.value) in
    probes-end c.loop-row.row c.args.store.now.next c.args.steps.now c.loop-row.steps (2 * lists_of c.args.masters.now.lists c.args.table) end c.loop-row.invariant.upto c.loop-row.invariant.probes
