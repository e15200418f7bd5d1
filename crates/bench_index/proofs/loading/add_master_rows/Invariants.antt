use Rattle.std.proofs.Common.{◌+◌, ◌-◌, ◌*◌, ◌≤◌}
use Rattle.std.specs.FinMap as finite
use Rattle.master_index.specs.Masters.{lists_of}
use Rattle.bench_index.specs.Loading.{LoadedAsMaster, rows_below}
use Rattle.bench_index.proofs.loading.add_master_rows.Given as goal

abbrev pub invariant-loop-row : goal.invariant-loop-row
invariant-loop-row g l = record {
  from : 1 ≤ l.row;
  upto : l.row - 1 ≤ l.store.next - 1;
  loaded : LoadedAsMaster l.is_master l.table (rows_below l.row (finite.get l.store.rows)) l.initial.masters l.masters;
  probes : l.steps ≤ l.initial.steps + (l.row - 1) * (2 * lists_of l.initial.masters.lists l.table);
}
