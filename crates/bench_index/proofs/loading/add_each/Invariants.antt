use Rattle.std.proofs.Common.{◌+◌, ◌-◌, ◌*◌, ◌≤◌}
use Rattle.std.specs.FinMap as finite
use Rattle.bench_index.specs.Loading.{HasLoaded, rows_below}
use Rattle.bench_index.proofs.loading.add_each.Given as goal

abbrev pub invariant-loop-row : goal.invariant-loop-row
invariant-loop-row g l = record {
  from : 1 ≤ l.row;
  upto : l.row - 1 ≤ l.store.next - 1;
  loaded : HasLoaded g.W.Watch l.table (rows_below l.row (finite.get l.store.rows)) l.initial.watch l.watch;
  probes : l.steps ≤ l.initial.steps + (l.row - 1) * g.W.Watch.cost (g.W.Watch.made l.initial.watch);
}
