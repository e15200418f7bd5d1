use Rattle.std.proofs.Common.{◌≡◌, ◌+◌, ◌-◌, ◌*◌, ◌≤◌, take, drop}
use Rattle.std.specs.Prelude.{sum_by}
use Rattle.std.specs.FinMap as finite
use Rattle.std.specs.List.{AllZip}
use Rattle.row_store.specs.Watches.{probes_of}
use Rattle.bench_index.specs.Loading.{HasLoaded}
use Rattle.bench_index.proofs.loading.add_table_to_all.Given as goal

-- the watches that were passed took the rows, those ahead are as they were
abbrev pub invariant-loop-watch : goal.invariant-loop-watch
invariant-loop-watch g l = record {
  done : AllZip (HasLoaded g.W.Watch l.table (finite.get l.store.rows)) (take l.watch-index l.initial.watches) (take l.watch-index l.watches);
  ahead : drop l.watch-index l.watches ≡ drop l.watch-index l.initial.watches;
  probes : l.steps ≤ l.initial.steps + (l.store.next - 1) * sum_by (probes_of g.W.Watch l.table) (take l.watch-index l.initial.watches);
}
