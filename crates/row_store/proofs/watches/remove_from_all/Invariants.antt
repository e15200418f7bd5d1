use Rattle.std.proofs.Common.{◌≡◌, ◌+◌, ◌≤◌, take, drop}
use Rattle.std.specs.Prelude.{sum_by}
use Rattle.std.specs.List.{AllZip}
use Rattle.row_store.specs.Tuple.{ids_of, ids_behind}
use Rattle.row_store.specs.Watches.{HasRemoved, probes_of}
use Rattle.row_store.proofs.watches.remove_from_all.Given as goal

abbrev pub invariant-loop-watch : goal.invariant-loop-watch
invariant-loop-watch g l = record {
  done : AllZip (HasRemoved g.W.Watch l.table l.row (ids_of l.old) (ids_behind l.new)) (take l.watch-index l.initial.watches) (take l.watch-index l.watches);
  ahead : drop l.watch-index l.watches ≡ drop l.watch-index l.initial.watches;
  probes : l.steps ≤ l.initial.steps + sum_by (probes_of g.W.Watch l.table) (take l.watch-index l.initial.watches);
}
