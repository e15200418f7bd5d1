use Rattle.std.proofs.Common.{◌≡◌, ◌+◌, ◌≤◌, take, drop}
use Rattle.std.specs.Prelude.{sum_by}
use Rattle.std.specs.List.{AllZip}
use Rattle.row_store.specs.Tuple.{ids_of}
use Rattle.row_store.specs.Watches.{HasAdded, probes_of}
use Rattle.row_store.proofs.watches.add_until_refused.Given as goal

-- the watches that were passed took the entries, those ahead are as they were
abbrev pub invariant-loop-place : goal.invariant-loop-place
invariant-loop-place g l = record {
  done : AllZip (HasAdded g.W.Watch l.table l.row (ids_of l.new)) (take l.place l.initial.watches) (take l.place l.watches);
  ahead : drop l.place l.watches ≡ drop l.place l.initial.watches;
  probes : l.steps ≤ l.initial.steps + sum_by (probes_of g.W.Watch l.table) (take l.place l.initial.watches);
}
