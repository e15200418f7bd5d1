use Rattle.std.proofs.Common.{◌≡◌, ◌+◌, ◌≤◌}
use Rattle.row_store.specs.Tuple.{ids_of}
use Rattle.master_index.specs.Between.{in_tables, with_one}
use Rattle.master_index.specs.InStep.{IndexIsOver}
use Rattle.master_index.proofs.IndexLists.{AheadAs, SoFar, cost_of, lists_in}
use Rattle.master_index.proofs.lists.add_to_each.Given as goal

abbrev pub invariant-loop-index : goal.invariant-loop-index
invariant-loop-index g l = record {
  done : SoFar (IndexIsOver (with_one (in_tables l.tables.stores.items) l.master l.row (ids_of l.tuple))) l.index-index l.columns;
  ahead : AheadAs l.index-index l.initial.columns l.columns;
  lists : lists_in l.columns ≡ lists_in l.initial.columns;
  probes : l.steps ≤ l.initial.steps + cost_of l.master l.initial.columns l.index-index;
}
