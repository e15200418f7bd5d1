use Rattle.std.proofs.Common.{map}
use Rattle.row_store.specs.Tuple.{ids_of}
use Rattle.bench_core.specs.Stored.{AreInOrder, stored}
use Rattle.bench_core.proofs.loading.store_table.Given as goal

abbrev pub invariant-loop-tuple : goal.invariant-loop-tuple
invariant-loop-tuple l = AreInOrder (map ids_of l.yielded) (stored l.store)
