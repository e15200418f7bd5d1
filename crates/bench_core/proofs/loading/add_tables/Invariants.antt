use Rattle.std.proofs.Common.{ℕ, List, map}
use Rattle.bench_core.specs.Loading.{CanLoad}
use Rattle.bench_core.specs.Stored.{stored}
use Rattle.bench_core.proofs.SoFar.{AreStored}
use Rattle.bench_core.proofs.loading.add_tables.Given as goal

abbrev pub invariant-loop-tuples : goal.invariant-loop-tuples
invariant-loop-tuples g l =
    (texts : List (List ℕ)) → CanLoad l.fn.rules l.fn.limits texts l.fn.tables.items l.fn.counts l.fn.index → AreStored l.fn.rules l.fn.limits texts l.yielded (map stored l.stores.items) l.counts l.index l.fn.steps l.steps
