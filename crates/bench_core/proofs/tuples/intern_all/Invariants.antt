use Rattle.std.proofs.Common.{take}
use Rattle.value_pool.specs.Pool.{KeepsIds}
use Rattle.row_takers.proofs.Kept.{AreIds}
use Rattle.bench_core.proofs.tuples.intern_all.Given as goal

abbrev pub invariant-loop-text : goal.invariant-loop-text
invariant-loop-text l = AreIds l.pool l.ids.items (take l.text-index l.texts) × KeepsIds l.initial.pool l.pool
