use Rattle.std.proofs.Common.{take}
use Rattle.value_pool.specs.Pool.{KeepsIds}
use Rattle.row_takers.specs.Taken.{texts_in}
use Rattle.row_takers.proofs.Kept.{AreIds}
use Rattle.row_takers.proofs.pooled.intern_all.Given as goal

abbrev pub invariant-loop-text : goal.invariant-loop-text
invariant-loop-text l = AreIds l.pool l.ids.items (texts_in (take l.text-index l.row)) × KeepsIds l.initial.pool l.pool
