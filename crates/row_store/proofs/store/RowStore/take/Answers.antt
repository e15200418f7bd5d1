use Rattle.std.proofs.Common.{ap, arith}
use Rattle.std.specs.Prelude.{is_some}
use Rattle.row_store.proofs.RowsKept.{there_counts}
use Rattle.row_store.proofs.store.RowStore.take.Goals as goal

-- a row is there, so there is at least one
pub overflow_sub-self : goal.overflow_sub-self
overflow_sub-self c = omega (arith, there_counts _ _ (ap is_some c.empty_slot-tuple.ensures.old), c.self.invariant.0)
