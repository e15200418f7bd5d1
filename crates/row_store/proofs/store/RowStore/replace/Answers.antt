use Rattle.std.proofs.Common.{ap, sym, ◌∙◌}
use Rattle.std.specs.Prelude.{is_some}
use Rattle.row_store.proofs.RowsKept.{len_same, below_same}
use Rattle.row_store.proofs.store.RowStore.replace.Goals as goal

-- the row was there, so the number of rows stays, and so does what lies above their ids
pub invariant_of-self : goal.invariant_of-self
invariant_of-self c =
    let there = ap is_some c.swap_slot.ensures.old in
    rw c.swap_slot.ensures.rows (c.self.invariant.0 ∙ sym (len_same _ _ _ there), below_same _ _ _ _ there c.self.invariant.1)
