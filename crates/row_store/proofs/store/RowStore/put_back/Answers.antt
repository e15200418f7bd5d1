use Rattle.std.proofs.Common.{◌+◌, ap, sym, ◌∙◌}
use Rattle.row_store.proofs.RowsKept.{len_more, below_more}
use Rattle.row_store.proofs.store.RowStore.put_back.Goals as goal

-- the id was free, so there is one row more, and it was given, so the next id lies above it
pub invariant_of-self : goal.invariant_of-self
invariant_of-self c =
    let absent = rw (← c.self.view_is) at c.requires.absent in
    let given = rw (← c.self.view_is) at c.requires.given in
    rw c.fill_slot.ensures.rows (ap (λ n. n + 1) c.self.invariant.0 ∙ sym (len_more _ _ _ absent), below_more _ _ _ _ given c.self.invariant.1)
