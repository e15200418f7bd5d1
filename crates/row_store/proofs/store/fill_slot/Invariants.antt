use Rattle.std.proofs.Common.{◌≡◌, ◌≤◌, ◌-◌, vec_len, vec_capacity}
use Rattle.row_store.specs.Slots.{rows_in}
use Rattle.row_store.proofs.store.fill_slot.Given as goal

-- empty slots are put until the place is reached, and no row changes
abbrev pub invariant-loop-slots : goal.invariant-loop-slots
invariant-loop-slots l = (vec_len l.slots ≤ l.place) × (rows_in l.slots.items ≡ rows_in l.initial.slots.items) × (vec_capacity l.slots ≡ vec_capacity l.initial.slots)

abbrev pub decreases-loop-slots : goal.decreases-loop-slots
decreases-loop-slots l = l.place - vec_len l.slots
