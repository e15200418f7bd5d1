use Rattle.std.proofs.Common.{length, ◌-◌, ◌≡◌}
use Rattle.row_store.specs.Rows.{rows_left}
use Rattle.row_store.proofs.rows.RowsIterator.next.Given as goal

-- what was passed over was empty
abbrev pub invariant-loop-self : goal.invariant-loop-self
invariant-loop-self l = rows_left l.self ≡ rows_left l.initial.self

abbrev pub decreases-loop-self : goal.decreases-loop-self
decreases-loop-self l = length l.self.slots.now - l.self.place
