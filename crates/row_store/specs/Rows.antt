-- What a walk over the rows has left.
use Rattle.std.specs.Prelude.{ℕ, List, drop}
use Rattle.std.specs.Borrow.{Bor}
use Rattle.row_store.specs.Tuple.{Tuple, ids_of}
use Rattle.row_store.specs.Slots.{entries_from}
use Rattle.row_store.specs.declared.rows.Rows.{Rows}

-- an item of the walk: the row's id and its value ids
abbrev pub row_seen : ℕ × Bor Tuple → ℕ × List ℕ
row_seen item = (item.0, ids_of item.1.now)

-- the rows that are left, by rising ids
abbrev pub rows_left : Rows → List (ℕ × List ℕ)
rows_left walk = entries_from walk.place (drop walk.place walk.slots.now)
