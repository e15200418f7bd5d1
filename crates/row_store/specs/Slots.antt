-- How slots hold rows: the slot at a place has the row whose id is that place, or is empty.
use Rattle.std.specs.Prelude.{ℕ, ◌+◌, List, [], ◌∷◌, Option, Some, None}
use Rattle.std.specs.FinMap as map
use Rattle.row_store.specs.Tuple.{Tuple, ids_of}
use Rattle.row_store.specs.Store.{Rows}

-- the rows in slots of which the first belongs to this id, by rising ids
abbrev pub entries_from : ℕ → List (Option Tuple) → List (ℕ × List ℕ)
entries_from id [] = []
entries_from id (None ∷ slots) = entries_from (id + 1) slots
entries_from id (Some tuple ∷ slots) = (id, ids_of tuple) ∷ entries_from (id + 1) slots

-- the rows in all slots
abbrev pub rows_in : List (Option Tuple) → Rows
rows_in slots = map.from_sorted (entries_from 0 slots)
