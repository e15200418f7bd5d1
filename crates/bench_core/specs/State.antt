-- The state of a bench: for each table of the schema its rows by rising ids, and the id that its next row gets.
use Rattle.std.specs.Prelude.{ℕ, ◌+◌, ◌<◌, ◌≤◌, ◌==◌, Bool, not, if◌then◌else◌, List, [], ◌∷◌, ◌++◌, map, filter, find, Option, All}
use Rattle.std.specs.Option.{option_map, option_map_or}
use Rattle.std.specs.List.{AllPairs, slice_get}
use Rattle.schema_core.specs.Rows.{IsRowOf}
use Rattle.schema_core.specs.declared.schema.Table.{Table}

-- a row is its id and its texts, one an attribute
abbrev pub Row : Type 0
Row = ℕ × List (List ℕ)

pub record TableState : Type 0 where
  pub rows : List Row
  pub next_id : ℕ

-- the tables in the order of the schema
abbrev pub State : Type 0
State = List TableState

-- the rows of a table by its number; a table that isn't there has none
abbrev pub rows_at : State → ℕ → List Row
rows_at state table = option_map_or (λ (t : TableState). t.rows) (slice_get state table) []

-- ---- rows by their ids

abbrev pub has_id : ℕ → Row → Bool
has_id id row = row.0 == id

-- the texts of the row with that id, if it is there
abbrev pub texts_of : TableState → ℕ → Option (List (List ℕ))
texts_of table id = option_map (λ (row : Row). row.1) (find (has_id id) table.rows)

-- the table with one more row, at its next id
abbrev pub with_row : TableState → List (List ℕ) → TableState
with_row table texts = record { rows = table.rows ++ (table.next_id, texts) ∷ []; next_id = table.next_id + 1 }

-- the table with other texts in the row with that id
abbrev pub with_texts : TableState → ℕ → List (List ℕ) → TableState
with_texts table id texts = record { rows = map (λ (row : Row). if has_id id row then (id, texts) else row) table.rows; next_id = table.next_id }

-- the table without the row with that id; the id isn't given again
abbrev pub without_row : TableState → ℕ → TableState
without_row table id = record { rows = filter (λ (row : Row). not (has_id id row)) table.rows; next_id = table.next_id }

-- ---- which states a table may have

-- its rows are rows of its attributes, with rising ids from 1 on that lie below the next id
pub record IsTableState (cell_bytes last_id : ℕ) (table : Table) (state : TableState) : Type 0 where
  pub fit : All (λ (row : Row). IsRowOf table.attrs cell_bytes row.1) state.rows
  pub from_one : All (λ (row : Row). 1 ≤ row.0) state.rows
  pub rising : AllPairs (λ (row later : Row). row.0 < later.0) state.rows
  pub below_next : All (λ (row : Row). row.0 < state.next_id) state.rows
  pub next : (1 ≤ state.next_id) × (state.next_id ≤ last_id + 1)
