-- How tables are stored: rows are tuples of value ids, and an id is the place of its text in a list of texts.
use Rattle.std.specs.Prelude.{◌≡◌, ℕ, ◌+◌, List, [], ◌∷◌, ◌++◌, length, map, All}
use Rattle.std.specs.List.{enumerate_from}
use Rattle.std.specs.FinMap as finmap
use Rattle.row_store.specs.Store.{Store, Rows}
use Rattle.bench_core.specs.State.{Row, TableState, State}
-- the text with an id, and ids that have texts
pub use Rattle.row_takers.specs.Taken.{text_of, HaveTexts}

-- the rows of a table by their ids, and its next id
pub record Stored : Type 0 where
  pub rows : Rows
  pub next : ℕ

-- what a store holds, whatever room it has for more
abbrev pub stored : Store → Stored
stored store = record { rows = store.rows; next = store.next }

-- a row as it is stored: its id and its value ids
abbrev pub StoredRow : Type 0
StoredRow = ℕ × List ℕ

abbrev pub row_of : List (List ℕ) → StoredRow → Row
row_of texts row = (row.0, map (text_of texts) row.1)

-- the state of a table, and of all tables
abbrev pub table_state : List (List ℕ) → Stored → TableState
table_state texts table = record { rows = map (row_of texts) (finmap.entries table.rows); next_id = table.next }

abbrev pub state_of : List (List ℕ) → List Stored → State
state_of texts tables = map (table_state texts) tables

-- each id of each row has a text
abbrev pub RowsHaveTexts : List (List ℕ) → Rows → Type 0
RowsHaveTexts texts rows = All (λ (row : StoredRow). HaveTexts texts row.1) (finmap.entries rows)

-- ---- tables that are loaded

-- its rows have these tuples and the ids 1, 2, 3 in order
pub record AreInOrder (tuples : List (List ℕ)) (table : Stored) : Type 0 where
  pub entries-are : finmap.entries table.rows ≡ enumerate_from 1 tuples
  pub next-is : table.next ≡ length tuples + 1

-- there is one more table, which has these tuples
pub record HasOneMore (tuples : List (List ℕ)) (before after : List Stored) : Type 0 where
  pub table : Stored
  pub last : after ≡ before ++ table ∷ []
  pub in_order : AreInOrder tuples table
