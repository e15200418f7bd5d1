-- The rows under the keys of a list of columns, beside the rows of tables. While a row changes, the list may have it by two
-- tuples, or not yet by the new one.
use Rattle.std.specs.Prelude.{◌≡◌, ◌≢◌, ℕ, ◌<◌, ◌==◌, ◌&&◌, ◌||◌, Bool, true, false, List, length, All, slice_get}
use Rattle.std.specs.FinMap as finite
use Rattle.std.specs.Option.{option_map_or}
use Rattle.std.specs.Str.{bytes_eq}
use Rattle.row_store.specs.Store.{Store}
use Rattle.row_store.specs.Tuple.{ids_at}
use Rattle.master_index.specs.declared.column_list.ColumnList.{ColumnList}
use Rattle.master_index.specs.ColumnRows.{KeyedRows, is_noted, is_under}
use Rattle.master_index.specs.Masters.{MasterRows}
use Rattle.master_index.specs.Tables.{rows_of_tables}

-- which rows of which tables have which tuples
abbrev pub Named : Type 0
Named = ℕ → ℕ → List ℕ → Bool

abbrev pub in_rows : MasterRows → Named
in_rows rows table row tuple = option_map_or (bytes_eq tuple) (finite.get rows (table, row)) false

abbrev pub in_tables : List Store → Named
in_tables stores = in_rows (rows_of_tables stores)

-- and one row by one more tuple
abbrev pub with_one : Named → ℕ → ℕ → List ℕ → Named
with_one named table row tuple t r ids = (t == table && (r == row && bytes_eq ids tuple)) || named t r ids

-- The list has all rows that it has to have under the keys of their tuples, and no other than it may have. Rows that it has to
-- have under one key have one id in each column that isn't noted there.
pub record IsBetween (sure may : Named) (list : ColumnList) (entries : KeyedRows) : Type 0 where
  pub there : (row : ℕ) (tuple : List ℕ) → sure list.master row tuple ≡ true → is_under (ids_at tuple list.columns) row entries ≡ true
  pub known : (ids : List ℕ) (row : ℕ) → is_under ids row entries ≡ true → (tuple : List ℕ) × (may list.master row tuple ≡ true) × (ids_at tuple list.columns ≡ ids)
  pub alike :
      (one other : ℕ) (tuple another : List ℕ) → one ≢ other → sure list.master one tuple ≡ true → sure list.master other another ≡ true
      → ids_at tuple list.columns ≡ ids_at another list.columns
      → (column : ℕ) → column < 64 → is_noted (ids_at tuple list.columns) column entries ≡ false → slice_get tuple column ≡ slice_get another column

-- it has exactly these
abbrev pub IsOver : Named → ColumnList → KeyedRows → Type 0
IsOver named = IsBetween named named

-- a tuple of the table reaches the list's columns
abbrev pub Reaches : ℕ → List ℕ → ColumnList → Type 0
Reaches table tuple list = list.master ≡ table → All (λ column. column < length tuple) list.columns
