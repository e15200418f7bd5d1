-- What a master index keeps true of its parts.
use Rattle.std.specs.Prelude.{◌≡◌, ◌↔◌, ℕ, ◌<◌, false, List, map, All, Contains, IfSome}
use Rattle.std.specs.List.Sorted.{IsStrictlyIncreasing}
use Rattle.std.specs.FinMap as finite
use Rattle.master_index.specs.declared.column_index.ColumnIndex.{ColumnIndex}
use Rattle.master_index.specs.declared.rising.RowIds.{RowIds}
use Rattle.master_index.specs.Between.{Named, IsBetween, in_rows}
use Rattle.master_index.specs.ColumnRows.{listed, noted}
use Rattle.master_index.specs.Masters.{MasterRows, IsRowWith, IsWideFor, id_at}

-- an index of a list of columns, while a row changes, and in step with the rows
abbrev pub IndexIsBetween : Named → Named → ColumnIndex → Type 0
IndexIsBetween sure may index = IsBetween sure may index.list index.rows.entries

abbrev pub IndexIsOver : Named → ColumnIndex → Type 0
IndexIsOver named = IndexIsBetween named named

abbrev pub IsInStepWith : MasterRows → ColumnIndex → Type 0
IsInStepWith rows = IndexIsOver (in_rows rows)

-- each row reaches the columns that are read of its table
abbrev pub AreWide : List ColumnIndex → MasterRows → Type 0
AreWide columns rows = (table row : ℕ) → IfSome (finite.get rows (table, row)) (IsWideFor (map (λ index. index.list) columns) table)

-- the rows of each index are those of the map, and each row is wide enough for all
pub record IsMasterIndex (columns : List ColumnIndex) (rows : MasterRows) : Type 0 where
  pub in_step : All (IsInStepWith rows) columns
  pub wide : AreWide columns rows

-- These are the rows with the ids in the columns, and in each column that isn't noted all of them have one id.
pub record AreRowsWith (rows : MasterRows) (master : ℕ) (columns ids : List ℕ) (held : RowIds) : Type 0 where
  pub rising : IsStrictlyIncreasing (listed held)
  pub exactly : (row : ℕ) → Contains (listed held) row ↔ IsRowWith rows master columns ids row
  pub alike : (one other column : ℕ) → IsRowWith rows master columns ids one → IsRowWith rows master columns ids other → column < 64 → noted held column ≡ false
      → id_at rows master one column ≡ id_at rows master other column
