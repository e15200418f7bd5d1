-- Rows of a table file that go to a taker.
use Rattle.std.specs.Prelude.{◌≡◌, ◌≤◌, ◌++◌, ℕ, List, length, All, Ok}
use Rattle.row_takers.specs.declared.taker.RowTaker.{Ghosts}
use Rattle.text_lists.specs.declared.limits.Limits.{Limits}
use Rattle.schema_core.specs.declared.schema.Table.{Table}
use Rattle.schema_core.specs.Rows.{IsRowOf}
use Rattle.csv_tables.specs.TableFiles.{table_of}

module _ {Self : Type 0} (taker : Ghosts Self) where
  -- it took these rows after those that it had, and what it holds beside them is the same
  pub record HasTaken (those : List (List (List ℕ))) (before after : Self) : Type 0 where
    pub rows : taker.rows after ≡ taker.rows before ++ those
    pub beside : taker.beside after ≡ taker.beside before

  -- it took the rows that the bytes of a table file spell, each of them a row of the table
  pub record TakesRows (table : Table) (limits : Limits) (bytes : List ℕ) (before after : Self) : Type 0 where
    pub rows : List (List (List ℕ))
    pub spelled : table_of table limits bytes ≡ Ok rows
    pub taken : HasTaken rows before after
    pub valid : All (IsRowOf table.attrs limits.cell_bytes) rows
    pub few : length rows ≤ limits.rows
