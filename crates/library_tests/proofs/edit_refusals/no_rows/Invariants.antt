use Rattle.std.proofs.Common.{ℕ, take}
use Rattle.schema_core.specs.Rows.{IsRowOf}
use Rattle.schema_core.specs.declared.schema.Table.{Table}
use Rattle.std.specs.List.{All, AllZip}
use Rattle.library_tests.proofs.edit_refusals.no_rows.Given as goal

abbrev pub invariant-loop-table : goal.invariant-loop-table
invariant-loop-table l = (cell_bytes : ℕ) → AllZip (λ (table : Table) rows. All (IsRowOf table.attrs cell_bytes) rows) (take l.table-index l.schema.tables) l.tables
