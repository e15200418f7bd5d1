use Rattle.view_schema.specs.SchemaForm.{fetch_sheet}
use Rattle.cli_output.proofs.EachLoop.{IsUnderWay}
use Rattle.view_schema.proofs.fetch_sheets.Given as goal

abbrev pub invariant-loop-table : goal.invariant-loop-table
invariant-loop-table g l = IsUnderWay (fetch_sheet l.limits) l.tables l.table-index l.sheets (g.S.Shelf.told l.fn.shelf) (g.S.Shelf.told l.shelf) l.fn.left l.left
