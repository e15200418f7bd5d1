use Rattle.project_files.proofs.TableLoop.{IsUnderWay}
use Rattle.project_files.proofs.tables.fetch_tables.Given as goal

abbrev pub invariant-loop-table : goal.invariant-loop-table
invariant-loop-table g l = IsUnderWay l.limits l.tables l.table-index l.all (g.S.Shelf.told l.fn.shelf) (g.S.Shelf.told l.shelf) l.fn.left l.left
