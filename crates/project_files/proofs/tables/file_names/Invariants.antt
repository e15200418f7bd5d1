use Rattle.std.proofs.Common.{◌≡◌, map, take}
use Rattle.project_files.proofs.tables.file_names.Given as goal

abbrev pub invariant-loop-table : goal.invariant-loop-table
invariant-loop-table l = l.names ≡ map (λ table. table.file) (take l.table-index l.table-items)
