use Rattle.std.proofs.Common.{◌≡◌, [], take, drop}
use Rattle.csv.specs.Records.{fields_of}
use Rattle.csv_tables.specs.TableFiles.{column_fault}
use Rattle.csv_tables.proofs.columns.check_columns.Given as goal

abbrev pub invariant-loop-place : goal.invariant-loop-place
invariant-loop-place l =
    column_fault l.table [] (fields_of l.header) ≡ column_fault l.table (take l.place (fields_of l.header)) (drop l.place (fields_of l.header))
