use Rattle.std.proofs.Common.{◌≡◌, ◌≤◌, ◌+◌, ◌-◌, ◌++◌, map}
use Rattle.csv.specs.Records.{fields_of}
use Rattle.csv_tables.specs.TableFiles.{records_fault, row_of}
use Rattle.csv_tables.proofs.reading.hand_over.Given as goal

abbrev pub invariant-records : goal.invariant-records
invariant-records g l = record {
  no_fault : records_fault l.columns.table.now l.limits (fields_of l.columns.header) 1 l.initial.records
      ≡ records_fault l.columns.table.now l.limits (fields_of l.columns.header) l.at l.records;
  so_far : g.T.RowTaker.rows l.taker ++ map (row_of l.columns.table.now.attrs (fields_of l.columns.header)) l.records
      ≡ g.T.RowTaker.rows l.initial.taker ++ map (row_of l.columns.table.now.attrs (fields_of l.columns.header)) l.initial.records;
  beside : g.T.RowTaker.beside l.taker ≡ g.T.RowTaker.beside l.initial.taker;
  few : l.at ≤ l.limits.rows + 1;
}

abbrev pub decreases-records : goal.decreases-records
decreases-records g l = l.limits.rows + 1 - l.at
