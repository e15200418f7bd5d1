use Rattle.std.proofs.Common.{◌≡◌, ◌++◌, drop}
use Rattle.csv.specs.Records.{fields_of}
use Rattle.row_takers.specs.Taken.{texts_in}
use Rattle.csv_tables.specs.TableFiles.{domain_fault, row_of}
use Rattle.csv_tables.proofs.columns.Columns.cells.Given as goal

abbrev pub invariant-loop-i : goal.invariant-loop-i
invariant-loop-i l = record {
  admitted : domain_fault l.self.table.now.attrs (fields_of l.self.header) l.at (fields_of l.fields)
      ≡ domain_fault (drop l.i l.self.table.now.attrs) (fields_of l.self.header) l.at (fields_of l.fields);
  so_far : texts_in l.row.items ++ row_of (drop l.i l.self.table.now.attrs) (fields_of l.self.header) (fields_of l.fields)
      ≡ row_of l.self.table.now.attrs (fields_of l.self.header) (fields_of l.fields);
}
