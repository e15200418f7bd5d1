use Rattle.csv_tables.proofs.RecordFacts.{file_records-all}
use Rattle.csv_tables.proofs.reading.read_table.Goals as goal

pub returns-in_err-read_rows-clause-records : goal.returns-in_err-read_rows-clause-records
returns-in_err-read_rows-clause-records c = file_records-all c.args.bytes.now

pub returns-clause-records : goal.returns-clause-records
returns-clause-records c = file_records-all c.args.bytes.now
