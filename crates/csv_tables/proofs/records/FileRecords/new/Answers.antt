use Rattle.csv_tables.proofs.RecordFacts.{file_records-all}
use Rattle.csv_tables.proofs.records.FileRecords.new.Goals as goal

pub returns-clause-all : goal.returns-clause-all
returns-clause-all c = file_records-all c.args.bytes.now
