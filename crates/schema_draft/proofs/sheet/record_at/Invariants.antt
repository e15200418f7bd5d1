use Rattle.std.proofs.Common.{◌≡◌}
use Rattle.std.specs.Prelude.{slice_get}
use Rattle.csv_tables.specs.Records.{file_records}
use Rattle.schema_draft.proofs.sheet.record_at.Given as goal

abbrev pub invariant-records : goal.invariant-records
invariant-records l = slice_get l.records l.ahead ≡ slice_get (file_records l.bytes) l.at

abbrev pub decreases-records : goal.decreases-records
decreases-records l = l.ahead
