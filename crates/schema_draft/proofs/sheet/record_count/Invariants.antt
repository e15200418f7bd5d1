use Rattle.std.proofs.Common.{◌≡◌, ◌≤◌, ◌+◌, ◌-◌, ◌^◌, length, min}
use Rattle.csv_tables.specs.Records.{file_records}
use Rattle.schema_draft.proofs.sheet.record_count.Given as goal

abbrev pub invariant-records : goal.invariant-records
invariant-records l = record {
  so_far : min (l.count + length l.records) (2 ^ 64 - 1) ≡ min (length (file_records l.bytes)) (2 ^ 64 - 1);
  fits : l.count ≤ 2 ^ 64 - 1;
}

abbrev pub decreases-records : goal.decreases-records
decreases-records l = length l.records
