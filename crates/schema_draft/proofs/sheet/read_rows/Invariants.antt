use Rattle.std.proofs.Common.{◌≡◌, ◌≤◌, ◌+◌, ◌-◌, ◌++◌}
use Rattle.schema_draft.specs.Sheets.{texts_fault}
use Rattle.schema_draft.proofs.sheet.read_rows.Given as goal

abbrev pub invariant-records : goal.invariant-records
invariant-records l = record {
  no_fault : texts_fault l.limits l.width 1 l.initial.records ≡ texts_fault l.limits l.width l.at l.records;
  so_far : l.rows ++ l.records ≡ l.initial.records;
  few : l.at ≤ l.limits.rows + 1;
}

abbrev pub decreases-records : goal.decreases-records
decreases-records l = l.limits.rows + 1 - l.at
