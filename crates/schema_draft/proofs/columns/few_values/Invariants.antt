use Rattle.std.proofs.Common.{◌≡◌, ◌≤◌, ◌++◌, true, length, drop}
use Rattle.schema_draft.specs.Columns.{are_constants, distinct_values, new_values}
use Rattle.schema_draft.proofs.columns.few_values.Given as goal

abbrev pub invariant-loop-value : goal.invariant-loop-value
invariant-loop-value l = record {
  so_far : l.few ++ new_values l.few (drop l.value-index l.values) ≡ distinct_values l.values;
  short : are_constants l.few ≡ true;
  count : length l.few ≤ 16;
}
