use Rattle.std.proofs.Common.{◌≡◌, ℕ, ◌<◌, false}
use Rattle.std.specs.Prelude.{slice_get}
use Rattle.master_index.specs.ColumnSets.{has_column}
use Rattle.master_index.proofs.column_set.differences.Given as goal

-- in the columns so far that aren't in the set the tuples agree
abbrev pub invariant-loop-column : goal.invariant-loop-column
invariant-loop-column l = (column : ℕ) → column < l.column → has_column l.apart column ≡ false → slice_get l.one column ≡ slice_get l.other column
