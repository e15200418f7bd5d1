use Rattle.std.proofs.Common.{◌≡◌, ℕ, ◌<◌, ◌≤◌, [], length}
use Rattle.std.specs.Prelude.{slice_index_or, slice_index}
use Rattle.value_pool.specs.Pool.{HasId}
use Rattle.dep_search.specs.Rows.{row_at}
use Rattle.dep_search.proofs.columns.column.Given as goal

abbrev pub invariant-loop-row : goal.invariant-loop-row
invariant-loop-row l = record {
  long : length l.ids ≡ l.row-index;
  few : length l.pool ≤ l.row-index;
  each : (r : ℕ) → r < l.row-index → HasId l.pool (slice_index_or (row_at l.rows r) l.attr []) (slice_index l.ids r);
}
