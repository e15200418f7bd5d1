use Rattle.std.proofs.Common.{◌≡◌, []}
use Rattle.row_takers.proofs.pooled.PooledTables.of_texts.Given as goal

abbrev pub invariant-loop-table : goal.invariant-loop-table
invariant-loop-table l = l.pooled ≡ record { tables = l.yielded; rows = [] }
