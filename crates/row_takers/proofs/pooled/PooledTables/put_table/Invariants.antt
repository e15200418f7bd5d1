use Rattle.std.proofs.Common.{◌≡◌}
use Rattle.row_takers.proofs.pooled.PooledTables.put_table.Given as goal

abbrev pub invariant-loop-row : goal.invariant-loop-row
invariant-loop-row l = l.self ≡ record { tables = l.initial.self.tables; rows = l.yielded }
