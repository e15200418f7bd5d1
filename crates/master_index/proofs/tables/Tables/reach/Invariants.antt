use Rattle.std.proofs.Common.{◌≡◌, ◌+◌, ◌-◌, vec_len}
use Rattle.master_index.specs.Tables.{rows_of_tables}
use Rattle.master_index.proofs.tables.Tables.reach.Given as goal

-- a store without rows changes no rows
abbrev pub invariant-loop-alloc : goal.invariant-loop-alloc
invariant-loop-alloc l = rows_of_tables l.self.stores.items ≡ rows_of_tables l.initial.self.stores.items

abbrev pub decreases-loop-alloc : goal.decreases-loop-alloc
decreases-loop-alloc l = l.table + 1 - vec_len l.self.stores
