use Rattle.std.proofs.Common.{◌≢◌, ℕ, ◌<◌, get_or}
use Rattle.master_index.specs.declared.column_index.ColumnIndex.{ColumnIndex}
use Rattle.master_index.proofs.index.MasterIndex.held.Given as goal

-- none so far is of the list
abbrev pub invariant-loop-index : goal.invariant-loop-index
invariant-loop-index l = (k : ℕ) (d : ColumnIndex) → k < l.index-index → (get_or l.index-items k d).list ≢ record { master = l.master; columns = l.columns }
