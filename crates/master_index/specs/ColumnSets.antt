-- Sets of columns, as the bits of a number.
use Rattle.std.specs.Prelude.{ℕ, ◌==◌, Bool}
use Rattle.std.specs.Int.{bit_at}
use Rattle.master_index.specs.declared.column_set.ColumnSet.{ColumnSet}

-- the column is in the set
abbrev pub has_column : ColumnSet → ℕ → Bool
has_column set column = bit_at set.0 column == 1
