-- How many rows of a table there are, as it is told.
use Rattle.std.specs.Prelude.{ℕ, List, ◌++◌, codes, decimal}
use Rattle.schema_core.specs.declared.schema.Table.{Table}

abbrev pub count_line : Table → ℕ → List ℕ
count_line table count = codes "table " ++ table.name ++ codes ": " ++ decimal count ++ codes " rows\n"
