-- The rows of a table, as its file is fetched and read.
use Rattle.std.specs.Prelude.{ℕ, List, Result, Ok, Err}
use Rattle.text_lists.specs.declared.limits.Limits.{Limits}
use Rattle.schema_core.specs.declared.schema.Table.{Table}
use Rattle.csv_tables.specs.TableFiles.{table_of}
use Rattle.csv_tables.specs.declared.fault.TableFault.{TableFault}
use Rattle.cli_output.specs.declared.refusal.Cause.{Cause}
use Rattle.cli_output.specs.declared.refusal.Cause.TheVariants as cause
use Rattle.cli_output.specs.Fetching.{Fetching, ◌>>=◌, about, file, given}

-- the rows of a table file, or its fault as the cause of a refusal
abbrev pub tabled : Result (List (List (List ℕ))) TableFault → Result (List (List (List ℕ))) Cause
tabled (Ok rows) = Ok rows
tabled (Err fault) = Err (cause.Table fault)

-- the rows of a table
unfoldable pub fetch_table : Limits → Table → Fetching (List (List (List ℕ)))
fetch_table limits table = file limits table.file >>= λ bytes. given (about table.file (tabled (table_of table limits bytes)))
