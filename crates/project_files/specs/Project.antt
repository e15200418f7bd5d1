-- A project: its schema, its rules, its tables and its script, in the order in which they are fetched and read.
use Rattle.std.specs.Prelude.{ℕ, List, [], Option, None, Some, Result, Ok, Err, slice_get}
use Rattle.std.specs.Option.{option_map_or}
use Rattle.text_lists.specs.declared.limits.Limits.{Limits}
use Rattle.schema_core.specs.declared.schema.Schema.{Schema}
use Rattle.schema_core.specs.declared.schema.Table.{Table}
use Rattle.rule_model.specs.Books.{Book}
use Rattle.bench_core.specs.Bench.{BenchModel}
use Rattle.bench_core.specs.History.{History}
use Rattle.bench_core.specs.Loading.{Tuples, loaded}
use Rattle.bench_core.specs.State.{State}
use Rattle.script_lines.specs.Scripts.{script_of}
use Rattle.script_lines.specs.declared.command.Command.{Command}
use Rattle.script_lines.specs.declared.command.ScriptCause.{ScriptCause}
use Rattle.script_lines.specs.declared.command.ScriptCause.TheVariants as script
use Rattle.project_files.specs.declared.project.Project.{Project}
use Rattle.cli_output.specs.declared.refusal.Cause.{Cause}
use Rattle.cli_output.specs.declared.refusal.Cause.TheVariants as cause
use Rattle.cli_output.specs.declared.refusal.LineFlaw.{LineFlaw}
use Rattle.cli_output.specs.declared.refusal.LineFlaw.TheVariants as flaw
use Rattle.cli_output.specs.Each.{fetch_each}
use Rattle.cli_output.specs.Fetching.{Fetching, OrRefusal, ◌>>=◌, about, file, given}
use Rattle.cli_output.specs.RuleFiles.{fetch_rules, fetch_schema, spelled}
use Rattle.cli_output.specs.TableFiles.{fetch_table}

-- ---- what is read, or why its file is refused

-- rules, limits and tables
pub record Tables : Type 0 where
  pub rules : Book
  pub limits : Limits
  pub history : History

-- a project that was read: its tables, and the commands of its script
pub record ProjectRead : Type 0 where
  pub tables : Tables
  pub commands : List Command

-- what a bench holds, whatever ids it has for its texts
abbrev pub tables_of : BenchModel → Tables
tables_of bench = record { rules = bench.rules; limits = bench.limits; history = bench.history }

abbrev pub read_of : Project → ProjectRead
read_of project = record { tables = tables_of project.bench; commands = project.commands }

-- nothing was changed yet
abbrev pub begins_with : State → History
begins_with state = record { past = []; present = state; undone = [] }

-- what is told of a line of a script
abbrev pub flaw_of : ScriptCause → LineFlaw
flaw_of script.NotUtf8 = flaw.NotUtf8
flaw_of script.BadLine = flaw.BadLine
flaw_of (script.TooMany limit) = flaw.TooMany limit

abbrev pub script_line : ℕ → ScriptCause → Cause
script_line line why = cause.Line line (flaw_of why)

-- the file name of a numbered table
abbrev pub file_of : Schema → ℕ → List ℕ
file_of schema table = option_map_or (λ (t : Table). t.file) (slice_get schema.tables table) []

-- the tables as they are loaded, or the file of the first with which they are too many
abbrev pub bench_of : Book → Limits → Result State ℕ → OrRefusal Tables
bench_of rules limits (Ok state) = Ok (record { rules = rules; limits = limits; history = begins_with state })
bench_of rules limits (Err table) = Err (record { what = file_of rules.schema table; cause = cause.RowsFull })

-- ---- the files, in their order

-- the rows of each table, one table after the other
abbrev pub fetch_tables : Limits → List Table → Fetching (List Tuples)
fetch_tables limits = fetch_each (fetch_table limits)

-- all tables, with their rules
unfoldable pub fetch_bench : Limits → Book → Fetching Tables
fetch_bench limits rules =
    fetch_tables limits rules.schema.tables >>= λ tables. given (bench_of rules limits (loaded rules limits tables))

-- the commands of the script that the schema names, where it names one
abbrev pub fetch_commands_from : Limits → Option (List ℕ) → Fetching (List Command)
fetch_commands_from limits None = given (Ok [])
fetch_commands_from limits (Some name) = file limits name >>= λ bytes. given (about name (spelled script_line (script_of limits bytes)))

abbrev pub fetch_commands : Limits → Schema → Fetching (List Command)
fetch_commands limits schema = fetch_commands_from limits schema.script

-- the whole project
unfoldable pub fetch_project : Limits → List ℕ → Fetching ProjectRead
fetch_project limits name =
    fetch_schema limits name >>= λ schema.
    fetch_rules limits schema >>= λ rules.
    fetch_bench limits rules >>= λ tables.
    fetch_commands limits tables.rules.schema >>= λ commands.
    given (Ok (record { tables = tables; commands = commands }))
