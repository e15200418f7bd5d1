-- The form `schema FILE..` of `cfdview`: a schema as a draft, with a table for each file.
use Rattle.std.specs.Prelude.{ℕ, List, length, Result, Ok, Err}
use Rattle.text_lists.specs.declared.limits.Limits.{Limits}
use Rattle.schema_core.specs.declared.schema.Table.{Table}
use Rattle.schema_draft.specs.Drafts.{draft_of, tables_from}
use Rattle.schema_draft.specs.Sheets.{sheet_of}
use Rattle.schema_draft.specs.declared.sheet.Sheet.{Sheet}
use Rattle.csv_tables.specs.declared.fault.TableFault.{TableFault}
use Rattle.cli_output.specs.declared.refusal.Cause.{Cause}
use Rattle.cli_output.specs.declared.refusal.Cause.TheVariants as cause
use Rattle.cli_output.specs.declared.status.Status.TheVariants.{Clean}
use Rattle.cli_output.specs.Fetching.{Fetching, ◌>>=◌, about, file, given}
use Rattle.cli_output.specs.Each.{fetch_each}
use Rattle.cli_output.specs.Output.{Only, Outputs, Task}

-- ---- what is fetched

-- a sheet, or the fault of its file as the cause of a refusal
abbrev pub spread : Result Sheet TableFault → Result Sheet Cause
spread (Ok sheet) = Ok sheet
spread (Err fault) = Err (cause.Table fault)

-- the sheet of the file of a table
unfoldable pub fetch_sheet : Limits → Table → Fetching Sheet
fetch_sheet limits table = file limits table.file >>= λ bytes. given (about table.file (spread (sheet_of table limits bytes)))

-- those of several, one after the other
abbrev pub fetch_sheets : Limits → List Table → Fetching (List Sheet)
fetch_sheets limits tables = fetch_each (fetch_sheet limits) tables

-- ---- what is written

abbrev pub schema_outputs : List Sheet → Outputs
schema_outputs sheets = Only (draft_of sheets) Clean

-- each of the files is fetched, in their order
abbrev pub schema_task : Limits → List (List ℕ) → Task
schema_task limits files = record {
  Found = List Sheet;
  fetching = fetch_sheets limits (tables_from 1 files);
  outputs = schema_outputs;
  most_fetches = length files;
}
