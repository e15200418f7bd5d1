-- What stands where a refusal points: the line or the record of the file, and the limit that was passed.
use Rattle.std.specs.Prelude.{ℕ, ◌-◌, List, [], ◌++◌, slice_get, Option, None, Some, codes, decimal}
use Rattle.text_lists.specs.declared.limits.Limits.{Limits}
use Rattle.text_lists.specs.declared.limits.Limit.{Limit}
use Rattle.text_lists.specs.declared.limits.Limit.TheVariants as limit
use Rattle.line_grammar.specs.Lines.{lines}
use Rattle.line_grammar.specs.Spelling.{comma_separated, line_text}
use Rattle.schema_core.specs.SchemaText.{value_parts}
use Rattle.schema_core.specs.declared.schema.SchemaCause.{SchemaCause}
use Rattle.schema_core.specs.declared.schema.SchemaCause.TheVariants as schema
use Rattle.rule_model.specs.declared.fault.RuleFault.{RuleFault}
use Rattle.rule_model.specs.declared.fault.RuleFault.TheVariants as rule
use Rattle.rule_parser.specs.declared.fault.ParseCause.{ParseCause}
use Rattle.rule_parser.specs.declared.fault.ParseCause.TheVariants as parse
use Rattle.csv_tables.specs.Records.{file_records}
use Rattle.csv_tables.specs.declared.fault.TableFault.{TableFault}
use Rattle.csv_tables.specs.declared.fault.TableFault.TheVariants as table
use Rattle.schema_draft.specs.Sheets.{text_record}
use Rattle.cli_output.specs.declared.refusal.Cause.{Cause}
use Rattle.cli_output.specs.declared.refusal.Cause.TheVariants as cause
use Rattle.cli_output.specs.declared.refusal.LineFlaw.{LineFlaw}
use Rattle.cli_output.specs.declared.refusal.LineFlaw.TheVariants as flaw
use Rattle.cli_output.specs.declared.refusal.Refusal.{Refusal}
use Rattle.cli_output.specs.Refusals.{limit_text, refusal_line}
use Rattle.view_refusal.specs.Counted.{count_shown}
use Rattle.view_refusal.specs.Full.{full_text}
use Rattle.view_refusal.specs.Hints.{hint_text, room_text}
use Rattle.view_refusal.specs.Misfits.{misfit_in, misfit_text}
use Rattle.view_refusal.specs.Showing.{shown}
use Rattle.view_refusal.specs.declared.anew.Anew.{Anew}

-- ---- a line

-- the line of its file that a cause names
abbrev pub line_in : Cause → Option ℕ
line_in (cause.Schema line why) = Some line
line_in (cause.Rules line why) = Some line
line_in (cause.Line line why) = Some line
line_in other = None

abbrev pub line_shown : ℕ → Option (List ℕ) → List ℕ
line_shown number None = []
line_shown number (Some line) = decimal number ++ codes " | " ++ shown line ++ codes "\n"

-- the line of that number, where the file has one
abbrev pub line_at : Option ℕ → Option (List ℕ) → List ℕ
line_at None bytes = []
line_at (Some number) None = []
line_at (Some number) (Some bytes) = line_shown number (slice_get (lines bytes) (number - 1))

-- ---- a record

-- the record of a table file that a fault names, where its fields are texts
abbrev pub record_of : TableFault → Option ℕ
record_of (table.HeaderColumn name) = Some 0
record_of (table.HeaderRepeats name) = Some 0
record_of (table.HeaderLacks name) = Some 0
record_of (table.Width at) = Some at
record_of (table.TextTooLong at) = Some at
record_of (table.NotInDomain at attr) = Some at
record_of (table.RowsFull at) = Some at
record_of other = None

abbrev pub record_in : Cause → Option ℕ
record_in (cause.Table fault) = record_of fault
record_in other = None

abbrev pub record_shown : ℕ → Option (List (List ℕ)) → List ℕ
record_shown number None = []
record_shown number (Some fields) = codes "record " ++ decimal number ++ codes " | " ++ shown (line_text (comma_separated value_parts fields)) ++ codes "\n"

-- the record of that number, its fields between quotes
abbrev pub record_at : Option ℕ → Option (List ℕ) → List ℕ
record_at None bytes = []
record_at (Some number) None = []
record_at (Some number) (Some bytes) = record_shown number (text_record (slice_get (file_records bytes) number))

-- ---- a limit

abbrev pub limit_in_schema : SchemaCause → Option Limit
limit_in_schema (schema.TooMany limit) = Some limit
limit_in_schema other = None

abbrev pub limit_in_rule : RuleFault → Option Limit
limit_in_rule (rule.TooMany limit) = Some limit
limit_in_rule other = None

abbrev pub limit_in_rules : ParseCause → Option Limit
limit_in_rules (parse.Rule fault) = limit_in_rule fault
limit_in_rules other = None

abbrev pub limit_in_line : LineFlaw → Option Limit
limit_in_line (flaw.TooMany limit) = Some limit
limit_in_line other = None

-- what there is too much of, where there is
abbrev pub limit_in : Cause → Option Limit
limit_in (cause.Schema line why) = limit_in_schema why
limit_in (cause.Rules line why) = limit_in_rules why
limit_in (cause.Line line why) = limit_in_line why
limit_in other = None

-- how much of it there may be
abbrev pub limit_value : Limits → Limit → ℕ
limit_value limits limit.Tables = limits.tables
limit_value limits limit.Attrs = limits.attrs
limit_value limits limit.Values = limits.values
limit_value limits limit.Deps = limits.deps
limit_value limits limit.Cinds = limits.cinds
limit_value limits limit.Edits = limits.edits
limit_value limits limit.TableauRows = limits.tableau_rows
limit_value limits limit.Commands = limits.commands

abbrev pub most_line : Limits → Limit → List ℕ
most_line limits most = codes "at most " ++ decimal (limit_value limits most) ++ codes " " ++ limit_text most ++ codes "\n"

-- and how much of it there is, where the line of that number is refused
abbrev pub bound_shown : Limits → Option Limit → Option ℕ → Option (List ℕ) → List ℕ
bound_shown limits None line bytes = []
bound_shown limits (Some most) line bytes = most_line limits most ++ count_shown most line bytes

-- ---- all of it

-- the line that tells a refusal, as everywhere; what stands where it points, and what may stand there
abbrev pub off_text : Limits → Refusal → Anew → List ℕ
off_text limits refusal anew =
    refusal_line refusal.what refusal.cause ++ line_at (line_in refusal.cause) anew.bytes ++ record_at (record_in refusal.cause) anew.bytes ++ bound_shown limits (limit_in refusal.cause) (line_in refusal.cause) anew.bytes
    ++ room_text limits refusal.cause anew.bytes ++ full_text limits refusal.cause anew ++ misfit_text (misfit_in refusal.cause) anew.bytes
    ++ hint_text refusal.what refusal.cause anew.bytes anew.schema
