-- The one line that a refusal writes: `refused WHAT CAUSE`.
use Rattle.std.specs.Prelude.{ℕ, List, ◌++◌, codes, decimal}
use Rattle.line_grammar.specs.Tokens.{quoted}
use Rattle.text_lists.specs.declared.limits.Limit.{Limit}
use Rattle.text_lists.specs.declared.limits.Limit.TheVariants as limit
use Rattle.schema_core.specs.declared.schema.SchemaCause.{SchemaCause}
use Rattle.schema_core.specs.declared.schema.SchemaCause.TheVariants as schema
use Rattle.rule_model.specs.declared.fault.RuleFault.{RuleFault}
use Rattle.rule_model.specs.declared.fault.RuleFault.TheVariants as rule
use Rattle.rule_parser.specs.declared.fault.ParseCause.{ParseCause}
use Rattle.rule_parser.specs.declared.fault.ParseCause.TheVariants as parse
use Rattle.csv_tables.specs.declared.fault.TableFault.{TableFault}
use Rattle.csv_tables.specs.declared.fault.TableFault.TheVariants as table
use Rattle.cli_output.specs.declared.refusal.Cause.{Cause}
use Rattle.cli_output.specs.declared.refusal.Cause.TheVariants as cause
use Rattle.cli_output.specs.declared.refusal.LineFlaw.{LineFlaw}
use Rattle.cli_output.specs.declared.refusal.LineFlaw.TheVariants as flaw

-- what there is too much of
abbrev pub limit_text : Limit → List ℕ
limit_text limit.Tables = codes "tables"
limit_text limit.Attrs = codes "attrs"
limit_text limit.Values = codes "values"
limit_text limit.Deps = codes "deps"
limit_text limit.Cinds = codes "cinds"
limit_text limit.Edits = codes "edits"
limit_text limit.TableauRows = codes "tableau_rows"
limit_text limit.Commands = codes "commands"

abbrev pub too_many : Limit → List ℕ
too_many limit = codes "TooMany " ++ limit_text limit

-- at which line, or at which record of a table file
abbrev pub at_line : ℕ → List ℕ
at_line line = codes " line " ++ decimal line

abbrev pub at_record : ℕ → List ℕ
at_record record_number = codes " record " ++ decimal record_number

-- a cause and a name, and a text between quotes behind that
abbrev pub with_name : List ℕ → List ℕ → List ℕ
with_name word name = word ++ codes " " ++ name

abbrev pub then_text : List ℕ → List ℕ
then_text text = codes " " ++ quoted text

abbrev pub schema_text : SchemaCause → List ℕ
schema_text schema.NotUtf8 = codes "NotUtf8"
schema_text schema.BadLine = codes "BadLine"
schema_text schema.DuplicateName = codes "DuplicateName"
schema_text schema.EmptyDomain = codes "EmptyDomain"
schema_text schema.DuplicateValue = codes "DuplicateValue"
schema_text (schema.TooMany limit) = too_many limit

abbrev pub rule_text : RuleFault → List ℕ
rule_text (rule.DuplicateRule name) = with_name (codes "DuplicateRule") name
rule_text (rule.UnknownTable name) = with_name (codes "UnknownTable") name
rule_text (rule.NotMaster name) = with_name (codes "NotMaster") name
rule_text (rule.UnknownAttr name) = with_name (codes "UnknownAttr") name
rule_text (rule.RepeatedAttr name) = with_name (codes "RepeatedAttr") name
rule_text rule.NoMatchColumn = codes "NoMatchColumn"
rule_text (rule.TargetInX name) = with_name (codes "TargetInX") name
rule_text rule.WidthMismatch = codes "WidthMismatch"
rule_text (rule.ConstantOutsideDomain attr value) = with_name (codes "ConstantOutsideDomain") attr ++ then_text value
rule_text (rule.RepeatedConstant attr value) = with_name (codes "RepeatedConstant") attr ++ then_text value
rule_text (rule.DomainMismatch name) = with_name (codes "DomainMismatch") name
rule_text (rule.TooMany limit) = too_many limit

abbrev pub parse_text : ParseCause → List ℕ
parse_text parse.NotUtf8 = codes "NotUtf8"
parse_text parse.BadLine = codes "BadLine"
parse_text (parse.Rule fault) = rule_text fault

-- want of memory is no fault of a file and is never told so
abbrev pub table_text : TableFault → List ℕ
table_text table.NoHeader = codes "NoHeader"
table_text (table.NotUtf8 at) = codes "NotUtf8" ++ at_record at
table_text (table.HeaderColumn name) = codes "HeaderColumn" ++ then_text name
table_text (table.HeaderRepeats name) = with_name (codes "HeaderRepeats") name
table_text (table.HeaderLacks name) = with_name (codes "HeaderLacks") name
table_text (table.Width at) = codes "Width" ++ at_record at
table_text (table.TextTooLong at) = codes "TextTooLong" ++ at_record at
table_text (table.NotInDomain at attr) = with_name (codes "NotInDomain") attr ++ at_record at
table_text (table.RowsFull at) = codes "RowsFull" ++ at_record at
table_text table.Memory = codes "Memory"

abbrev pub flaw_text : LineFlaw → List ℕ
flaw_text flaw.NotUtf8 = codes "NotUtf8"
flaw_text flaw.BadLine = codes "BadLine"
flaw_text (flaw.TooMany limit) = too_many limit

-- why it is refused, and where
abbrev pub cause_text : Cause → List ℕ
cause_text cause.Absent = codes "Absent"
cause_text cause.TooLarge = codes "TooLarge"
cause_text (cause.Schema line why) = schema_text why ++ at_line line
cause_text (cause.Rules line why) = parse_text why ++ at_line line
cause_text (cause.Table fault) = table_text fault
cause_text (cause.Line line why) = flaw_text why ++ at_line line
cause_text cause.RowsFull = codes "RowsFull"
cause_text cause.UnknownTable = codes "UnknownTable"
cause_text cause.TooManyFound = codes "TooMany found"

-- the line for a file or a word
abbrev pub refusal_line : List ℕ → Cause → List ℕ
refusal_line what cause = codes "refused " ++ quoted what ++ codes " " ++ cause_text cause ++ codes "\n"
