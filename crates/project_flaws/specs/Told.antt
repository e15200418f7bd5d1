-- What is off in a project that was read: in the rows of its tables, and in its rules.
use Rattle.std.specs.Prelude.{◌≡◌, ◌-◌, ℕ, Bool, true, false, not, ◌&&◌, List, [], ◌∷◌, ◌++◌, length, slice_get, is_none, ◌==◌, if◌then◌else◌, Option, None, Some, codes, decimal}
use Rattle.std.specs.List.{flat_map, list_all, list_any, zip}
use Rattle.std.specs.Option.{option_map_or}
use Rattle.std.specs.Str.{bytes_eq}
use Rattle.line_grammar.specs.Tokens.{quoted}
use Rattle.line_grammar.specs.Spelling.{comma_separated, line_text, mark, name, number}
use Rattle.line_grammar.specs.declared.tokens.Mark.TheVariants.{Dot}
use Rattle.line_grammar.specs.declared.writing.Part.{Part}
use Rattle.schema_core.specs.declared.schema.Attr.{Attr}
use Rattle.schema_core.specs.declared.schema.Domain.{Domain}
use Rattle.schema_core.specs.declared.schema.Domain.TheVariants.{AnyText, Finite}
use Rattle.schema_core.specs.declared.schema.Schema.{Schema}
use Rattle.schema_core.specs.declared.schema.Table.{Table}
use Rattle.rule_model.specs.Books.{Book, book_edits}
use Rattle.rule_model.specs.declared.edit_rule.EditCell.{EditCell}
use Rattle.rule_model.specs.declared.edit_rule.EditCell.TheVariants as cells
use Rattle.rule_model.specs.declared.edit_rule.EditRule.{EditRule}
use Rattle.table_flaws.specs.Flaws.{flaws_of}
use Rattle.table_flaws.specs.declared.flaws.Flaw.{Flaw}
use Rattle.table_flaws.specs.declared.flaws.Flaw.TheVariants.{Long, Repeated, Spaced}
use Rattle.cli_output.specs.declared.status.Status.{Status}
use Rattle.cli_output.specs.declared.status.Status.TheVariants.{Clean, Findings}
use Rattle.view_refusal.specs.RowCounts.{count_line}
use Rattle.project_flaws.specs.Verdicts.{AreVerdicts}
use Rattle.project_flaws.specs.declared.cited.RowName.{RowName}
use Rattle.project_flaws.specs.declared.rows.TableRows.{TableRows}
use Rattle.project_flaws.specs.declared.told.Counts.{Counts}
use Rattle.project_flaws.specs.declared.told.Counts.TheVariants as counts
use Rattle.project_flaws.specs.declared.values.MayStand.{MayStand}
use Rattle.project_flaws.specs.declared.values.MayStand.TheVariants as may
use Rattle.project_flaws.specs.declared.values.ValueVerdict.{ValueVerdict}
use Rattle.project_flaws.specs.declared.verdicts.Verdict.{Verdict}
use Rattle.project_flaws.specs.declared.verdicts.Verdict.TheVariants.{Holds, Never, Open}

-- ---- what is odd in a table

abbrev pub row_words : Table → ℕ → List ℕ
row_words table row = table.name ++ codes " row " ++ decimal row ++ codes ": "

-- the id of a row by its place, counted from 1; a place beyond the ids stands for itself
abbrev pub id_at : List ℕ → ℕ → ℕ
id_at ids place = option_map_or (λ id. id) (slice_get ids (place - 1)) place

abbrev pub attr_name : Option Attr → List ℕ
attr_name None = []
attr_name (Some attr) = attr.name

abbrev pub long_line : Table → ℕ → ℕ → List ℕ
long_line table row attr = row_words table row ++ attr_name (slice_get table.attrs attr) ++ codes " runs over more than ten lines\n"

abbrev pub spaced_line : Table → ℕ → ℕ → List ℕ
spaced_line table row attr =
    row_words table row ++ attr_name (slice_get table.attrs attr) ++ codes " has blanks at an end, and stands without them in another row\n"

abbrev pub repeated_line : Table → ℕ → List ℕ
repeated_line table row = row_words table row ++ codes "stands above, too\n"

-- rows are told by their ids
abbrev pub flaw_line : Table → List ℕ → Flaw → List ℕ
flaw_line table ids (Long attr row) = long_line table (id_at ids row) attr
flaw_line table ids (Spaced attr row) = spaced_line table (id_at ids row) attr
flaw_line table ids (Repeated row) = repeated_line table (id_at ids row)

abbrev pub flaws_text : Table → TableRows → List ℕ
flaws_text table rows = flat_map (flaw_line table rows.ids) (flaws_of (length table.attrs) rows.texts)

-- how many rows were read, where that is told
abbrev pub counted : Counts → Table → TableRows → List ℕ
counted counts.Told table rows = count_line table (length rows.texts)
counted counts.LeftOut table rows = []

-- and what is odd in them
abbrev pub table_text : Counts → Table → TableRows → List ℕ
table_text counts table rows = counted counts table rows ++ flaws_text table rows

abbrev pub has_no_flaw : Table → TableRows → Bool
has_no_flaw table rows = length (flaws_of (length table.attrs) rows.texts) == 0

-- ---- all tables, with the rows of each: nothing is told of the rows of a table that aren't given

abbrev pub pair_text : Counts → Table × TableRows → List ℕ
pair_text counts (table, rows) = table_text counts table rows

abbrev pub pair_clean : Table × TableRows → Bool
pair_clean (table, rows) = has_no_flaw table rows

abbrev pub tables_text : Counts → List Table → List TableRows → List ℕ
tables_text counts tables all = flat_map (pair_text counts) (zip tables all)

abbrev pub tables_clean : List Table → List TableRows → Bool
tables_clean tables all = list_all pair_clean (zip tables all)

-- ---- editing rules that apply to nothing
--
-- Three reasons are told. The first two hold in each state of the project: the rule never applies, whatever is changed. The
-- third is of the rows that are given, those of the files: whoever inserts a master row, the project's script say, may make
-- the rule apply.

-- The target is among the attributes of the pattern: these have to be validated, and the target mustn't be. So there is no
-- row to which it applies.
abbrev pub asks_target : EditRule → Bool
asks_target rule = list_any (λ (p : ℕ × EditCell). p.0 == rule.target) rule.when

-- a value meets a cell of a pattern
abbrev pub is_met : EditCell → List ℕ → Bool
is_met cells.Any value = true
is_met (cells.Is constant) value = bytes_eq constant value
is_met (cells.Not constant) value = not (bytes_eq constant value)

abbrev pub none_meets : List (List ℕ) → EditCell → Bool
none_meets values cell = list_all (λ value. not (is_met cell value)) values

-- no value of the domain meets the cell
abbrev pub is_out : Domain → EditCell → Bool
is_out AnyText cell = false
is_out (Finite values) cell = none_meets values cell

abbrev pub is_out_at : Option Attr → EditCell → Bool
is_out_at None cell = false
is_out_at (Some attr) cell = is_out attr.domain cell

abbrev pub is_out_in : Option Table → ℕ × EditCell → Bool
is_out_in None asked = false
is_out_in (Some table) asked = is_out_at (slice_get table.attrs asked.0) asked.1

-- A cell of its pattern is met by no value of the domain there: rows have values of their domains alone, so no row meets it.
abbrev pub asks_outside : Schema → EditRule → Bool
asks_outside schema rule = list_any (is_out_in (slice_get schema.tables rule.table)) rule.when

-- There is no row to correct from. Of a table whose rows aren't given that isn't known.
abbrev pub has_no_row : Option TableRows → Bool
has_no_row None = false
has_no_row (Some rows) = length rows.texts == 0

-- what is told of a rule that applies to nothing, and why, if one of the reasons is there
abbrev pub why_idle : Schema → List TableRows → EditRule → Option (List ℕ)
why_idle schema all rule =
    if asks_target rule then Some (codes "never applies: its target is in its own pattern")
    else if asks_outside schema rule then Some (codes "never applies: no value of an attribute's domain meets its pattern")
    else if has_no_row (slice_get all rule.master) then Some (codes "applies to nothing as read: its master table has no row")
    else None

abbrev pub edit_words : EditRule → List ℕ
edit_words rule = codes "edit " ++ rule.name ++ codes " "

abbrev pub idle_line : EditRule → Option (List ℕ) → List ℕ
idle_line rule None = []
idle_line rule (Some why) = edit_words rule ++ why ++ codes "\n"

abbrev pub edits_text : Schema → List TableRows → List EditRule → List ℕ
edits_text schema all rules = flat_map (λ (rule : EditRule). idle_line rule (why_idle schema all rule)) rules

-- none of the reasons is there
abbrev pub edits_clean : Schema → List TableRows → List EditRule → Bool
edits_clean schema all rules = list_all (λ (rule : EditRule). is_none (why_idle schema all rule)) rules

-- ---- tables that no row can satisfy

-- `RULE.K`
abbrev pub row_parts : RowName → List Part
row_parts row = name row.rule ∷ mark Dot ∷ number row.row ∷ []

abbrev pub by_line : List RowName → List ℕ
by_line rows = codes "  by " ++ line_text (comma_separated row_parts rows) ++ codes "\n"

-- and by which tableau rows
abbrev pub never_text : Table → List RowName → List ℕ
never_text table rows = (codes "table " ++ table.name) ++ codes ": no row can satisfy its dependencies\n" ++ by_line rows

-- the words about a value
abbrev pub value_words : Table → List ℕ → ValueVerdict → List ℕ
value_words table words verdict =
    (codes "table " ++ table.name) ++ words ++ attr_name (slice_get table.attrs verdict.attr) ++ codes " " ++ quoted verdict.value ++ codes " can satisfy its dependencies\n"

abbrev pub value_told : Table → ValueVerdict → MayStand → List ℕ
value_told table verdict may.Yes = []
value_told table verdict may.Never = value_words table (codes ": no row with ") verdict
value_told table verdict may.Open = value_words table (codes ": not settled whether a row with ") verdict

-- nothing is told of a value that can stand
abbrev pub value_line : Table → ValueVerdict → List ℕ
value_line table verdict = value_told table verdict verdict.may

abbrev pub is_yes : MayStand → Bool
is_yes may.Yes = true
is_yes may.Never = false
is_yes may.Open = false

abbrev pub may_stand : ValueVerdict → Bool
may_stand verdict = is_yes verdict.may

abbrev pub open_text : Table → List ℕ
open_text table = (codes "table " ++ table.name) ++ codes ": not settled whether a row can satisfy its dependencies\n"

-- of a table whose dependencies some row satisfies only values are told
abbrev pub verdict_line : Table → Verdict → List ℕ
verdict_line table (Holds values) = flat_map (value_line table) values
verdict_line table (Never rows) = never_text table rows
verdict_line table Open = open_text table

abbrev pub is_good : Verdict → Bool
is_good (Holds values) = list_all may_stand values
is_good (Never rows) = false
is_good Open = false

-- of each table its own
abbrev pub verdict_text : Table × Verdict → List ℕ
verdict_text (table, verdict) = verdict_line table verdict

abbrev pub verdicts_text : List Table → List Verdict → List ℕ
verdicts_text tables verdicts = flat_map verdict_text (zip tables verdicts)

-- ---- the project, by its rules and the rows of its tables

abbrev pub whole_text : Counts → Book → List TableRows → List Verdict → List ℕ
whole_text counts rules all verdicts =
    tables_text counts rules.schema.tables all ++ verdicts_text rules.schema.tables verdicts ++ edits_text rules.schema all (book_edits rules)

abbrev pub is_clean : Book → List TableRows → List Verdict → Bool
is_clean rules all verdicts = tables_clean rules.schema.tables all && list_all is_good verdicts && edits_clean rules.schema all (book_edits rules)

-- nothing is off, or something is
abbrev pub status_of : Bool → Status
status_of true = Clean
status_of false = Findings

-- what is told, with the status that goes with it; without the numbers of rows it is what is off, and nothing else
abbrev pub IsTold : Counts → Book → List TableRows → List ℕ → Status → Type 0
IsTold counts rules all bytes status = (verdicts : List Verdict) × AreVerdicts rules verdicts × (bytes ≡ whole_text counts rules all verdicts) × (status ≡ status_of (is_clean rules all verdicts))
