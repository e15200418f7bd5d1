-- The form `row PROJECT TABLE ROW` of `cfdview`: one row, the groups in which it breaks a rule, and how it would be fixed.
use Rattle.std.specs.Prelude.{◌≡◌, ◌↔◌, ℕ, List, [], ◌∷◌, ◌++◌, Option, None, Some}
use Rattle.text_lists.specs.declared.limits.Limits.{Limits}
use Rattle.schema_core.specs.Schemas.{table_place}
use Rattle.rule_model.specs.Books.{Book}
use Rattle.bench_core.specs.Answers.{row_texts}
use Rattle.bench_core.specs.History.{History}
use Rattle.violation_report.specs.Explained.{explained}
use Rattle.violation_groups.specs.Groups.{AreFindings}
use Rattle.violation_groups.specs.declared.groups.Findings.{Findings}
use Rattle.view_options.specs.declared.options.RowOptions.{RowOptions}
use Rattle.view_list.specs.Rows.{no_row, no_table, row_body, row_text}
use Rattle.shelf_io.specs.Transcript.{IsTranscript}
use Rattle.session.specs.Replies.{IsReply}
use Rattle.script_lines.specs.declared.command.Command.{Command}
use Rattle.script_lines.specs.declared.command.Command.TheVariants as command
use Rattle.cli_output.specs.Output.{Only, Outputs, Task}
use Rattle.cli_output.specs.declared.status.Status.TheVariants.{Clean, Refused}
use Rattle.project_files.specs.Project.{ProjectRead}
use Rattle.view_project.specs.Looking.{LooksAt, counts_of}
use Rattle.view_project.specs.ProjectTask.{project_task}
use Rattle.view_forms.specs.Statuses.{status_of}

-- ---- how it would be fixed

-- the fix of the row, where somebody vouches for attributes
abbrev pub fix_of : List ℕ → ℕ → List (List ℕ) → List Command
fix_of table row [] = []
fix_of table row (name ∷ names) = command.Fix table row (name ∷ names) ∷ []

abbrev pub questions : RowOptions → List Command
questions options = fix_of options.table options.row options.vouch

-- what the script would be answered
abbrev pub AreReplies : Book → Limits → History → RowOptions → List ℕ → Type 0
AreReplies rules limits last options replies = (after : History) × IsTranscript (IsReply rules limits) last (questions options) replies after

-- ---- a row of a state

-- a row with these texts, so many rows having been read of each table
abbrev pub row_shown : Book → Limits → List ℕ → History → RowOptions → ℕ → List (List ℕ) → Outputs
row_shown rules limits counts last options table texts bytes status =
    (findings : Findings) × AreFindings rules last.present findings × (replies : List ℕ) × AreReplies rules limits last options replies
    × (bytes ≡ row_text rules.schema counts table options.row texts (row_body rules counts table options.row findings) ++ replies) × (status ≡ status_of (row_body rules counts table options.row findings))

-- the same; and the status says whether the list has a line of the row
abbrev pub row_with : Book → Limits → List ℕ → History → RowOptions → ℕ → List (List ℕ) → Outputs
row_with rules limits counts last options table texts bytes status =
    row_shown rules limits counts last options table texts bytes status × (status ≡ Clean ↔ explained rules last.present table options.row ≡ [])

abbrev pub row_in : Book → Limits → List ℕ → History → RowOptions → ℕ → Option (List (List ℕ)) → Outputs
row_in rules limits counts last options table None = Only (no_row options.table options.row) Refused
row_in rules limits counts last options table (Some texts) = row_with rules limits counts last options table texts

abbrev pub row_at : Book → Limits → List ℕ → History → RowOptions → Option ℕ → Outputs
row_at rules limits counts last options None = Only (no_table options.table) Refused
row_at rules limits counts last options (Some table) = row_in rules limits counts last options table (row_texts last.present table options.row)

-- the row of the named table, or the line that refuses the table or the row
abbrev pub row_of : Book → Limits → List ℕ → History → RowOptions → Outputs
row_of rules limits counts last options = row_at rules limits counts last options (table_place rules.schema options.table)

abbrev pub row_outputs : RowOptions → ProjectRead → Outputs
row_outputs options project bytes status =
    let start = project.tables in
    (last : History) × LooksAt options.loaded project last × row_of start.rules start.limits (counts_of start.history.present) last options bytes status

abbrev pub row_task : Limits → RowOptions → Task
row_task limits options = project_task limits options.project (row_outputs options)
