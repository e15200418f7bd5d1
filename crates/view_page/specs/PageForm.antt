-- The form `page PROJECT` of `cfdview`: a project as a page.
use Rattle.std.specs.Prelude.{◌≡◌, ◌↔◌, ℕ, List, [], ◌∷◌, Option, None, Some}
use Rattle.text_lists.specs.declared.limits.Limits.{Limits}
use Rattle.line_grammar.specs.Lines.{lines}
use Rattle.rule_model.specs.Books.{Book}
use Rattle.bench_core.specs.History.{History}
use Rattle.bench_core.specs.State.{State}
use Rattle.violation_report.specs.Listing.{IsSatisfied, listing}
use Rattle.violation_groups.specs.Groups.{AreFindings}
use Rattle.violation_groups.specs.declared.Findings.{Findings}
use Rattle.page_text.specs.Page.{page_text}
use Rattle.page_text.specs.declared.Options.{Options}
use Rattle.page_text.specs.declared.RowCounts.{RowCounts}
use Rattle.view_options.specs.declared.options.PageOptions.{PageOptions}
use Rattle.cli_output.specs.Output.{Outputs, Task}
use Rattle.cli_output.specs.declared.status.Status.{Status}
use Rattle.cli_output.specs.declared.status.Status.TheVariants.{Clean, Findings as Found}
use Rattle.project_files.specs.Project.{ProjectRead}
use Rattle.project_flaws.specs.Told.{IsTold}
use Rattle.project_flaws.specs.declared.told.Counts.TheVariants.{LeftOut}
use Rattle.project_flaws.specs.Rows.{all_rows}
use Rattle.view_project.specs.Looking.{LooksAt, counts_of}
use Rattle.view_project.specs.ProjectTask.{project_task}

-- ---- how much is shown

-- how many of each kind are shown: all, where no number is given, since no list is longer
abbrev pub first_shown : Option ℕ → ℕ
first_shown None = 18446744073709551615
first_shown (Some first) = first

abbrev pub options_of : PageOptions → Options
options_of options = record { first = first_shown options.first; loaded = options.loaded }

-- ---- what `check` finds

-- the lines of what it finds in the rules, and in the tables of a state
abbrev pub IsChecked : Book → State → List (List ℕ) → Type 0
IsChecked rules state found = (text : List ℕ) × (status : Status) × IsTold LeftOut rules (all_rows state) text status × (found ≡ lines text)

-- ---- the page of a state

-- the page of the violations of a state, and of what `check` finds
abbrev pub IsTextOn : List ℕ → Options → RowCounts → Book → State → List (List ℕ) → List ℕ → Type 0
IsTextOn name options rows rules state checked text =
    (findings : Findings) × AreFindings rules state findings × (text ≡ page_text name options rules rows findings checked)

-- the status by what the list holds
abbrev pub status_for : {X : Type 0} → List X → Status
status_for [] = Clean
status_for (line ∷ lines) = Found

-- The page of a state, with so many rows read, and its status: Clean exactly where its rows satisfy all rules.
abbrev pub IsPageOf : List ℕ → Options → List ℕ → Book → State → List (List ℕ) → Outputs
IsPageOf name options read rules state checked bytes status =
    IsTextOn name options (record { read = read; present = counts_of state }) rules state checked bytes × (status ≡ status_for (listing rules state)) × (status ≡ Clean ↔ IsSatisfied rules state)

-- ---- what is written

-- The violations are those of the state that is looked at; `check` looks at the tables as they were read.
abbrev pub page_outputs : PageOptions → ProjectRead → Outputs
page_outputs options project bytes status =
    let start = project.tables in
    (last : History) × LooksAt options.loaded project last × (checked : List (List ℕ)) × IsChecked start.rules start.history.present checked
    × IsPageOf options.project (options_of options) (counts_of start.history.present) start.rules last.present checked bytes status

abbrev pub page_task : Limits → PageOptions → Task
page_task limits options = project_task limits options.project (page_outputs options)
