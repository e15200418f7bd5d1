-- The form `report PROJECT`: the list of the state that the project's script leads to, as JSON. The replies of the script
-- are written nowhere.
use Rattle.std.specs.Prelude.{◌≡◌, ◌↔◌, ◌+◌, ◌*◌, ◌≤◌, ℕ, List}
use Rattle.text_lists.specs.declared.limits.Limits.{Limits}
use Rattle.rule_model.specs.Books.{Book}
use Rattle.bench_core.specs.History.{History}
use Rattle.bench_core.specs.State.{State}
use Rattle.violation_report.specs.Listing.{IsSatisfied, listing}
use Rattle.bench_core.specs.DirtyCounts.{list_probes}
use Rattle.violation_report.specs.Report.{report_text}
use Rattle.session.specs.Leading.{LeadsTo, LeadsWithin}
use Rattle.session.specs.Probes.{Counted}
use Rattle.cli_output.specs.Output.{Outputs, Task}
use Rattle.cli_output.specs.declared.status.Status.TheVariants.{Clean}
use Rattle.project_files.specs.Project.{ProjectRead, fetch_project}
use Rattle.project_forms.specs.Loaded.{once_loaded}
use Rattle.project_forms.specs.Transcripts.{found_status}

-- the report of a state, and its status
abbrev pub report_of : Book → State → Outputs
report_of rules state bytes status = (bytes ≡ report_text rules (listing rules state)) × (status ≡ found_status (listing rules state))

-- the report of the state that the script leaves; the status is Clean exactly where its rows satisfy all rules
abbrev pub report_outputs : ProjectRead → Outputs
report_outputs project bytes status =
    let start = project.tables in
    (last : History) × LeadsTo start.rules start.limits start.history project.commands last × report_of start.rules last.present bytes status × (status ≡ Clean ↔ IsSatisfied start.rules last.present)

-- the schema, the rules, the script and 64 tables are fetched at most
abbrev pub report_task : Limits → List ℕ → Task
report_task limits project = record {
  Found = ProjectRead;
  fetching = fetch_project limits project;
  outputs = report_outputs;
  most_fetches = 67;
}

-- The same with the probes of indexes, of which there were so many when the script was begun and so many at the end: each
-- command takes no more than it may in the history in which it is answered, and the report, which goes over the list twice, no
-- more than two lists.
abbrev pub counted_from : ℕ → ℕ → ProjectRead → Outputs
counted_from begun after project bytes status =
    let start = project.tables in
    (last : Counted) × LeadsWithin start.rules start.limits (start.history, begun) project.commands last × (after ≤ last.1 + 2 * list_probes start.rules last.0.present) × report_of start.rules last.0.present bytes status

-- the task with its probes, of which there were so many before the tables were loaded
abbrev pub counted_report_task : ℕ → ℕ → Limits → List ℕ → Task
counted_report_task before after limits project = record {
  Found = ProjectRead;
  fetching = fetch_project limits project;
  outputs = λ (read : ProjectRead). once_loaded before read.tables (λ begun. counted_from begun after read);
  most_fetches = 67;
}
