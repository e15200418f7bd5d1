-- The form `run PROJECT`: a transcript of the project's script over its tables as they are loaded.
use Rattle.std.specs.Prelude.{◌≡◌, ◌↔◌, ◌≤◌, ℕ, List}
use Rattle.text_lists.specs.declared.limits.Limits.{Limits}
use Rattle.bench_core.specs.History.{History}
use Rattle.violation_report.specs.Listing.{IsSatisfied, listing}
use Rattle.session.specs.Probes.{Counted, IsCountedReply}
use Rattle.session.specs.Replies.{IsReply}
use Rattle.cli_output.specs.Output.{Outputs, Task}
use Rattle.cli_output.specs.declared.status.Status.TheVariants.{Clean}
use Rattle.shelf_io.specs.Transcript.{IsTranscript}
use Rattle.project_files.specs.Project.{ProjectRead, fetch_project}
use Rattle.project_forms.specs.Loaded.{once_loaded}
use Rattle.project_forms.specs.Transcripts.{found_status}

-- The status is Clean exactly where the rows of the last state satisfy all rules.
abbrev pub run_outputs : ProjectRead → Outputs
run_outputs project bytes status =
    let start = project.tables in
    (last : History) × IsTranscript (IsReply start.rules start.limits) start.history project.commands bytes last × (status ≡ found_status (listing start.rules last.present)) × (status ≡ Clean ↔ IsSatisfied start.rules last.present)

-- the schema, the rules, the script and 64 tables are fetched at most
abbrev pub run_task : Limits → List ℕ → Task
run_task limits project = record {
  Found = ProjectRead;
  fetching = fetch_project limits project;
  outputs = run_outputs;
  most_fetches = 67;
}

-- The same with the probes of indexes, of which there were so many when the script was begun and so many at the end: each
-- command takes no more than it may in the history in which it is answered, and the status takes none.
abbrev pub counted_from : ℕ → ℕ → ProjectRead → Outputs
counted_from begun after project bytes status =
    let start = project.tables in
    (last : Counted) × IsTranscript (IsCountedReply start.rules start.limits) (start.history, begun) project.commands bytes last × (after ≤ last.1) × (status ≡ found_status (listing start.rules last.0.present))

-- the task with its probes, of which there were so many before the tables were loaded
abbrev pub counted_run_task : ℕ → ℕ → Limits → List ℕ → Task
counted_run_task before after limits project = record {
  Found = ProjectRead;
  fetching = fetch_project limits project;
  outputs = λ (read : ProjectRead). once_loaded before read.tables (λ begun. counted_from begun after read);
  most_fetches = 67;
}
