-- The form `desk PROJECT EVENTS`: a transcript of the events of several editors over the project's tables as they are
-- loaded, and no entry. The script that the schema names is left alone.
use Rattle.std.specs.Prelude.{◌≡◌, ◌↔◌, ◌≤◌, ℕ, List, [], Ok}
use Rattle.text_lists.specs.declared.limits.Limits.{Limits}
use Rattle.desk_events.specs.EventFiles.{events_of}
use Rattle.desk_events.specs.declared.event.Event.{Event}
use Rattle.desk_events.specs.declared.event.EventCause.{EventCause}
use Rattle.desk_events.specs.declared.event.EventCause.TheVariants as event
use Rattle.violation_report.specs.Listing.{IsSatisfied, listing}
use Rattle.shelf_io.specs.Transcript.{IsTranscript}
use Rattle.cli_output.specs.declared.refusal.Cause.{Cause}
use Rattle.cli_output.specs.declared.refusal.Cause.TheVariants as cause
use Rattle.cli_output.specs.declared.refusal.LineFlaw.{LineFlaw}
use Rattle.cli_output.specs.declared.refusal.LineFlaw.TheVariants as flaw
use Rattle.cli_output.specs.declared.status.Status.TheVariants.{Clean}
use Rattle.cli_output.specs.Fetching.{Fetching, ◌>>=◌, about, file, given}
use Rattle.cli_output.specs.Output.{Outputs, Task}
use Rattle.cli_output.specs.RuleFiles.{fetch_rules, fetch_schema, spelled}
use Rattle.project_files.specs.Project.{Tables, fetch_bench, tables_of}
use Rattle.project_forms.specs.Loaded.{once_loaded}
use Rattle.project_forms.specs.Transcripts.{found_status, transcripts}
use Rattle.project_forms.specs.declared.desk_form.DeskFiles.{DeskFiles}
use Rattle.desk_state.specs.Desk.{DeskModel}
use Rattle.desk.specs.DeskReplies.{Counted, IsCountedReply, IsReply}

-- ---- what is read

-- the tables of a project, and the events over them
pub record DeskRead : Type 0 where
  pub tables : Tables
  pub events : List Event

abbrev pub read_of : DeskFiles → DeskRead
read_of files = record { tables = tables_of files.bench; events = files.events }

-- what is told of a line of a file of events
abbrev pub flaw_of : EventCause → LineFlaw
flaw_of event.NotUtf8 = flaw.NotUtf8
flaw_of event.BadLine = flaw.BadLine
flaw_of (event.TooMany limit) = flaw.TooMany limit

abbrev pub event_line : ℕ → EventCause → Cause
event_line line why = cause.Line line (flaw_of why)

abbrev pub fetch_events : Limits → List ℕ → Fetching (List Event)
fetch_events limits name = file limits name >>= λ bytes. given (about name (spelled event_line (events_of limits bytes)))

-- the schema, the rules and the tables, and then the events
unfoldable pub fetch_desk : Limits → List ℕ → List ℕ → Fetching DeskRead
fetch_desk limits name events =
    fetch_schema limits name >>= λ schema.
    fetch_rules limits schema >>= λ rules.
    fetch_bench limits rules >>= λ tables.
    fetch_events limits events >>= λ told.
    given (Ok (record { tables = tables; events = told }))

-- ---- what is written

-- a desk over these tables, with no entry, that may have so many
abbrev pub opened : ℕ → Tables → DeskModel
opened last tables = record { rules = tables.rules; limits = tables.limits; last = last; history = tables.history; entries = [] }

-- the transcripts of the events, each with the status of the state in which it ends
abbrev pub desk_transcripts : DeskModel → List Event → Outputs
desk_transcripts desk = transcripts IsReply (λ (last : DeskModel). listing desk.rules last.history.present) desk

-- The status is Clean exactly where the rows of the last state satisfy all rules.
abbrev pub desk_outputs : ℕ → DeskRead → Outputs
desk_outputs most desk bytes status =
    let rules = desk.tables.rules in
    (last : DeskModel) × IsTranscript IsReply (opened most desk.tables) desk.events bytes last × (status ≡ found_status (listing rules last.history.present)) × (status ≡ Clean ↔ IsSatisfied rules last.history.present)

-- the schema, the rules, the events and 64 tables are fetched at most
abbrev pub desk_task : Limits → List ℕ → List ℕ → Task
desk_task limits project events = record {
  Found = DeskRead;
  fetching = fetch_desk limits project events;
  outputs = desk_outputs limits.last_id;
  most_fetches = 67;
}

-- The transcripts with the probes of indexes, of which there were so many before the first event and so many at the end: each
-- event takes no more than it may at the desk at which it is answered, and the status takes none.
abbrev pub counted_transcripts : ℕ → ℕ → DeskModel → List Event → Outputs
counted_transcripts begun after desk events bytes status =
    (last : Counted) × IsTranscript IsCountedReply (desk, begun) events bytes last × (after ≤ last.1) × (status ≡ found_status (listing desk.rules last.0.history.present))

-- the task with its probes, of which there were so many before the tables were loaded
abbrev pub counted_desk_task : ℕ → ℕ → Limits → List ℕ → List ℕ → Task
counted_desk_task before after limits project events = record {
  Found = DeskRead;
  fetching = fetch_desk limits project events;
  outputs = λ (desk : DeskRead). once_loaded before desk.tables (λ begun. counted_transcripts begun after (opened limits.last_id desk.tables) desk.events);
  most_fetches = 67;
}
