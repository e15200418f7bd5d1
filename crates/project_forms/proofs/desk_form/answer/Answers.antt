use Rattle.std.proofs.Common.{◌≡◌, ℕ, List, [], ap, subst, ◌∙◌}
use Rattle.rule_model.specs.Books.{Book}
use Rattle.text_lists.specs.declared.limits.Limits.{Limits}
use Rattle.bench_core.specs.History.{History}
use Rattle.shelf_io.specs.Sink.{SinkTold}
use Rattle.desk_entries.specs.Entries.{Entry}
use Rattle.desk_state.specs.Desk.{DeskModel}
use Rattle.cli_output.specs.declared.status.Status.{Status}
use Rattle.cli_output.specs.Output.{Ends, Writes}
use Rattle.cli_output.proofs.Outputs.{Ends-wider}
use Rattle.project_files.specs.Project.{Tables}
use Rattle.project_forms.specs.DeskForm.{DeskRead, counted_transcripts, desk_outputs, desk_transcripts, opened, read_of}
use Rattle.project_forms.proofs.Reports.{clean_where_satisfied}
use Rattle.project_forms.proofs.desk_form.answer.Goals as goal

-- a desk with no entry over these tables is the one that is opened
desk_with : Book → Limits → ℕ → History → List Entry → DeskModel
desk_with rules limits last history entries = record { rules = rules; limits = limits; last = last; history = history; entries = entries }

is_opened : (desk : DeskModel) (most : ℕ) (tables : Tables) → desk.rules ≡ tables.rules → desk.limits ≡ tables.limits → desk.history ≡ tables.history → desk.last ≡ most → desk.entries ≡ [] → desk ≡ opened most tables
unfolding desk_with
is_opened desk most tables rules limits history last entries =
    ap (λ r. desk_with r desk.limits desk.last desk.history desk.entries) rules ∙ ap (λ l. desk_with tables.rules l desk.last desk.history desk.entries) limits ∙ ap (λ m. desk_with tables.rules tables.limits m desk.history desk.entries) last ∙ ap (λ h. desk_with tables.rules tables.limits most h desk.entries) history ∙ ap (λ (es : List Entry). desk_with tables.rules tables.limits most tables.history es) entries

-- a transcript with its status says whether the rules are satisfied
told : (most : ℕ) (desk : DeskRead) (status : Status) (sink sink_after : SinkTold) → Ends (desk_transcripts (opened most desk.tables) desk.events) status sink sink_after → Ends (desk_outputs most desk) status sink sink_after
told most desk status sink sink_after ends =
    Ends-wider (desk_transcripts (opened most desk.tables) desk.events) (desk_outputs most desk)
    (λ bytes status is. (is.0, is.1, is.2, clean_where_satisfied desk.tables.rules is.0.history.present status is.2)) status sink sink_after ends

pub returns-clause-ends : goal.returns-clause-ends
returns-clause-ends g c =
    let files = read_of c.args.files in
    let start = c.open-desk.result in
    let is = is_opened start c.args.last files.tables c.open-desk.ensures.bench.0 c.open-desk.ensures.bench.1 c.open-desk.ensures.bench.2 c.open-desk.ensures.last c.open-desk.ensures.no_entries in
    let before = g.O.Sink.told c.args.out.now in
    let after = g.O.Sink.told c.answer_events-status.new.out in
    told c.args.last files c.answer_events-status.result before after
    (subst (λ (d : DeskModel). Ends (desk_transcripts d files.events) c.answer_events-status.result before after) is c.answer_events-status.ensures.ends)

pub returns-clause-probes : goal.returns-clause-probes
returns-clause-probes g c = λ whole.
    let files = read_of c.args.files in
    let start = c.open-desk.result in
    let is = is_opened start c.args.last files.tables c.open-desk.ensures.bench.0 c.open-desk.ensures.bench.1 c.open-desk.ensures.bench.2 c.open-desk.ensures.last c.open-desk.ensures.no_entries in
    let before = (g.O.Sink.told c.args.out.now).written in
    let after = (g.O.Sink.told c.answer_events-status.new.out).written in
    subst (λ (d : DeskModel). Writes (counted_transcripts c.args.steps.now c.answer_events-status.new.steps d files.events) c.answer_events-status.result before after) is (c.answer_events-status.ensures.probes whole)
