use Rattle.std.proofs.Common.{◌≡◌, ℕ, Err, ap, arith, inl, subst}
use Rattle.rule_model.specs.Books.{Book}
use Rattle.bench_core.specs.History.{History}
use Rattle.violation_report.specs.Listing.{listing}
use Rattle.shelf_io.specs.Sink.{SinkTold}
use Rattle.shelf_io.specs.Transcript.{IsTranscript}
use Rattle.session.specs.Probes.{Counted, IsCountedReply}
use Rattle.session.specs.Replies.{IsReply}
use Rattle.session.proofs.EachHasReply.{reply_of}
use Rattle.cli_output.specs.declared.status.Status.{Status}
use Rattle.cli_output.specs.Output.{Ends, Outputs}
use Rattle.cli_output.proofs.Outputs.{Ends-wider, Writes-wider}
use Rattle.project_files.specs.Project.{ProjectRead, read_of}
use Rattle.project_forms.specs.RunForm.{counted_from, run_outputs}
use Rattle.project_forms.specs.Transcripts.{HasStatus, found_status, transcripts}
use Rattle.project_forms.proofs.Ends.{ends-answered, ends-memory, ends-write_fault, whole-answered}
use Rattle.project_forms.proofs.Reports.{clean_where_satisfied}
use Rattle.project_forms.proofs.run_form.answer.Goals as goal

-- a transcript with its status says whether the rules are satisfied
told : (project : ProjectRead) (status : Status) (sink sink_after : SinkTold)
    → let start = project.tables in Ends (transcripts (IsReply start.rules start.limits) (λ (history : History). listing start.rules history.present) start.history project.commands) status sink sink_after → Ends (run_outputs project) status sink sink_after
told project status sink sink_after ends =
    let start = project.tables in
    Ends-wider (transcripts (IsReply start.rules start.limits) (λ (history : History). listing start.rules history.present) start.history project.commands) (run_outputs project)
    (λ bytes status is. (is.0, is.1, is.2, clean_where_satisfied start.rules is.0.present status is.2)) status sink sink_after ends

pub returns-in-Ok-clause-ends : goal.returns-in-Ok-clause-ends
returns-in-Ok-clause-ends g c =
    let bench = c.args.project.now.bench in
    let last = c.serve.new.bench in
    let status = subst (λ (rules : Book). HasStatus (listing rules last.history.present) c.status_of.result) c.serve.ensures.made_with.0 (inl c.status_of.ensures) in
    told (read_of c.args.project.now) c.status_of.result (g.O.Sink.told c.args.out.now) (g.O.Sink.told c.serve.new.out)
    (ends-answered (IsReply bench.rules bench.limits) (λ (history : History). listing bench.rules history.present) bench.history c.args.project.now.commands last.history c.status_of.result (g.O.Sink.told c.args.out.now) (g.O.Sink.told c.serve.new.out) c.in-Ok.ensures.ok status)

pub returns-in-Err-WriteFault-clause-ends : goal.returns-in-Err-WriteFault-clause-ends
returns-in-Err-WriteFault-clause-ends g c =
    let bench = c.args.project.now.bench in
    told (read_of c.args.project.now) _ (g.O.Sink.told c.args.out.now) (g.O.Sink.told c.serve.new.out)
    (ends-write_fault (IsReply bench.rules bench.limits) (λ (history : History). listing bench.rules history.present) bench.history c.args.project.now.commands (reply_of bench.rules bench.limits) c.serve.new.bench.history (g.O.Sink.told c.args.out.now) (g.O.Sink.told c.serve.new.out)
    c.in-Err-WriteFault.ensures.fault (c.in-Err-WriteFault.ensures.write_fault (ap Err c.in-Err-WriteFault.field-0-is)))

pub returns-in-Err-Memory-clause-ends : goal.returns-in-Err-Memory-clause-ends
returns-in-Err-Memory-clause-ends g c =
    let bench = c.args.project.now.bench in
    told (read_of c.args.project.now) _ (g.O.Sink.told c.args.out.now) (g.O.Sink.told c.serve.new.out)
    (ends-memory (IsReply bench.rules bench.limits) (λ (history : History). listing bench.rules history.present) bench.history c.args.project.now.commands (reply_of bench.rules bench.limits) c.serve.new.bench.history (g.O.Sink.told c.args.out.now) (g.O.Sink.told c.serve.new.out) c.in-Err-Memory.ensures.fault)

-- the transcripts that end in this state with so many probes, each with its status
abbrev counted_at : ProjectRead → ℕ → Counted → Outputs
counted_at project begun last bytes status =
    let start = project.tables in IsTranscript (IsCountedReply start.rules start.limits) (start.history, begun) project.commands bytes last × (status ≡ found_status (listing start.rules last.0.present))

pub returns-in-Ok-clause-probes : goal.returns-in-Ok-clause-probes
returns-in-Ok-clause-probes g c = λ whole.
    let bench = c.args.project.now.bench in
    let last = c.serve.new.bench in
    let project = read_of c.args.project.now in
    let before = (g.O.Sink.told c.args.out.now).written in
    let after = (g.O.Sink.told c.serve.new.out).written in
    let counted : Counted = (last.history, c.serve.new.steps) in
    let listed = λ (h : Counted). listing bench.rules h.0.present in
    let status = subst (λ (rules : Book). HasStatus (listing rules last.history.present) c.status_of.result) c.serve.ensures.made_with.0 (inl c.status_of.ensures) in
    Writes-wider (counted_at project c.args.steps.now counted) (counted_from c.args.steps.now c.serve.new.steps project) (λ bytes s o. (counted, o.0, omega arith, o.1)) c.status_of.result before after
    (whole-answered (IsCountedReply bench.rules bench.limits) listed (bench.history, c.args.steps.now) project.commands counted c.status_of.result before after c.in-Ok.ensures.probes status whole)
