use Rattle.std.proofs.Common.{◌≡◌, ℕ, List, Err, ap, arith, inl, subst, ◌∙◌}
use Rattle.rule_model.specs.Books.{Book}
use Rattle.bench_core.specs.History.{History}
use Rattle.violation_report.specs.Listing.{listing}
use Rattle.shelf_io.specs.Transcript.{IsTranscript}
use Rattle.desk_events.specs.declared.event.Event.{Event}
use Rattle.desk_state.specs.Desk.{DeskModel}
use Rattle.desk.specs.DeskReplies.{Counted, IsCountedReply, IsReply}
use Rattle.desk.proofs.EachHasReply.{reply_of}
use Rattle.cli_output.specs.Output.{Outputs}
use Rattle.cli_output.proofs.Outputs.{Writes-wider}
use Rattle.project_forms.specs.DeskForm.{counted_transcripts}
use Rattle.project_forms.specs.Transcripts.{HasStatus, found_status}
use Rattle.project_forms.proofs.Ends.{ends-answered, ends-memory, ends-write_fault, whole-answered}
use Rattle.project_forms.proofs.desk_form.answer_events.Goals as goal

pub returns-in-Ok-clause-ends : goal.returns-in-Ok-clause-ends
returns-in-Ok-clause-ends g c =
    let start = c.args.desk.now in
    let last = c.serve_desk.new.desk in
    let rules : c.bench.result.now.rules ≡ start.rules = c.bench.ensures.bench.0 ∙ c.serve_desk.ensures.made_with.0 in
    let history : c.bench.result.now.history ≡ last.history = c.bench.ensures.bench.2 in
    let status = subst (λ (h : History). HasStatus (listing start.rules h.present) c.status_of.result) history (subst (λ (r : Book). HasStatus (listing r c.bench.result.now.history.present) c.status_of.result) rules (inl c.status_of.ensures)) in
    ends-answered IsReply (λ (d : DeskModel). listing start.rules d.history.present) start c.args.events.now last c.status_of.result (g.O.Sink.told c.args.out.now) (g.O.Sink.told c.serve_desk.new.out) c.in-Ok.ensures.ok status

pub returns-in-Err-WriteFault-clause-ends : goal.returns-in-Err-WriteFault-clause-ends
returns-in-Err-WriteFault-clause-ends g c =
    let start = c.args.desk.now in
    ends-write_fault IsReply (λ (d : DeskModel). listing start.rules d.history.present) start c.args.events.now reply_of c.serve_desk.new.desk (g.O.Sink.told c.args.out.now) (g.O.Sink.told c.serve_desk.new.out) c.in-Err-WriteFault.ensures.fault (c.in-Err-WriteFault.ensures.write_fault (ap Err c.in-Err-WriteFault.field-0-is))

pub returns-in-Err-Memory-clause-ends : goal.returns-in-Err-Memory-clause-ends
returns-in-Err-Memory-clause-ends g c =
    let start = c.args.desk.now in
    ends-memory IsReply (λ (d : DeskModel). listing start.rules d.history.present) start c.args.events.now reply_of c.serve_desk.new.desk (g.O.Sink.told c.args.out.now) (g.O.Sink.told c.serve_desk.new.out) c.in-Err-Memory.ensures.fault

-- the transcripts that end at this desk with so many probes, each with its status
abbrev counted_at : ℕ → DeskModel → List Event → Counted → Outputs
counted_at begun start events last bytes status = IsTranscript IsCountedReply (start, begun) events bytes last × (status ≡ found_status (listing start.rules last.0.history.present))

pub returns-in-Ok-clause-probes : goal.returns-in-Ok-clause-probes
returns-in-Ok-clause-probes g c = λ whole.
    let start = c.args.desk.now in
    let last = c.serve_desk.new.desk in
    let events = c.args.events.now in
    let before = (g.O.Sink.told c.args.out.now).written in
    let after = (g.O.Sink.told c.serve_desk.new.out).written in
    let counted : Counted = (last, c.serve_desk.new.steps) in
    let listed = λ (d : Counted). listing start.rules d.0.history.present in
    let rules : c.bench.result.now.rules ≡ start.rules = c.bench.ensures.bench.0 ∙ c.serve_desk.ensures.made_with.0 in
    let history : c.bench.result.now.history ≡ last.history = c.bench.ensures.bench.2 in
    let status = subst (λ (h : History). HasStatus (listing start.rules h.present) c.status_of.result) history (subst (λ (r : Book). HasStatus (listing r c.bench.result.now.history.present) c.status_of.result) rules (inl c.status_of.ensures)) in
    Writes-wider (counted_at c.args.steps.now start events counted) (counted_transcripts c.args.steps.now c.serve_desk.new.steps start events) (λ bytes s o. (counted, o.0, omega arith, o.1)) c.status_of.result before after
    (whole-answered IsCountedReply listed (start, c.args.steps.now) events counted c.status_of.result before after c.in-Ok.ensures.probes status whole)
