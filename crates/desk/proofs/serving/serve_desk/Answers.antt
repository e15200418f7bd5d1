use Rattle.std.proofs.Common.{Ok, Err, OnErr, refl, arith, ◌∙◌}
use Rattle.shelf_io.specs.Transcript.{AnswersFront}
use Rattle.shelf_io.proofs.Transcripts.{answers-cut, answers-more, answers-none}
use Rattle.desk.specs.DeskReplies.{IsCountedReply, IsReply}
use Rattle.desk.proofs.CountedReplies.{counted-one}
use Rattle.desk.proofs.OneHistory.{made_on, none_made}
use Rattle.desk_state.proofs.DeskStands.{reached-as_left}
use Rattle.desk.proofs.serving.serve_desk.Goals as goal

pub loop-event-init : goal.loop-event-init
loop-event-init g c = record {
  answered = answers-none IsReply c.args.desk.now c.args.events.now (g.O.Sink.told c.args.out.now).written;
  counted = answers-none IsCountedReply (c.args.desk.now, c.args.steps.now) c.args.events.now (g.O.Sink.told c.args.out.now).written;
  history = none_made c.args.desk.now;
  reached = λ reached. reached;
  rules = refl;
  limits = refl;
  last = refl;
  faults = omega arith;
}

pub loop-event-preserved : goal.loop-event-preserved
loop-event-preserved g c =
    let start = c.args.desk.now in
    let so_far = c.loop-event.invariant in
    let between = (g.O.Sink.told c.loop-event.out).written in
    let now = (g.O.Sink.told c.answer_one.new.out).written in
    let next = c.in_ok-answer_one.ensures.ok in
    let counted = counted-one c.loop-event.desk c.answer_one.new.desk c.event-item.result c.loop-event.steps c.answer_one.new.steps between now next c.answer_one.ensures.probes in
    let here = rw c.as_slice-event-items.ensures at c.loop-event-test.true in
    let item = rw c.as_slice-event-items.ensures at c.event-item.is in
    record {
      answered = answers-more IsReply start c.loop-event.desk c.answer_one.new.desk c.args.events.now c.loop-event.event-index c.event-item.result _ between now here item so_far.answered next;
      counted = answers-more IsCountedReply (start, c.args.steps.now) (c.loop-event.desk, c.loop-event.steps) (c.answer_one.new.desk, c.answer_one.new.steps) c.args.events.now c.loop-event.event-index c.event-item.result _ between now here item so_far.counted counted;
      reached = λ reached. c.answer_one.ensures.reached (so_far.reached reached);
      history = made_on start c.loop-event.desk c.answer_one.new.desk so_far.rules so_far.limits so_far.history c.answer_one.ensures.one_history;
      rules = c.answer_one.ensures.made_with.0 ∙ so_far.rules;
      limits = c.answer_one.ensures.made_with.1 ∙ so_far.limits;
      last = c.answer_one.ensures.made_with.2 ∙ so_far.last;
      faults = omega (arith, so_far.faults, c.answer_one.ensures.faults);
    }

pub returns-in_err-answer_one-clause-fault : goal.returns-in_err-answer_one-clause-fault
returns-in_err-answer_one-clause-fault g c =
    let start = c.args.desk.now in
    let so_far = c.loop-event.invariant in
    let was = (g.O.Sink.told c.args.out.now).written in
    let between = (g.O.Sink.told c.loop-event.out).written in
    let now = (g.O.Sink.told c.answer_one.new.out).written in
    let front = answers-cut IsReply start c.loop-event.desk c.answer_one.new.desk c.args.events.now c.loop-event.event-index c.event-item.result was between now
    (rw c.as_slice-event-items.ensures at c.loop-event-test.true) (rw c.as_slice-event-items.ensures at c.event-item.is) so_far.answered c.in_err-answer_one.ensures.fault in
    elim c.from_residual.result as (λ r. OnErr r (AnswersFront IsReply start c.args.events.now c.answer_one.new.desk was now)) [ Ok done ↦ tt | Err fault ↦ front ]

pub returns-in_err-answer_one-clause-one_history : goal.returns-in_err-answer_one-clause-one_history
returns-in_err-answer_one-clause-one_history g c =
    let so_far = c.loop-event.invariant in
    made_on c.args.desk.now c.loop-event.desk c.answer_one.new.desk so_far.rules so_far.limits so_far.history c.answer_one.ensures.one_history

pub returns-in_err-answer_one-clause-reached : goal.returns-in_err-answer_one-clause-reached
returns-in_err-answer_one-clause-reached g c reached = c.answer_one.ensures.reached (c.loop-event.invariant.reached reached)

pub returns-in_err-answer_one-clause-as_left : goal.returns-in_err-answer_one-clause-as_left
returns-in_err-answer_one-clause-as_left g c reached = reached-as_left c.answer_one.new.desk (c.answer_one.ensures.reached (c.loop-event.invariant.reached reached))

pub returns-clause-as_left : goal.returns-clause-as_left
returns-clause-as_left g c reached = reached-as_left c.loop-event.desk (c.loop-event.invariant.reached reached)
