use Rattle.std.proofs.Common.{[], ◌∷◌, Ok, Err, OnErr, refl, arith, ◌∙◌}
use Rattle.shelf_io.specs.Transcript.{Answers, AnswersFront}
use Rattle.shelf_io.proofs.Transcripts.{answers-cut, answers-more, answers-none}
use Rattle.session.specs.Probes.{IsCountedReply, IsWithin}
use Rattle.session.specs.Replies.{IsReply}
use Rattle.session.proofs.CountedReplies.{counted-one}
use Rattle.session.proofs.SameRules.{under_same}
use Rattle.session.proofs.serving.serve.Goals as goal

pub loop-command-init : goal.loop-command-init
loop-command-init g c = record {
  answered = answers-none (IsReply c.args.bench.now.rules c.args.bench.now.limits) c.args.bench.now.history c.args.commands.now (g.O.Sink.told c.args.out.now).written;
  counted = answers-none (IsCountedReply c.args.bench.now.rules c.args.bench.now.limits) (c.args.bench.now.history, c.args.steps.now) c.args.commands.now (g.O.Sink.told c.args.out.now).written;
  rules = refl;
  limits = refl;
  faults = omega arith;
}

pub loop-command-preserved : goal.loop-command-preserved
loop-command-preserved g c =
    let start = c.args.bench.now in
    let so_far = c.loop-command.invariant in
    let between = (g.O.Sink.told c.loop-command.out).written in
    let now = (g.O.Sink.told c.answer_one.new.out).written in
    let next = under_same (λ rules limits. Answers (IsReply rules limits) c.loop-command.bench.history (c.command-item.result ∷ []) c.answer_one.new.bench.history between now) _ _ _ _ so_far.rules so_far.limits c.in_ok-answer_one.ensures.ok in
    let few = under_same (λ rules limits. IsWithin rules c.loop-command.bench.history c.command-item.result c.loop-command.steps c.answer_one.new.steps) _ _ _ _ so_far.rules so_far.limits c.answer_one.ensures.probes in
    let counted = counted-one start.rules start.limits c.loop-command.bench.history c.answer_one.new.bench.history c.command-item.result c.loop-command.steps c.answer_one.new.steps between now next few in
    record {
      answered = answers-more (IsReply start.rules start.limits) start.history c.loop-command.bench.history c.answer_one.new.bench.history c.args.commands.now c.loop-command.command-index c.command-item.result _ between now
          (rw c.as_slice-command-items.ensures at c.loop-command-test.true) (rw c.as_slice-command-items.ensures at c.command-item.is) so_far.answered next;
      counted = answers-more (IsCountedReply start.rules start.limits) (start.history, c.args.steps.now) (c.loop-command.bench.history, c.loop-command.steps) (c.answer_one.new.bench.history, c.answer_one.new.steps) c.args.commands.now c.loop-command.command-index c.command-item.result _ between now
          (rw c.as_slice-command-items.ensures at c.loop-command-test.true) (rw c.as_slice-command-items.ensures at c.command-item.is) so_far.counted counted;
      rules = c.answer_one.ensures.made_with.0 ∙ so_far.rules;
      limits = c.answer_one.ensures.made_with.1 ∙ so_far.limits;
      faults = omega (arith, so_far.faults, c.answer_one.ensures.faults);
    }

pub returns-in_err-answer_one-clause-fault : goal.returns-in_err-answer_one-clause-fault
returns-in_err-answer_one-clause-fault g c =
    let start = c.args.bench.now in
    let so_far = c.loop-command.invariant in
    let was = (g.O.Sink.told c.args.out.now).written in
    let between = (g.O.Sink.told c.loop-command.out).written in
    let now = (g.O.Sink.told c.answer_one.new.out).written in
    let next = under_same (λ rules limits. AnswersFront (IsReply rules limits) c.loop-command.bench.history (c.command-item.result ∷ []) c.answer_one.new.bench.history between now) _ _ _ _ so_far.rules so_far.limits c.in_err-answer_one.ensures.fault in
    let front = answers-cut (IsReply start.rules start.limits) start.history c.loop-command.bench.history c.answer_one.new.bench.history c.args.commands.now c.loop-command.command-index c.command-item.result was between now
    (rw c.as_slice-command-items.ensures at c.loop-command-test.true) (rw c.as_slice-command-items.ensures at c.command-item.is) so_far.answered next in
    elim c.from_residual.result as (λ r. OnErr r (AnswersFront (IsReply start.rules start.limits) start.history c.args.commands.now c.answer_one.new.bench.history was now)) [ Ok done ↦ tt | Err fault ↦ front ]
