use Rattle.std.proofs.Common.{List, ℕ, ap, ◌∙◌}
use Rattle.shelf_io.specs.Sink.{appended}
use Rattle.shelf_io.proofs.Transcripts.{answers-one, front-of_reply}
use Rattle.desk.specs.DeskReplies.{IsReply}
use Rattle.desk.proofs.serving.answer_one.Goals as goal

pub returns-in-Err-clause-fault : goal.returns-in-Err-clause-fault
returns-in-Err-clause-fault g c =
    front-of_reply IsReply c.args.desk.now c.answer.new.desk c.args.event.now c.answer.new.reply.items c.as_slice.result.now
    (g.O.Sink.told c.args.out.now).written (g.O.Sink.told c.write_out.new.out).written
    c.in_ok-answer.ensures.ok c.as_slice.ensures.value c.in-Err.ensures.front

pub returns-in-Ok-clause-ok : goal.returns-in-Ok-clause-ok
returns-in-Ok-clause-ok g c =
    let before = (g.O.Sink.told c.args.out.now).written in
    answers-one IsReply c.args.desk.now c.answer.new.desk c.args.event.now c.answer.new.reply.items before (g.O.Sink.told c.write_out.new.out).written
    c.in_ok-answer.ensures.ok (c.in-Ok.ensures.ok ∙ ap (λ (bytes : List ℕ). appended before bytes) c.as_slice.ensures.value)
