use Rattle.std.proofs.Common.{◌≡◌, ◌≤◌, take}
use Rattle.shelf_io.specs.Transcript.{Answers}
use Rattle.desk.specs.DeskReplies.{IsCountedReply, IsReply}
use Rattle.desk.specs.OneHistory.{AreOneHistory}
use Rattle.desk_state.specs.LeftTexts.{IsReached}
use Rattle.desk.proofs.serving.serve_desk.Given as goal

abbrev pub invariant-loop-event : goal.invariant-loop-event
invariant-loop-event g l =
    let start = l.initial.desk in
    record {
      answered : Answers IsReply start (take l.event-index l.events) l.desk (g.O.Sink.told l.initial.out).written (g.O.Sink.told l.out).written;
      counted : Answers IsCountedReply (start, l.initial.steps) (take l.event-index l.events) (l.desk, l.steps) (g.O.Sink.told l.initial.out).written (g.O.Sink.told l.out).written;
      history : AreOneHistory start l.desk;
      reached : IsReached start → IsReached l.desk;
      rules : l.desk.rules ≡ start.rules;
      limits : l.desk.limits ≡ start.limits;
      last : l.desk.last ≡ start.last;
      faults : (g.O.Sink.told l.initial.out).faults ≤ (g.O.Sink.told l.out).faults;
    }
