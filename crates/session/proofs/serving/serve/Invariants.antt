use Rattle.std.proofs.Common.{◌≡◌, ◌≤◌, take}
use Rattle.shelf_io.specs.Transcript.{Answers}
use Rattle.session.specs.Probes.{IsCountedReply}
use Rattle.session.specs.Replies.{IsReply}
use Rattle.session.proofs.serving.serve.Given as goal

abbrev pub invariant-loop-command : goal.invariant-loop-command
invariant-loop-command g l =
    let start = l.initial.bench in
    record {
      answered : Answers (IsReply start.rules start.limits) start.history (take l.command-index l.commands) l.bench.history (g.O.Sink.told l.initial.out).written (g.O.Sink.told l.out).written;
      counted : Answers (IsCountedReply start.rules start.limits) (start.history, l.initial.steps) (take l.command-index l.commands) (l.bench.history, l.steps) (g.O.Sink.told l.initial.out).written (g.O.Sink.told l.out).written;
      rules : l.bench.rules ≡ start.rules;
      limits : l.bench.limits ≡ start.limits;
      faults : (g.O.Sink.told l.initial.out).faults ≤ (g.O.Sink.told l.out).faults;
    }
