use Rattle.std.proofs.Common.{◌≡◌, ◌-◌, ◌≤◌, drop, length}
use Rattle.buffered_sink.specs.Held.{told_with}
use Rattle.buffered_sink.proofs.BufferedSink.flush.Given as goal

-- what is told as written stays
abbrev pub invariant-loop-self : goal.invariant-loop-self
invariant-loop-self g l = record {
  told : (told_with (g.O.Sink.told l.self.within) (drop l.self.done l.self.held.items)).written ≡ (told_with (g.O.Sink.told l.fn.self.within) (drop l.fn.self.done l.fn.self.held.items)).written;
  faults : (g.O.Sink.told l.fn.self.within).faults ≤ (g.O.Sink.told l.self.within).faults;
}

abbrev pub decreases-loop-self : goal.decreases-loop-self
decreases-loop-self g l = length l.self.held.items - l.self.done
