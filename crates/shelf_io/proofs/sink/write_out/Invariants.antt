use Rattle.std.proofs.Common.{length, ◌-◌}
use Rattle.shelf_io.proofs.Puts.{IsUnderWay}
use Rattle.shelf_io.proofs.sink.write_out.Given as goal

abbrev pub invariant-loop-done : goal.invariant-loop-done
invariant-loop-done g l = IsUnderWay l.bytes l.done (g.O.Sink.told l.fn.out) (g.O.Sink.told l.out)

abbrev pub decreases-loop-done : goal.decreases-loop-done
decreases-loop-done g l = length l.bytes - l.done
