use Rattle.std.proofs.Common.{◌≡◌, ◌-◌, ℕ, List, length, take, drop, subst, ◌∙◌, arith}
use Rattle.shelf_io.specs.Sink.{appended}
use Rattle.buffered_sink.proofs.Left.{same_told}
use Rattle.buffered_sink.proofs.BufferedSink.flush.Goals as goal

pub loop-self-preserved : goal.loop-self-preserved
loop-self-preserved g c =
    let done = c.loop-self.self.done in
    let before = (g.O.Sink.told c.loop-self.self.within).written in
    let after = (g.O.Sink.told c.put.new.self).written in
    let taken = c.in_ok-self.field-0 in
    let put = subst (λ (held : List ℕ). after ≡ appended before (take taken (take (length held - done) (drop done held)))) c.deref.ensures.value c.in_ok-self.ensures.appended in
    record {
      told = same_told c.loop-self.self.held.items done taken before after put ∙ c.loop-self.invariant.told;
      faults = omega (arith, c.loop-self.invariant.faults, c.in_ok-self.ensures.faults);
    }
