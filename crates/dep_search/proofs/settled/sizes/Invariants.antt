use Rattle.std.proofs.Common.{◌≡◌, ℕ, ◌<◌, length, eqb}
use Rattle.std.specs.Prelude.{slice_index}
use Rattle.dep_search.specs.Counting.{tally}
use Rattle.dep_search.proofs.settled.sizes.Given as goal

abbrev pub invariant-loop-r : goal.invariant-loop-r
invariant-loop-r l = record {
  long : length l.sizes.items ≡ length l.leaders;
  each : (first : ℕ) → first < length l.leaders → slice_index l.sizes.items first ≡ tally (λ r. eqb first (slice_index l.leaders r)) l.r;
}
