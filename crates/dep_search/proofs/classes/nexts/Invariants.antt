use Rattle.std.proofs.Common.{◌≡◌, ℕ, ◌+◌, ◌-◌, ◌<◌, ◌≤◌, length}
use Rattle.std.specs.Prelude.{slice_index}
use Rattle.dep_search.specs.Classes.{IsFrom}
use Rattle.dep_search.proofs.classes.nexts.Given as goal

abbrev pub invariant-loop-i : goal.invariant-loop-i
invariant-loop-i l = record {
  nexts_long : length l.nexts.items ≡ length l.leaders;
  fronts_long : length l.fronts.items ≡ length l.leaders;
  nexts : (k : ℕ) → k < length l.leaders → length l.leaders - l.i ≤ k → IsFrom l.leaders (slice_index l.leaders k) (k + 1) (slice_index l.nexts.items k);
  fronts : (f : ℕ) → f < length l.leaders → IsFrom l.leaders f (length l.leaders - l.i) (slice_index l.fronts.items f);
}
