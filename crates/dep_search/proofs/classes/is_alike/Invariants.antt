use Rattle.std.proofs.Common.{◌≡◌, ℕ, ◌-◌, ◌<◌, ◌≤◌, length}
use Rattle.std.specs.Prelude.{slice_index}
use Rattle.dep_search.proofs.classes.is_alike.Given as goal

abbrev pub invariant-loop-r : goal.invariant-loop-r
invariant-loop-r l = record {
  end : l.r ≤ length l.ids;
  here : l.r < length l.ids → slice_index l.classes.leaders l.r ≡ l.first;
  before : (s : ℕ) → s < l.r → s < length l.ids → slice_index l.classes.leaders s ≡ l.first → slice_index l.ids s ≡ slice_index l.ids l.first;
}

abbrev pub decreases-loop-r : goal.decreases-loop-r
decreases-loop-r l = length l.ids - l.r
