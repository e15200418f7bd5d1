use Rattle.std.proofs.Common.{◌≡◌, ◌≢◌, ℕ, ◌-◌, ◌<◌, ◌≤◌, true, false, length}
use Rattle.std.specs.Prelude.{slice_index, slice_index_or}
use Rattle.dep_search.proofs.classes.mark.Given as goal

abbrev pub invariant-loop-r : goal.invariant-loop-r
invariant-loop-r l = record {
  end : l.r ≤ length l.flags;
  long : length l.flags ≡ length l.initial.flags;
  here : l.r < length l.flags → slice_index l.classes.leaders l.r ≡ l.first;
  marked : (s : ℕ) → s < l.r → s < length l.flags → slice_index l.classes.leaders s ≡ l.first → slice_index_or l.flags s false ≡ true;
  others : (s : ℕ) → s < length l.flags → slice_index l.classes.leaders s ≢ l.first → slice_index_or l.flags s false ≡ slice_index_or l.initial.flags s false;
}

abbrev pub decreases-loop-r : goal.decreases-loop-r
decreases-loop-r l = length l.flags - l.r
