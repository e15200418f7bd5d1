use Rattle.std.proofs.Common.{◌≡◌, ℕ, ◌-◌, ◌<◌, ◌≤◌, true, length}
use Rattle.std.specs.Prelude.{All, slice_index}
use Rattle.dep_search.specs.Pairs.{AreKept, IsLed, is_among}
use Rattle.dep_search.proofs.pairs.push_pairs.Given as goal

abbrev pub invariant-loop-s : goal.invariant-loop-s
invariant-loop-s l = record {
  end : l.s ≤ length l.classes.leaders;
  after : l.r < l.s;
  same : l.s < length l.classes.leaders → slice_index l.classes.leaders l.s ≡ slice_index l.classes.leaders l.r;
  pairs : All (IsLed l.classes.leaders) l.pairs;
  kept : AreKept l.initial.pairs l.pairs;
  behind : (t : ℕ) → l.r < t → t < l.s → t < length l.classes.leaders → slice_index l.classes.leaders t ≡ slice_index l.classes.leaders l.r
      → is_among l.pairs l.r t ≡ true;
}

abbrev pub decreases-loop-s : goal.decreases-loop-s
decreases-loop-s l = length l.classes.leaders - l.s
