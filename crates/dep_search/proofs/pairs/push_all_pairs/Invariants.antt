use Rattle.std.proofs.Common.{ℕ, ◌<◌}
use Rattle.std.specs.Prelude.{All}
use Rattle.dep_search.specs.Pairs.{HasBehind, IsLed}
use Rattle.dep_search.proofs.pairs.push_all_pairs.Given as goal

abbrev pub invariant-loop-r : goal.invariant-loop-r
invariant-loop-r l = record {
  pairs : All (IsLed l.classes.leaders) l.pairs;
  behind : (q : ℕ) → q < l.r → HasBehind l.classes.leaders l.pairs q;
}
