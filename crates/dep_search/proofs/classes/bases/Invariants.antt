use Rattle.std.proofs.Common.{◌≡◌, length}
use Rattle.dep_search.proofs.classes.bases.Given as goal

abbrev pub invariant-loop-r : goal.invariant-loop-r
invariant-loop-r l = length l.bases.items ≡ length l.leaders
