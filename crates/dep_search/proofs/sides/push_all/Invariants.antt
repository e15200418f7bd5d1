use Rattle.std.proofs.Common.{◌≡◌, ◌++◌, take}
use Rattle.dep_search.proofs.sides.push_all.Given as goal

abbrev pub invariant-loop-side : goal.invariant-loop-side
invariant-loop-side l = l.sides ≡ l.initial.sides ++ take l.side-index l.level
