use Rattle.std.proofs.Common.{◌≡◌, ◌-◌, drop, length}
use Rattle.dep_search.specs.Found.{proper_parts}
use Rattle.dep_search.proofs.parts.proper_parts.Given as goal

abbrev pub invariant-loop-i : goal.invariant-loop-i
invariant-loop-i l = l.parts ≡ proper_parts (drop (length l.x - l.i) l.x)
