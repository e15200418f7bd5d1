use Rattle.std.proofs.Common.{◌≡◌, ◌++◌, take}
use Rattle.dep_search.proofs.parts.push_copies.Given as goal

abbrev pub invariant-loop-part : goal.invariant-loop-part
invariant-loop-part l = l.more ≡ l.initial.more ++ take l.part-index l.parts
