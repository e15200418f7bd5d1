use Rattle.std.proofs.Common.{◌≡◌, map, take}
use Rattle.dep_search.specs.Keys.{candidate_of}
use Rattle.dep_search.proofs.sorting.candidates_of.Given as goal

abbrev pub invariant-loop-key : goal.invariant-loop-key
invariant-loop-key l = l.list ≡ map candidate_of (take l.key-index l.keys)
