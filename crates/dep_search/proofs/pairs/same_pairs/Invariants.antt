use Rattle.std.proofs.Common.{◌≡◌, take}
use Rattle.dep_search.specs.Pairs.{same_of}
use Rattle.dep_search.proofs.pairs.same_pairs.Given as goal

abbrev pub invariant-loop-pair : goal.invariant-loop-pair
invariant-loop-pair l = l.list ≡ same_of l.ids (take l.pair-index l.pairs)
