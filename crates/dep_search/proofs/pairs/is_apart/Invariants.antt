use Rattle.std.proofs.Common.{◌≡◌, false, take}
use Rattle.dep_search.specs.Pairs.{is_apart}
use Rattle.dep_search.proofs.pairs.is_apart.Given as goal

abbrev pub invariant-loop-pair : goal.invariant-loop-pair
invariant-loop-pair l = is_apart l.ids (take l.pair-index l.pairs) ≡ false
