use Rattle.std.proofs.Common.{◌≡◌, ◌++◌, map, take}
use Rattle.bench_index.proofs.listing.push_violations.Given as goal

abbrev pub invariant-loop-violation : goal.invariant-loop-violation
invariant-loop-violation l = l.all ≡ l.initial.all ++ map (λ violation. (l.k, violation)) (take l.violation-index l.found)
