use Rattle.std.proofs.Common.{◌≡◌, ◌++◌, map, take}
use Rattle.bench_index.proofs.listing.push_orphans.Given as goal

abbrev pub invariant-loop-row : goal.invariant-loop-row
invariant-loop-row l = l.all ≡ l.initial.all ++ map (λ row. (l.k, row)) (take l.row-index l.found)
