use Rattle.std.proofs.Common.{◌≡◌, ◌++◌, map, take}
use Rattle.cfd_semantics.proofs.orphan.push_numbered.Given as goal

abbrev pub invariant-loop-row : goal.invariant-loop-row
invariant-loop-row l = l.all ≡ l.initial.all ++ map (λ row. (l.number, row)) (take l.row-index l.found)
