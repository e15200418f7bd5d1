use Rattle.std.proofs.Common.{◌≡◌, ◌++◌, map, take}
use Rattle.cfd_semantics.proofs.violation.push_numbered.Given as goal

abbrev pub invariant-loop-violation : goal.invariant-loop-violation
invariant-loop-violation l = l.all ≡ l.initial.all ++ map (λ violation. (l.number, violation)) (take l.violation-index l.found)
