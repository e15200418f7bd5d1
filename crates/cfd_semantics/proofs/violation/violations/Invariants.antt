use Rattle.std.proofs.Common.{◌≡◌, take}
use Rattle.cfd_semantics.specs.Numbered.{numbered}
use Rattle.cfd_semantics.specs.Violation.{entries, violating}
use Rattle.cfd_semantics.proofs.violation.violations.Given as goal

-- what the tableau rows so far give
abbrev pub invariant-loop-number : goal.invariant-loop-number
invariant-loop-number g l =
    l.all ≡ numbered (λ t. violating g.V.PartialEq.eq t (entries l.dependency l.rows)) (take l.number l.tableau)
