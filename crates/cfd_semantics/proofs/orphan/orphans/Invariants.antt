use Rattle.std.proofs.Common.{◌≡◌, take}
use Rattle.cfd_semantics.specs.Numbered.{numbered}
use Rattle.cfd_semantics.specs.Orphan.{left_entries, right_entries, orphaned}
use Rattle.cfd_semantics.proofs.orphan.orphans.Given as goal

-- what the tableau rows so far give
abbrev pub invariant-loop-number : goal.invariant-loop-number
invariant-loop-number g l =
    l.all ≡ numbered (λ t. orphaned g.V.PartialEq.eq t (left_entries l.inclusion l.lefts) (right_entries l.inclusion l.rights)) (take l.number l.tableau)
