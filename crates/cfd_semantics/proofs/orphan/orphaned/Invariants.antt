use Rattle.std.proofs.Common.{◌≡◌, take}
use Rattle.cfd_semantics.specs.Orphan.{left_entries, right_entries, orphaned}
use Rattle.cfd_semantics.proofs.orphan.orphaned.Given as goal

-- the orphans among the left rows so far
abbrev pub invariant-loop-row : goal.invariant-loop-row
invariant-loop-row g l =
    l.found ≡ orphaned g.V.PartialEq.eq l.tableau_row (left_entries l.inclusion (take l.row-index l.lefts)) (right_entries l.inclusion l.rights)
