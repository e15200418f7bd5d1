use Rattle.std.proofs.Common.{◌≡◌, take}
use Rattle.std.specs.List.{filter_map}
use Rattle.cfd_semantics.specs.Violation.{entries, violation_of}
use Rattle.cfd_semantics.proofs.violation.violating.Given as goal

-- what is listed of the rows so far
abbrev pub invariant-loop-row : goal.invariant-loop-row
invariant-loop-row g l =
    l.found ≡ filter_map (violation_of g.V.PartialEq.eq l.tableau_row (entries l.dependency l.rows)) (entries l.dependency (take l.row-index l.rows))
