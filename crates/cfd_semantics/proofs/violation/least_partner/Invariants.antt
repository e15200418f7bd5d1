use Rattle.std.proofs.Common.{◌≡◌, take}
use Rattle.std.specs.Option.{option_and_then}
use Rattle.cfd_semantics.specs.Violation.{entry_of, entries, least_partner}
use Rattle.cfd_semantics.proofs.violation.least_partner.Given as goal

-- the least partner among the rows so far
abbrev pub invariant-loop-other : goal.invariant-loop-other
invariant-loop-other g l =
    l.least ≡ option_and_then (least_partner g.V.PartialEq.eq l.tableau_row (entries l.dependency (take l.other-index l.rows))) (entry_of l.dependency l.row)
