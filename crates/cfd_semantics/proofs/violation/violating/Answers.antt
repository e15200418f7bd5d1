use Rattle.std.proofs.Common.{arith}
use Rattle.std.proofs.lemmas.List.{append-nil}
use Rattle.cfd_semantics.specs.Violation.{entry_of, entries, violation_of}
use Rattle.cfd_semantics.proofs.Listing.{listed-more}
use Rattle.cfd_semantics.proofs.violation.violating.Goals as goal
use Rattle.cfd_semantics.proofs.violation.violating.Goals.{in-Some+in_ok-push, in_default}

pub loop-row-preserved : goal.loop-row-preserved
loop-row-preserved g c =
    let step = listed-more (entry_of c.args.dependency.now) (violation_of g.V.PartialEq.eq c.args.tableau_row.now (entries c.args.dependency.now c.args.rows.now)) c.args.rows.now c.loop-row.row-index c.row-item.result c.loop-row-test.true c.row-item.is in
    let kept = c.loop-row.invariant in
    elim c.match-violation_of.branch [ in-Some+in_ok-push w ↦ grind (arith, step, kept, c.violation_of.ensures) | in_default w ↦ grind (arith, step, kept, append-nil, c.violation_of.ensures) ]
