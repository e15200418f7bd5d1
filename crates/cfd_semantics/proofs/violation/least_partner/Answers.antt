use Rattle.std.proofs.Common.{arith}
use Rattle.cfd_semantics.specs.Violation.{entry_of}
use Rattle.cfd_semantics.proofs.Listing.{least_partner-more}
use Rattle.cfd_semantics.proofs.violation.least_partner.Goals as goal
use Rattle.cfd_semantics.proofs.violation.least_partner.Goals.{then-is_pair, else-is_pair}

pub loop-other-preserved : goal.loop-other-preserved
loop-other-preserved g c =
    let step = least_partner-more g.V.PartialEq.eq c.args.dependency.now c.args.tableau_row.now c.args.rows.now c.loop-other.other-index c.other-item.result (entry_of c.args.dependency.now c.args.row.now) c.loop-other-test.true c.other-item.is in
    let kept = c.loop-other.invariant in
    elim c.if-is_pair.branch [ then-is_pair w ↦ grind (arith, step, kept, c.is_pair.ensures) | else-is_pair w ↦ grind (arith, step, kept, c.is_pair.ensures) ]
