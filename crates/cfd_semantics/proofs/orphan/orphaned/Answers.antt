use Rattle.std.proofs.Common.{arith}
use Rattle.std.proofs.lemmas.List.{append-nil}
use Rattle.cfd_semantics.specs.Orphan.{SideEntry, left_entry_of, right_entries, is_orphan}
use Rattle.cfd_semantics.proofs.Listing.{passing-more}
use Rattle.cfd_semantics.proofs.SideLists.{row_of_left_entry}
use Rattle.cfd_semantics.proofs.orphan.orphaned.Goals as goal
use Rattle.cfd_semantics.proofs.orphan.orphaned.Goals.{then-is_orphan+in_ok-push, else-is_orphan}

pub loop-row-preserved : goal.loop-row-preserved
loop-row-preserved g c =
    let step = passing-more (left_entry_of c.args.inclusion.now) (is_orphan g.V.PartialEq.eq c.args.tableau_row.now (right_entries c.args.inclusion.now c.args.rights.now)) (λ (left : SideEntry g.row.V.Denot). left.row) c.args.lefts.now c.loop-row.row-index c.row-item.result c.row-item.result.0 (row_of_left_entry c.args.inclusion.now c.row-item.result) c.loop-row-test.true c.row-item.is in
    let kept = c.loop-row.invariant in
    elim c.if-is_orphan.branch [ then-is_orphan+in_ok-push w ↦ grind (arith, step, kept, c.is_orphan.ensures) | else-is_orphan w ↦ grind (arith, step, kept, append-nil, c.is_orphan.ensures) ]
