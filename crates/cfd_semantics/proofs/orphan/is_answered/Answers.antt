use Rattle.std.proofs.Common.{arith}
use Rattle.cfd_semantics.specs.Orphan.{right_entry_of, answers}
use Rattle.cfd_semantics.proofs.Listing.{any-left}
use Rattle.cfd_semantics.proofs.orphan.is_answered.Goals as goal

pub returns-then-answers : goal.returns-then-answers
returns-then-answers g c = λ left here.
    let step = any-left (right_entry_of c.args.inclusion.now) (answers g.V.PartialEq.eq c.args.tableau_row.now left) c.args.rights.now c.loop-other.other-index c.other-item.result c.loop-other-test.true c.other-item.is in
    let kept = c.loop-other.invariant left here in
    let tested = c.answers.ensures left here in
    grind (arith, step, kept, tested, c.if-answers.true)

pub loop-other-preserved : goal.loop-other-preserved
loop-other-preserved g c = λ left here.
    let step = any-left (right_entry_of c.args.inclusion.now) (answers g.V.PartialEq.eq c.args.tableau_row.now left) c.args.rights.now c.loop-other.other-index c.other-item.result c.loop-other-test.true c.other-item.is in
    let kept = c.loop-other.invariant left here in
    let tested = c.answers.ensures left here in
    grind (arith, step, kept, tested, c.if-answers.false)
