use Rattle.std.proofs.Common.{get_or, refl, arith}
use Rattle.cfd_semantics.proofs.Values.{has-more}
use Rattle.cfd_semantics.proofs.tuple.has_all.Goals as goal

pub loop-attribute-preserved : goal.loop-attribute-preserved
loop-attribute-preserved g c =
    let step = has-more c.args.tuple.now c.args.x.now c.loop-attribute.attribute-index (get_or c.args.x.now c.loop-attribute.attribute-index 0) c.loop-attribute-test.true refl in
    let kept = c.loop-attribute.invariant in
    grind (arith, step, kept, c.value_at.ensures, c.if-is_none.false)
