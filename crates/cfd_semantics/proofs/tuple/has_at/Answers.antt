use Rattle.std.proofs.Common.{get_or, refl, sym, arith}
use Rattle.cfd_semantics.proofs.Values.{agrees-more, agrees-long}
use Rattle.cfd_semantics.proofs.tuple.has_at.Goals as goal

pub returns-then-constants-x : goal.returns-then-constants-x
returns-then-constants-x g c = sym (agrees-long g.V.PartialEq.eq c.args.constants.now c.args.tuple.now c.args.x.now c.if-constants-x.true)

pub returns-then-not-are_same : goal.returns-then-not-are_same
returns-then-not-are_same g c =
    let step = agrees-more g.V.PartialEq.eq c.args.constants.now c.args.tuple.now c.args.x.now c.loop-place.place c.index-constants-place.result (get_or c.args.x.now c.loop-place.place 0) (omega arith) c.loop-place-test.true c.index-constants-place.is refl in
    let kept = c.loop-place.invariant in
    grind (arith, step, kept, c.are_same.ensures, c.if-not-are_same.true, c.value_at.ensures)

pub loop-place-preserved : goal.loop-place-preserved
loop-place-preserved g c =
    let step = agrees-more g.V.PartialEq.eq c.args.constants.now c.args.tuple.now c.args.x.now c.loop-place.place c.index-constants-place.result (get_or c.args.x.now c.loop-place.place 0) (omega arith) c.loop-place-test.true c.index-constants-place.is refl in
    let kept = c.loop-place.invariant in
    grind (arith, step, kept, c.are_same.ensures, c.if-not-are_same.false, c.value_at.ensures)
