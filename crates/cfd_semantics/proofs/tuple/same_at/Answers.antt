use Rattle.std.proofs.Common.{get_or, refl, sym, arith}
use Rattle.cfd_semantics.proofs.Values.{agree-more, agree-long}
use Rattle.cfd_semantics.proofs.tuple.same_at.Goals as goal

pub returns-then-x-y : goal.returns-then-x-y
returns-then-x-y g c = sym (agree-long g.V.PartialEq.eq c.args.tuple.now c.args.x.now c.args.other.now c.args.y.now c.if-x-y.true)

pub returns-then-not-are_same : goal.returns-then-not-are_same
returns-then-not-are_same g c =
    let step = agree-more g.V.PartialEq.eq c.args.tuple.now c.args.x.now c.args.other.now c.args.y.now c.loop-place.place (get_or c.args.x.now c.loop-place.place 0) (get_or c.args.y.now c.loop-place.place 0) c.loop-place-test.true (omega arith) refl refl in
    let kept = c.loop-place.invariant in
    grind (arith, step, kept, c.are_same.ensures, c.if-not-are_same.true, c.value_at.ensures, c.value_at-in-loop-place.ensures)

pub loop-place-preserved : goal.loop-place-preserved
loop-place-preserved g c =
    let step = agree-more g.V.PartialEq.eq c.args.tuple.now c.args.x.now c.args.other.now c.args.y.now c.loop-place.place (get_or c.args.x.now c.loop-place.place 0) (get_or c.args.y.now c.loop-place.place 0) c.loop-place-test.true (omega arith) refl refl in
    let kept = c.loop-place.invariant in
    grind (arith, step, kept, c.are_same.ensures, c.if-not-are_same.false, c.value_at.ensures, c.value_at-in-loop-place.ensures)
