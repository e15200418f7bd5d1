use Rattle.std.proofs.Common.{get_or, refl, sym, arith}
use Rattle.cfd_semantics.specs.Pattern.{matches}
use Rattle.cfd_semantics.proofs.Values.{agrees-more, agrees-long}
use Rattle.cfd_semantics.proofs.tuple.matches_at.Goals as goal

pub returns-then-cells-x : goal.returns-then-cells-x
returns-then-cells-x g c = sym (agrees-long (matches g.V.PartialEq.eq) c.args.cells.now c.args.tuple.now c.args.x.now c.if-cells-x.true)

pub returns-then-not-matches_cell : goal.returns-then-not-matches_cell
returns-then-not-matches_cell g c =
    let step = agrees-more (matches g.V.PartialEq.eq) c.args.cells.now c.args.tuple.now c.args.x.now c.loop-place.place c.index-cells-place.result (get_or c.args.x.now c.loop-place.place 0) (omega arith) c.loop-place-test.true c.index-cells-place.is refl in
    let kept = c.loop-place.invariant in
    grind (arith, step, kept, c.matches_cell.ensures, c.if-not-matches_cell.true, c.value_at.ensures)

pub loop-place-preserved : goal.loop-place-preserved
loop-place-preserved g c =
    let step = agrees-more (matches g.V.PartialEq.eq) c.args.cells.now c.args.tuple.now c.args.x.now c.loop-place.place c.index-cells-place.result (get_or c.args.x.now c.loop-place.place 0) (omega arith) c.loop-place-test.true c.index-cells-place.is refl in
    let kept = c.loop-place.invariant in
    grind (arith, step, kept, c.matches_cell.ensures, c.if-not-matches_cell.false, c.value_at.ensures)
