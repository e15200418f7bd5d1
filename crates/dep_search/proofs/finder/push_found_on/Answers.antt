use Rattle.std.proofs.Common.{length, arith, ap}
use Rattle.dep_search.specs.Found.{found_at, found_on}
use Rattle.dep_search.proofs.Counted.{too_many}
use Rattle.dep_search.proofs.finder.push_found_on.Goals as goal

pub returns-then-as_slice-most-clause-many : goal.returns-then-as_slice-most-clause-many
unfolding found_on
returns-then-as_slice-most-clause-many c = λ _.
    let table = c.args.table.now in
    let side = c.args.side.now in
    too_many (found_at table.rows.now table.support side.number side.grouped.now.x) c.args.found.now c.loop-a.found c.args.most c.loop-a.a (length table.columns.now)
    c.loop-a-test.true c.loop-a.invariant.found (omega (arith, c.if-as_slice-most.true, ap length c.as_slice.ensures, ap length c.in_ok-push_found_at.ensures))
