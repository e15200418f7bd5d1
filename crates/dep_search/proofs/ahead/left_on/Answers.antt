use Rattle.std.proofs.Common.{length}
use Rattle.dep_search.specs.Found.{found_at, found_on}
use Rattle.dep_search.proofs.Agreed.{none_left}
use Rattle.dep_search.proofs.ahead.left_on.Goals as goal

pub returns-in-None-clause-none : goal.returns-in-None-clause-none
unfolding found_on
returns-in-None-clause-none c = λ number.
    let table = c.args.table.now in
    none_left (found_at table.rows.now table.support number c.args.x.now) c.args.room c.loop-a.left c.loop-a.a (length table.columns.now)
    c.loop-a-test.true (c.loop-a.invariant number) (c.in-None.ensures.none number)
