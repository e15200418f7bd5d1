use Rattle.std.proofs.Common.{arith}
use Rattle.dep_search.proofs.Agreed.{plain_found}
use Rattle.dep_search.proofs.ahead.left_at.Goals as goal

pub returns-then-room-eq0-clause-none : goal.returns-then-room-eq0-clause-none
returns-then-room-eq0-clause-none c = λ number.
    let table = c.args.table.now in
    let plain = c.if-not-is_surely_plain.false in
    let found = plain_found table.rows.now table.support number c.args.x.now c.args.a (c.is_surely_plain.ensures.outside plain) (c.is_surely_plain.ensures.plain plain) in
    omega (arith, c.if-room-eq0.true, found)

pub returns-clause-some : goal.returns-clause-some
returns-clause-some c = λ number.
    let table = c.args.table.now in
    let plain = c.if-not-is_surely_plain.false in
    let found = plain_found table.rows.now table.support number c.args.x.now c.args.a (c.is_surely_plain.ensures.outside plain) (c.is_surely_plain.ensures.plain plain) in
    omega (arith, found)
