use Rattle.std.proofs.Common.{arith}
use Rattle.case_search.proofs.search.shorter.Goals as goal

pub returns-in-Closed-clause-refutes : goal.returns-in-Closed-clause-refutes
returns-in-Closed-clause-refutes c = ((c.check.ensures.closed c.in-Closed.leaves).0 c.in-Closed.is).0

pub returns-in-Closed-clause-within : goal.returns-in-Closed-clause-within
returns-in-Closed-clause-within c =
    let told = (c.check.ensures.closed c.in-Closed.leaves).0 c.in-Closed.is in
    omega (arith, told.1, c.if-leaves-budget.true)
