use Rattle.std.proofs.Common.{◌+◌, ap}
use Rattle.group_index.proofs.TotalFacts.{others_kept, others_changed}
use Rattle.group_index.proofs.totals.Change.parts.Goals as goal

pub returns-in-Is : goal.returns-in-Is
returns-in-Is c old new is = rw c.in-Is.is (others_changed c.args.self old new is c.in-Is.constant c.if-self-constant.true)

pub returns-in-Is-2 : goal.returns-in-Is-2
returns-in-Is-2 c old new is = rw c.in-Is.is (ap (λ n. n + 0) (others_kept c.args.self old new is c.in-Is.constant c.if-self-constant.false))
