use Rattle.std.proofs.Common.{sym}
use Rattle.group_index.proofs.CountFacts.{none_mixed, alike_unmixed, both_mixed, several_mixed}
use Rattle.group_index.proofs.spread.Spread.is_mixed.Goals as goal

pub returns-in-Nothing : goal.returns-in-Nothing
returns-in-Nothing c pairs told = sym (none_mixed c.args.self c.in-Nothing.is pairs told)

pub returns-in-Alike : goal.returns-in-Alike
returns-in-Alike c pairs told = sym (alike_unmixed c.args.self _ c.in-Alike.is pairs told)

pub returns-in-Both : goal.returns-in-Both
returns-in-Both c pairs told = sym (both_mixed c.args.self c.in-Both.is pairs told)

pub returns-in-Mixed : goal.returns-in-Mixed
returns-in-Mixed c pairs told = sym (several_mixed c.args.self c.in-Mixed.is pairs told)
