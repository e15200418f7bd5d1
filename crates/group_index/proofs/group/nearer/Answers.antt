use Rattle.std.proofs.Common.{subst, rules, arith}
use Rattle.std.proofs.lemmas.Bool.Decides.{nat_tests}
use Rattle.group_index.specs.Pairs.{IsNextHead}
use Rattle.group_index.proofs.FewFacts.{comes_next}
use Rattle.group_index.proofs.group.nearer.Goals as goal

pub returns-in_default : goal.returns-in_default
returns-in_default c pairs next =
    comes_next pairs c.args.after c.in-Some.least c.args.pair (subst (IsNextHead pairs c.args.after) c.in-Some.is next)
    (search rules)
    (grind (arith, nat_tests, c.lt.ensures, c.if-lt.false))
