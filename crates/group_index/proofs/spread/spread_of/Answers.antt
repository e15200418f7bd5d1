use Rattle.std.proofs.Common.{arith}
use Rattle.std.proofs.lemmas.Bool.Decides.{nat_tests}
use Rattle.group_index.proofs.SpreadFacts.{alike_between, mixed_between}
use Rattle.group_index.proofs.spread.spread_of.Goals as goal

pub returns-then-least-greatest-clause-spread : goal.returns-then-least-greatest-clause-spread
returns-then-least-greatest-clause-spread c =
    alike_between c.args.pairs.now c.in-Some.field-0.now c.in-Some-last.field-0.now c.in-Some.ensures.member c.in-Some-last.ensures.member c.in-Some.ensures.least c.in-Some-last.ensures.greatest
    (grind (arith, nat_tests, c.if-least-greatest.true))

pub returns-else-least-greatest-clause-spread : goal.returns-else-least-greatest-clause-spread
returns-else-least-greatest-clause-spread c =
    mixed_between c.args.pairs.now c.in-Some.field-0.now c.in-Some-last.field-0.now c.in-Some.ensures.member c.in-Some-last.ensures.member (λ same. absurd (grind (arith, nat_tests, c.if-least-greatest.false, same)))
