use Rattle.std.proofs.Common.{arith, sym}
use Rattle.dep_search.proofs.Told.{are_one, are_two}
use Rattle.dep_search.proofs.classes.is_alike.Goals as goal

pub returns-then-ids-r : goal.returns-then-ids-r
returns-then-ids-r c =
    sym (are_two c.args.classes.now.leaders c.args.ids.now c.args.first c.loop-r.r (omega (arith, c.loop-r-test.true, c.requires.long))
    (c.loop-r.invariant.here c.loop-r-test.true) c.if-ids-r.true)

pub returns : goal.returns
returns c =
    sym (are_one c.args.classes.now.leaders c.args.ids.now c.args.first (λ s sl e.
    c.loop-r.invariant.before s (omega (arith, sl, c.loop-r-test.false, c.requires.long)) (omega (arith, sl, c.requires.long)) e))
