use Rattle.std.proofs.Common.{sym, ◌∙◌, arith}
use Rattle.std.proofs.lemmas.List.{take_all}
use Rattle.fix_engine.proofs.rivals.difference.Goals as goal

pub returns-clause-none : goal.returns-clause-none
returns-clause-none c =
    sym (take_all c.loop-place.place c.args.one.now c.loop-place-test.false)
    ∙ c.loop-place.invariant
    ∙ take_all c.loop-place.place c.args.other.now (omega (arith, c.loop-place-test.false, c.requires))
