use Rattle.rule_model.proofs.Repeats.{found_there, not_there}
use Rattle.rule_model.proofs.names.find_repeated.Goals as goal

pub returns-then-either_contains : goal.returns-then-either_contains
returns-then-either_contains c =
    found_there c.args.before.now c.args.texts.now c.loop-i.i c.index-texts-i.result c.either_contains.result _ c.loop-i-test.true c.index-texts-i.is c.if-either_contains.true c.either_contains.ensures c.loop-i.invariant

pub loop-i-preserved : goal.loop-i-preserved
loop-i-preserved c =
    not_there c.args.before.now c.args.texts.now c.loop-i.i c.index-texts-i.result c.either_contains.result _ c.loop-i-test.true c.index-texts-i.is c.if-either_contains.false c.either_contains.ensures c.loop-i.invariant
