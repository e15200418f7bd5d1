use Rattle.std.proofs.Common.{inl, inr}
use Rattle.rule_model.specs.Faults.{unknown_in_pair}
use Rattle.rule_model.proofs.Firsts.{ended_left, ended_right}
use Rattle.rule_model.proofs.names.pairs_are_known.Goals as goal

pub returns : goal.returns
returns c =
    elim c.in-None.ensures.steps [
      | inl p ↦ ended_left (unknown_in_pair c.args.attrs.now c.args.masters.now) c.loop-name.name-iterator.a.rest.now c.loop-name.name-iterator.b.rest.now _ p.1.0 c.loop-name.invariant
      | inr p ↦ ended_right (unknown_in_pair c.args.attrs.now c.args.masters.now) c.loop-name.name-iterator.a.rest.now c.loop-name.name-iterator.b.rest.now _ p.1.0 c.loop-name.invariant
    ]
