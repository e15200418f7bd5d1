use Rattle.std.proofs.Common.{inl, inr}
use Rattle.rule_model.specs.Faults.{repeated_in_cell}
use Rattle.rule_model.proofs.Firsts.{ended_left, ended_right}
use Rattle.rule_model.proofs.cells.cells_are_distinct.Goals as goal

pub returns : goal.returns
returns c =
    elim c.in-None.ensures.steps [
      | inl p ↦ ended_left repeated_in_cell c.loop-name.name-iterator.a.rest.now c.loop-name.name-iterator.b.rest.now _ p.1.0 c.loop-name.invariant
      | inr p ↦ ended_right repeated_in_cell c.loop-name.name-iterator.a.rest.now c.loop-name.name-iterator.b.rest.now _ p.1.0 c.loop-name.invariant
    ]
