use Rattle.std.proofs.Common.{◌≡◌}
use Rattle.std.specs.Prelude.{zip}
use Rattle.cell_values.specs.TableRules.{cells_for}
use Rattle.cell_values.specs.Values.{gather}
use Rattle.cell_values.proofs.values.Gathered.add_row.Given as goal

-- what is left leads to the same
abbrev pub invariant-loop-at : goal.invariant-loop-at
invariant-loop-at l = gather l.self (cells_for l.attr (zip l.at-iterator.a.rest.now l.at-iterator.b.rest.now)) ≡ gather l.initial.self (cells_for l.attr (zip l.rule.x l.row.x))
