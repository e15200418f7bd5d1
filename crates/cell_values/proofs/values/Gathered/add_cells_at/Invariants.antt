use Rattle.std.proofs.Common.{◌≡◌, drop}
use Rattle.std.specs.List.{flat_map}
use Rattle.cell_values.specs.TableRules.{cells_at, cells_in_rule}
use Rattle.cell_values.specs.Values.{gather}
use Rattle.cell_values.proofs.values.Gathered.add_cells_at.Given as goal

-- what is left leads to the same
abbrev pub invariant-loop-place : goal.invariant-loop-place
invariant-loop-place l = gather l.self (flat_map (cells_in_rule l.attr) (drop l.place l.rules)) ≡ gather l.initial.self (cells_at l.rules l.attr)
