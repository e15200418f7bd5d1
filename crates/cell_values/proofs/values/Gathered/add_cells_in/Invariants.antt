use Rattle.std.proofs.Common.{◌≡◌, drop}
use Rattle.std.specs.List.{flat_map}
use Rattle.cell_values.specs.TableRules.{cells_in_row, cells_in_rule}
use Rattle.cell_values.specs.Values.{gather}
use Rattle.cell_values.proofs.values.Gathered.add_cells_in.Given as goal

-- what is left leads to the same
abbrev pub invariant-loop-row : goal.invariant-loop-row
invariant-loop-row l = gather l.self (flat_map (cells_in_row l.attr l.rule) (drop l.row-index l.rule.rows)) ≡ gather l.initial.self (cells_in_rule l.attr l.rule)
