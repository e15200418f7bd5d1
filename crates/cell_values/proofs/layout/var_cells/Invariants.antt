use Rattle.std.proofs.Common.{◌≡◌, ◌+◌, ◌*◌, ◌≤◌, ◌++◌, length, drop}
use Rattle.std.specs.Prelude.{sum_by}
use Rattle.cell_values.specs.declared.values.CellValues.{CellValues}
use Rattle.cell_values.specs.Layout.{var_cells}
use Rattle.cell_values.proofs.layout.var_cells.Given as goal

-- with the cells of the attributes that are left it comes to the whole
abbrev pub invariant-loop-cell : goal.invariant-loop-cell
invariant-loop-cell l = record {
  whole : l.out.items ++ var_cells l.tuples l.first (drop l.cell-index l.cells) ≡ var_cells l.tuples 0 l.cells;
  room : l.first + 2 * sum_by (λ (cell : CellValues). length cell.values + 1) (drop l.cell-index l.cells) ≤ 2 * sum_by (λ (cell : CellValues). length cell.values + 1) l.cells;
}
