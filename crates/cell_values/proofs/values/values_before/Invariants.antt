use Rattle.std.proofs.Common.{◌≡◌, take}
use Rattle.cell_values.specs.Values.{values_before}
use Rattle.cell_values.proofs.values.values_before.Given as goal

abbrev pub invariant-loop-cell : goal.invariant-loop-cell
invariant-loop-cell l = l.before ≡ values_before (take l.cell-index l.cells) l.attr
