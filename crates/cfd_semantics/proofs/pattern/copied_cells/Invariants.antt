use Rattle.std.proofs.Common.{◌≡◌, take}
use Rattle.cfd_semantics.proofs.pattern.copied_cells.Given as goal

-- the cells so far
abbrev pub invariant-loop-cell : goal.invariant-loop-cell
invariant-loop-cell l = l.copies ≡ take l.cell-index l.cells
