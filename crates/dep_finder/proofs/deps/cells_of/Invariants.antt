use Rattle.std.proofs.Common.{◌≡◌, All, take, map}
use Rattle.dep_finder.specs.Deps.{cell_of}
use Rattle.dep_finder.specs.Valid.{IsTextCell}
use Rattle.dep_finder.proofs.deps.cells_of.Given as goal

abbrev pub invariant-loop-attr : goal.invariant-loop-attr
invariant-loop-attr l = record {
  cells : l.cells ≡ map (cell_of l.rows l.row) (take l.attr-index l.attrs);
  texts : All IsTextCell l.cells;
}
