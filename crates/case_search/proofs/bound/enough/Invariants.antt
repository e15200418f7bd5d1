use Rattle.std.proofs.Common.{◌≡◌, ◌+◌, ◌*◌, min, take}
use Rattle.case_tree.specs.CaseTree.{var_count}
use Rattle.case_search.specs.Enough.{choices}
use Rattle.case_search.proofs.bound.enough.Given as goal

abbrev pub invariant-loop-cell : goal.invariant-loop-cell
invariant-loop-cell l = record {
  cells : l.cell-items ≡ l.clauses.cells;
  product : l.product ≡ min (choices (take l.cell-index l.cell-items) * (var_count l.clauses.cells + 1)) 1000001;
}
