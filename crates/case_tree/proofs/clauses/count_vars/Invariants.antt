use Rattle.std.proofs.Common.{◌≡◌, ◌+◌, ◌↔◌, drop}
use Rattle.case_tree.specs.CaseTree.{FollowFrom, var_count}
use Rattle.case_tree.proofs.clauses.count_vars.Given as goal

abbrev pub invariant-loop-cell : goal.invariant-loop-cell
invariant-loop-cell l = record {
  follow : FollowFrom 0 l.cells ↔ FollowFrom l.vars (drop l.cell-index l.cells);
  count : var_count l.cells ≡ l.vars + var_count (drop l.cell-index l.cells);
}
