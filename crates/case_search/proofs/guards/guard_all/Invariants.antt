use Rattle.std.proofs.Common.{◌≡◌, ℕ, ◌<◌, List, Some, length}
use Rattle.std.specs.Prelude.{slice_get}
use Rattle.std.specs.List.{Contains}
use Rattle.case_tree.specs.declared.clauses.Literal.{Literal}
use Rattle.case_tree.specs.CaseTree.{var_count}
use Rattle.case_search.specs.Places.{list_of, vars_of}
use Rattle.case_search.proofs.guards.guard_all.Given as goal

abbrev pub invariant-loop-at : goal.invariant-loop-at
invariant-loop-at l = record {
  vars : vars_of l.guards ≡ var_count l.clauses.cells;
  guarded : (k : ℕ) (clause : List Literal) → k < l.at → slice_get l.clauses.clauses k ≡ Some clause → 0 < length clause → (literal : Literal) × Contains clause literal × Contains (list_of l.guards literal) k;
}
