use Rattle.std.proofs.Common.{◌≡◌, ℕ, ◌<◌, List, Some, length}
use Rattle.std.specs.Prelude.{slice_get}
use Rattle.case_tree.specs.declared.clauses.Literal.{Literal}
use Rattle.case_search.proofs.step.empty_clause.Given as goal

abbrev pub invariant-loop-at : goal.invariant-loop-at
invariant-loop-at l = (k : ℕ) (clause : List Literal) → k < l.at → slice_get l.clauses.clauses k ≡ Some clause → 0 < length clause
