use Rattle.std.proofs.Common.{◌≡◌, ℕ, ◌<◌, List, Some, false, get_or}
use Rattle.std.specs.Prelude.{slice_get}
use Rattle.std.specs.List.{Any}
use Rattle.case_tree.specs.declared.clauses.Literal.{Literal}
use Rattle.case_tree.specs.CaseTree.{IsTrueUnder}
use Rattle.case_search.proofs.assignments.are_clauses_true.Given as goal

abbrev pub invariant-loop-at : goal.invariant-loop-at
invariant-loop-at l = (k : ℕ) (clause : List Literal) → k < l.at → slice_get l.clauses.clauses k ≡ Some clause → Any (IsTrueUnder (λ v. get_or l.values v false)) clause
