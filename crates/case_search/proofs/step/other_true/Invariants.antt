use Rattle.std.proofs.Common.{◌≡◌, ◌≢◌, ℕ, ◌<◌, ◌≤◌, Some, true}
use Rattle.case_tree.specs.CaseTree.{value_on}
use Rattle.case_search.proofs.step.other_true.Given as goal

abbrev pub invariant-loop-other : goal.invariant-loop-other
invariant-loop-other l = (v : ℕ) → v ≢ l.var → l.cell.first ≤ v → v < l.other → value_on l.trail.path v ≡ Some true → ⊥
