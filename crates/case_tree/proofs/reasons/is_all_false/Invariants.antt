use Rattle.std.proofs.Common.{◌≡◌, ℕ, ◌<◌, ◌≤◌, Some, false}
use Rattle.case_tree.specs.CaseTree.{value_on}
use Rattle.case_tree.proofs.reasons.is_all_false.Given as goal

abbrev pub invariant-loop-var : goal.invariant-loop-var
invariant-loop-var l = (v : ℕ) → l.cell.first ≤ v → v < l.var → value_on l.trail.path v ≡ Some false
