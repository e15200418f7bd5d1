use Rattle.std.proofs.Common.{◌≡◌, ℕ, ◌<◌, ◌≤◌, None}
use Rattle.case_tree.specs.CaseTree.{value_on}
use Rattle.case_search.proofs.step.first_open.Given as goal

abbrev pub invariant-loop-var : goal.invariant-loop-var
invariant-loop-var l = (v : ℕ) → l.cell.first ≤ v → v < l.var → value_on l.trail.path v ≡ None → ⊥
