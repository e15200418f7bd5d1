use Rattle.std.proofs.Common.{◌≡◌, ℕ, ◌<◌, ◌≤◌, true, false, get_or}
use Rattle.case_search.proofs.assignments.first_true.Given as goal

abbrev pub invariant-loop-var : goal.invariant-loop-var
invariant-loop-var l = (w : ℕ) → l.from ≤ w → w < l.var → get_or l.values w false ≡ true → ⊥
