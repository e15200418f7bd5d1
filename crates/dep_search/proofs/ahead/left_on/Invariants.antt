use Rattle.std.proofs.Common.{ℕ, ◌+◌, ◌≤◌, length}
use Rattle.dep_search.specs.Counting.{gathered}
use Rattle.dep_search.specs.Found.{found_at}
use Rattle.dep_search.proofs.ahead.left_on.Given as goal

abbrev pub invariant-loop-a : goal.invariant-loop-a
invariant-loop-a l = (number : ℕ) → l.room ≤ l.left + length (gathered (found_at l.table.rows.now l.table.support number l.x) l.a)
