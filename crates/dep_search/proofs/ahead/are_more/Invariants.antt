use Rattle.std.proofs.Common.{◌+◌, ◌≤◌, length}
use Rattle.dep_search.specs.Counting.{gathered}
use Rattle.dep_search.specs.Found.{found_on, side_at}
use Rattle.dep_search.proofs.ahead.are_more.Given as goal

abbrev pub invariant-loop-number : goal.invariant-loop-number
invariant-loop-number l =
    l.most ≤ l.room + length (gathered (λ side. found_on l.table.rows.now l.table.support (length l.table.columns.now) side (side_at l.sides side)) l.number)
