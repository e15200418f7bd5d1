use Rattle.std.proofs.Common.{◌≡◌, ◌≤◌, length}
use Rattle.dep_search.specs.Counting.{gathered}
use Rattle.dep_search.specs.Found.{found_on, side_at}
use Rattle.dep_search.specs.Sides.{IsPast}
use Rattle.dep_search.proofs.finder.found_by_sides.Given as goal

abbrev pub invariant-loop-number : goal.invariant-loop-number
invariant-loop-number l = record {
  past : IsPast l.table l.past;
  found : l.found ≡ gathered (λ side. found_on l.table.rows.now l.table.support (length l.table.columns.now) side (side_at l.sides side)) l.number;
  few : length l.found ≤ l.most;
}
