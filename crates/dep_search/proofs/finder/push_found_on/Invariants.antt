use Rattle.std.proofs.Common.{◌≡◌, ◌≤◌, ◌++◌, length}
use Rattle.dep_search.specs.Counting.{gathered}
use Rattle.dep_search.specs.Found.{found_at}
use Rattle.dep_search.proofs.finder.push_found_on.Given as goal

abbrev pub invariant-loop-a : goal.invariant-loop-a
invariant-loop-a l = record {
  found : l.found ≡ l.initial.found ++ gathered (found_at l.table.rows.now l.table.support l.side.number l.side.grouped.now.x) l.a;
  few : length l.found ≤ l.most;
}
