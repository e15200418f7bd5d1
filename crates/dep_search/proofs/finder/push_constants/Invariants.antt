use Rattle.std.proofs.Common.{◌≡◌, ◌++◌, take}
use Rattle.std.specs.List.{flat_map}
use Rattle.dep_search.specs.Found.{constant_at}
use Rattle.dep_search.proofs.finder.push_constants.Given as goal

abbrev pub invariant-loop-r : goal.invariant-loop-r
invariant-loop-r l =
    l.found ≡ l.initial.found ++ flat_map (constant_at l.table.rows.now l.table.support l.side.number l.side.grouped.now.x l.a) (take l.r-index l.side.leads.now)
