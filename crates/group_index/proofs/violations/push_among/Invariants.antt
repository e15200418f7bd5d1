use Rattle.std.proofs.Common.{◌≡◌, ◌++◌, take}
use Rattle.std.specs.Prelude.{filter_map}
use Rattle.group_index.specs.Leads.{listed_by}
use Rattle.group_index.proofs.violations.push_among.Given as goal

-- what the pairs so far added
abbrev pub invariant-loop-pair : goal.invariant-loop-pair
invariant-loop-pair l =
    l.found.items ≡ l.initial.found.items ++ filter_map (listed_by l.cell l.leads.first l.leads.second) (take l.pair-index l.pairs)
