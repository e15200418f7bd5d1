use Rattle.std.proofs.Common.{◌≡◌, ◌++◌}
use Rattle.std.specs.Prelude.{filter_map}
use Rattle.group_index.specs.Leads.{listed_by}
use Rattle.group_index.proofs.violations.push_all_listed.Given as goal

-- what was added, and what the pairs that are left will add
abbrev pub invariant-loop-pair : goal.invariant-loop-pair
invariant-loop-pair l =
    l.found.items ++ filter_map (listed_by l.cell l.leads.first l.leads.second) l.pair-iterator ≡ l.initial.found.items ++ filter_map (listed_by l.cell l.leads.first l.leads.second) l.pairs.keys
