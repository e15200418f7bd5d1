use Rattle.std.proofs.Common.{◌+◌, ◌≤◌}
use Rattle.group_index.proofs.CollectFacts.{ListedSoFar}
use Rattle.group_index.proofs.violations.collect.Given as goal

-- what the groups before this place list
abbrev pub invariant-loop-place : goal.invariant-loop-place
invariant-loop-place g l = record {
  listed : ListedSoFar l.groups l.row l.place l.found.items;
  probes : l.steps ≤ l.initial.steps + l.place;
}
