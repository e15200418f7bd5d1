use Rattle.std.proofs.Common.{◌+◌, ◌≤◌}
use Rattle.group_index.proofs.CountFacts.{CountedSoFar}
use Rattle.group_index.proofs.counting.count.Given as goal

-- what the groups before this place count
abbrev pub invariant-loop-place : goal.invariant-loop-place
invariant-loop-place g l = record {
  counted : CountedSoFar l.groups l.row l.place l.count;
  probes : l.steps ≤ l.initial.steps + l.place;
}
