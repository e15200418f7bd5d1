use Rattle.std.proofs.Common.{◌+◌, ◌≤◌}
use Rattle.cind_index.proofs.CountFacts.{CountsBelow}
use Rattle.cind_index.proofs.index.CindIndex.walk_count.Given as goal

-- how many stand under the keys that were passed
abbrev pub invariant-loop-place : goal.invariant-loop-place
invariant-loop-place g l = record {
  counted : CountsBelow l.self.keys l.tableau_row l.place l.count;
  probes : l.steps ≤ l.initial.steps + l.place;
}
