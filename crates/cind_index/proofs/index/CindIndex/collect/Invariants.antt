use Rattle.std.proofs.Common.{ℕ, ◌+◌, ◌≤◌, ◌↔◌}
use Rattle.std.specs.List.{Contains}
use Rattle.cind_index.proofs.OrphanFacts.{FoundBelow}
use Rattle.cind_index.proofs.index.CindIndex.collect.Given as goal

-- the orphans under the keys that were passed
abbrev pub invariant-loop-place : goal.invariant-loop-place
invariant-loop-place g l = record {
  found : (row : ℕ) → Contains l.found.items row ↔ FoundBelow l.self.keys l.tableau_row l.place row;
  probes : l.steps ≤ l.initial.steps + l.place;
}
