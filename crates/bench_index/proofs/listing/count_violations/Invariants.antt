use Rattle.std.proofs.Common.{◌≡◌, ℕ, ◌+◌, ◌*◌, ◌≤◌, nat_eq, List, length, take}
use Rattle.cfd_semantics.specs.Numbered.{numbered}
use Rattle.cfd_semantics.specs.EntrySets.{IsEntryList}
use Rattle.cfd_semantics.specs.Violation.{Entry, violating}
use Rattle.group_index.specs.GroupSet.{holds_entry}
use Rattle.bench_index.proofs.listing.count_violations.Given as goal

-- as many as the tableau rows so far give
abbrev pub invariant-loop-k : goal.invariant-loop-k
invariant-loop-k g l = record {
  count : (all : List (Entry ℕ)) → IsEntryList (holds_entry l.group) all → l.count ≡ length (numbered (λ t. violating nat_eq t all) (take l.k l.group.made.dependency.rows));
  probes : l.steps ≤ l.initial.steps + l.k * l.group.dirty;
}
