use Rattle.std.proofs.Common.{◌≡◌, ℕ, ◌+◌, ◌≤◌, nat_eq, List, take, Some}
use Rattle.std.specs.Option.{option_to_list}
use Rattle.cfd_semantics.specs.Numbered.{numbered}
use Rattle.cfd_semantics.specs.EntrySets.{IsEntryList}
use Rattle.cfd_semantics.specs.Violation.{Entry, entry_of, violation_of}
use Rattle.row_store.specs.Tuple.{ids_of}
use Rattle.group_index.specs.GroupSet.{holds_entry}
use Rattle.bench_index.proofs.row_lines.violation_lines.Given as goal

-- what the tableau rows so far list of the row
abbrev pub invariant-loop-k : goal.invariant-loop-k
invariant-loop-k g l = record {
  lines : (e : Entry ℕ) (all : List (Entry ℕ)) → entry_of l.group.made.dependency (l.row, ids_of l.tuple) ≡ Some e → IsEntryList (holds_entry l.group) all
      → l.lines ≡ numbered (λ t. option_to_list (violation_of nat_eq t all e)) (take l.k l.group.made.dependency.rows);
  probes : l.steps ≤ l.initial.steps + l.k;
}
