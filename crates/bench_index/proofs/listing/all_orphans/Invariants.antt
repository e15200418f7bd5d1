use Rattle.std.proofs.Common.{◌≡◌, ℕ, ◌+◌, ◌*◌, ◌≤◌, nat_eq, List, take}
use Rattle.cfd_semantics.specs.Numbered.{numbered}
use Rattle.cfd_semantics.specs.EntrySets.{IsSideList}
use Rattle.cfd_semantics.specs.Orphan.{SideEntry, orphaned}
use Rattle.cind_index.specs.KeysHeld.{lefts, rights}
use Rattle.bench_index.proofs.listing.all_orphans.Given as goal

-- what the tableau rows so far give, at a probe for each dirty key and each of them
abbrev pub invariant-loop-k : goal.invariant-loop-k
invariant-loop-k g l = record {
  list : (left_list right_list : List (SideEntry ℕ)) → IsSideList (lefts l.index.keys) left_list → IsSideList (rights l.index.keys) right_list
      → l.all ≡ numbered (λ t. orphaned nat_eq t left_list right_list) (take l.k l.index.rule.rows);
  probes : l.steps ≤ l.initial.steps + l.k * l.index.keys.marked;
}
