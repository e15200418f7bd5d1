use Rattle.std.proofs.Common.{◌≡◌, ℕ, ◌+◌, ◌*◌, ◌≤◌, nat_eq, List, length, take}
use Rattle.cfd_semantics.specs.Numbered.{numbered}
use Rattle.cfd_semantics.specs.EntrySets.{IsSideList}
use Rattle.cfd_semantics.specs.Orphan.{SideEntry, orphaned}
use Rattle.cind_index.specs.KeysHeld.{lefts, rights}
use Rattle.bench_index.proofs.listing.count_orphans.Given as goal

-- as many as the tableau rows so far give
abbrev pub invariant-loop-k : goal.invariant-loop-k
invariant-loop-k g l = record {
  count : (left_list right_list : List (SideEntry ℕ)) → IsSideList (lefts l.index.keys) left_list → IsSideList (rights l.index.keys) right_list
      → l.count ≡ length (numbered (λ t. orphaned nat_eq t left_list right_list) (take l.k l.index.rule.rows));
  probes : l.steps ≤ l.initial.steps + l.k * l.index.keys.marked;
}
