use Rattle.std.proofs.Common.{◌≡◌, ℕ, ◌+◌, ◌≤◌, nat_eq, cond, List, [], ◌∷◌, take, Some}
use Rattle.cfd_semantics.specs.Numbered.{numbered}
use Rattle.cfd_semantics.specs.EntrySets.{IsSideList}
use Rattle.cfd_semantics.specs.Orphan.{SideEntry, left_entry_of, is_orphan}
use Rattle.row_store.specs.Tuple.{ids_of}
use Rattle.cind_index.specs.KeysHeld.{rights}
use Rattle.bench_index.proofs.row_lines.orphan_lines.Given as goal

-- what the tableau rows so far list of the row
abbrev pub invariant-loop-k : goal.invariant-loop-k
invariant-loop-k g l = record {
  lines : (left : SideEntry ℕ) (right_list : List (SideEntry ℕ)) → left_entry_of l.index.rule (l.row, ids_of l.tuple) ≡ Some left → IsSideList (rights l.index.keys) right_list
      → l.lines ≡ numbered (λ t. cond (is_orphan nat_eq t right_list left) (l.row ∷ []) []) (take l.k l.index.rule.rows);
  probes : l.steps ≤ l.initial.steps + l.k;
}
