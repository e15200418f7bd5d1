use Rattle.std.specs.Prelude.{◌≡◌, ℕ, ◌<◌, ◌≤◌, Some, IsSomeAnd, slice_get}
use Rattle.cfd_semantics.specs.declared.dependency.TableauRow.{TableauRow}
use Rattle.group_index.specs.Totals.{Follows}
use Rattle.group_index.proofs.totals.changed.Given as goal

-- the numbers of the rows so far are changed, and the others are as they were
abbrev pub invariant-loop-k : goal.invariant-loop-k
invariant-loop-k l = record {
  changed : (at : ℕ) (t : TableauRow ℕ) (count : ℕ) → at < l.k → slice_get l.rows at ≡ Some t → slice_get l.initial.counts.items at ≡ Some count → IsSomeAnd (slice_get l.counts.items at) (Follows t l.x l.change count);
  others : (at : ℕ) → l.k ≤ at → slice_get l.counts.items at ≡ slice_get l.initial.counts.items at;
}
