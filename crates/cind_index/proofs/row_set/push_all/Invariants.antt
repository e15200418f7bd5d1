use Rattle.std.proofs.Common.{◌≡◌, ◌++◌, map, Bor, ℕ}
use Rattle.cind_index.proofs.row_set.push_all.Given as goal

abbrev pub invariant-loop-row : goal.invariant-loop-row
invariant-loop-row l = l.found.items ≡ l.initial.found.items ++ map (λ (row : Bor ℕ). row.now) l.yielded
