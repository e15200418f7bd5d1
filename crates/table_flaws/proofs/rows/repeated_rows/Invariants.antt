use Rattle.std.proofs.Common.{◌≡◌, ◌++◌, List, ℕ, Bor, take, drop}
use Rattle.std.specs.HashSet.{contains}
use Rattle.text_lists.specs.Repeats.{is_among}
use Rattle.table_flaws.specs.Flaws.{repeated_behind, repeated_rows, same_row}
use Rattle.table_flaws.proofs.rows.repeated_rows.Given as goal

abbrev pub invariant-loop-place : goal.invariant-loop-place
invariant-loop-place l = record {
  left : l.found ++ repeated_behind (take l.place l.rows) (drop l.place l.rows) ≡ repeated_rows l.rows;
  seen : (q : Bor (List (List ℕ))) → contains (λ x y. same_row x.now y.now) l.seen q ≡ is_among same_row (take l.place l.rows) q.now;
}
