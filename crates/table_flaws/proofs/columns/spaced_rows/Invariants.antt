use Rattle.std.proofs.Common.{◌≡◌, ◌+◌, ◌++◌, drop}
use Rattle.table_flaws.specs.Flaws.{is_spaced, passing}
use Rattle.table_flaws.proofs.columns.spaced_rows.Given as goal

abbrev pub invariant-loop-place : goal.invariant-loop-place
invariant-loop-place l = l.rows ++ passing (is_spaced l.values) (l.place + 1) (drop l.place l.values) ≡ passing (is_spaced l.values) 1 l.values
