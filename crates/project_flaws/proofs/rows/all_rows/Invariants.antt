use Rattle.std.proofs.Common.{◌≡◌, take}
use Rattle.project_flaws.specs.Rows.{all_rows}
use Rattle.project_flaws.proofs.rows.all_rows.Given as goal

abbrev pub invariant-loop-table : goal.invariant-loop-table
invariant-loop-table l = l.all ≡ all_rows (take l.table l.bench.history.present)
