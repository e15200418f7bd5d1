use Rattle.std.proofs.Common.{◌≡◌, ◌++◌, drop, map}
use Rattle.std.specs.List.{enumerate_from}
use Rattle.project_flaws.specs.Cited.{row_name}
use Rattle.project_flaws.proofs.cited.push_rows.Given as goal

abbrev pub invariant-loop-place : goal.invariant-loop-place
invariant-loop-place l = l.rows ++ map (row_name l.rule) (enumerate_from l.place (drop l.place l.written)) ≡ l.initial.rows ++ map (row_name l.rule) (enumerate_from 0 l.written)
