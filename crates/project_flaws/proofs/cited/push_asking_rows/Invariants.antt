use Rattle.std.proofs.Common.{◌≡◌, ◌++◌, drop}
use Rattle.std.specs.List.{enumerate_from, flat_map}
use Rattle.project_flaws.specs.Cited.{asking_row}
use Rattle.project_flaws.proofs.cited.push_asking_rows.Given as goal

abbrev pub invariant-loop-place : goal.invariant-loop-place
invariant-loop-place l = l.rows ++ flat_map (asking_row l.rule) (enumerate_from l.place (drop l.place l.tableau)) ≡ l.initial.rows ++ flat_map (asking_row l.rule) (enumerate_from 0 l.tableau)
