use Rattle.std.proofs.Common.{◌≡◌, take}
use Rattle.std.specs.List.{flat_map}
use Rattle.project_flaws.specs.Cited.{asking_rows}
use Rattle.project_flaws.proofs.cited.clause_rows.Given as goal

abbrev pub invariant-loop-dep : goal.invariant-loop-dep
invariant-loop-dep l = l.rows ≡ flat_map (asking_rows l.table) (take l.dep-index l.deps)
