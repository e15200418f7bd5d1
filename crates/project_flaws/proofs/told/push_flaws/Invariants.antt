use Rattle.std.proofs.Common.{◌≡◌, ◌++◌, take}
use Rattle.std.specs.List.{flat_map}
use Rattle.project_flaws.specs.Told.{flaw_line}
use Rattle.project_flaws.proofs.told.push_flaws.Given as goal

abbrev pub invariant-loop-flaw : goal.invariant-loop-flaw
invariant-loop-flaw l = l.out.items ≡ l.fn.out.items ++ flat_map (flaw_line l.table l.ids) (take l.flaw-index l.flaws)
