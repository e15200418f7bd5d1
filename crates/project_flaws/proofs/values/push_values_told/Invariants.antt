use Rattle.std.proofs.Common.{◌≡◌, ◌++◌, take}
use Rattle.std.specs.List.{flat_map}
use Rattle.project_flaws.specs.Told.{value_line}
use Rattle.project_flaws.proofs.values.push_values_told.Given as goal

abbrev pub invariant-loop-verdict : goal.invariant-loop-verdict
invariant-loop-verdict l = l.out.items ≡ l.fn.out.items ++ flat_map (value_line l.table) (take l.verdict-index l.verdicts)
