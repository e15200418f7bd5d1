use Rattle.std.proofs.Common.{◌≡◌, ◌++◌, map, take}
use Rattle.std.specs.Prelude.{All}
use Rattle.project_flaws.specs.ValueVerdicts.{IsValueVerdict, at_attr, value_of}
use Rattle.project_flaws.proofs.values.push_values.Given as goal

abbrev pub invariant-loop-value : goal.invariant-loop-value
invariant-loop-value l = record {
  values : map value_of l.verdicts ≡ map value_of l.initial.verdicts ++ map (at_attr l.attr) (take l.value-index l.values);
  each : All (IsValueVerdict l.rules l.table) l.initial.verdicts → All (IsValueVerdict l.rules l.table) l.verdicts;
}
