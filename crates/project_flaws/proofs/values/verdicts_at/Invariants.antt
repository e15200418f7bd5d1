use Rattle.std.proofs.Common.{◌≡◌, ◌++◌, drop, map}
use Rattle.std.specs.Prelude.{All}
use Rattle.std.specs.List.{enumerate_from, flat_map}
use Rattle.project_flaws.specs.ValueVerdicts.{IsValueVerdict, attr_values, domain_values, value_of}
use Rattle.project_flaws.proofs.values.verdicts_at.Given as goal

abbrev pub invariant-loop-place : goal.invariant-loop-place
invariant-loop-place l = record {
  values : map value_of l.verdicts ++ flat_map attr_values (enumerate_from l.place (drop l.place l.attrs)) ≡ domain_values l.attrs;
  each : All (IsValueVerdict l.rules l.table) l.verdicts;
}
