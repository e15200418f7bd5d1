use Rattle.std.proofs.Common.{take}
use Rattle.std.specs.List.{AllZip}
use Rattle.project_flaws.specs.Verdicts.{IsVerdictFor}
use Rattle.project_flaws.proofs.verdicts.verdicts_on.Given as goal

abbrev pub invariant-loop-table : goal.invariant-loop-table
invariant-loop-table l = AllZip (IsVerdictFor l.rules) (take l.table-index l.tables) l.all
