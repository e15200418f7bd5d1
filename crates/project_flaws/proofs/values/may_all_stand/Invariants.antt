use Rattle.std.proofs.Common.{◌≡◌, take, true}
use Rattle.std.specs.List.{list_all}
use Rattle.project_flaws.specs.Told.{may_stand}
use Rattle.project_flaws.proofs.values.may_all_stand.Given as goal

abbrev pub invariant-loop-verdict : goal.invariant-loop-verdict
invariant-loop-verdict l = list_all may_stand (take l.verdict-index l.verdicts) ≡ true
