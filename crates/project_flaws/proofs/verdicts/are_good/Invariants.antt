use Rattle.std.proofs.Common.{◌≡◌, take, true}
use Rattle.std.specs.List.{list_all}
use Rattle.project_flaws.specs.Told.{is_good}
use Rattle.project_flaws.proofs.verdicts.are_good.Given as goal

abbrev pub invariant-loop-verdict : goal.invariant-loop-verdict
invariant-loop-verdict l = list_all is_good (take l.verdict-index l.verdicts) ≡ true
