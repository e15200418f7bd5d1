use Rattle.std.proofs.Common.{◌≡◌, take, true}
use Rattle.std.specs.Prelude.{not}
use Rattle.std.specs.List.{list_all}
use Rattle.project_flaws.specs.Told.{is_met}
use Rattle.project_flaws.proofs.edits.none_meets.Given as goal

abbrev pub invariant-loop-value : goal.invariant-loop-value
invariant-loop-value l = list_all (λ value. not (is_met l.cell value)) (take l.value-index l.values) ≡ true
