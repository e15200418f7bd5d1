use Rattle.std.proofs.Common.{◌≡◌, take, false}
use Rattle.std.specs.Prelude.{slice_get}
use Rattle.std.specs.List.{list_any}
use Rattle.project_flaws.specs.Told.{is_out_in}
use Rattle.project_flaws.proofs.edits.asks_outside.Given as goal

abbrev pub invariant-loop-asked : goal.invariant-loop-asked
invariant-loop-asked l = list_any (is_out_in (slice_get l.schema.tables l.rule.table)) (take l.asked-index l.rule.when) ≡ false
