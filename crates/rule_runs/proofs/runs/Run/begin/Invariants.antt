use Rattle.std.proofs.Common.{◌≡◌, take}
use Rattle.row_store.specs.Tuple.{ids_of}
use Rattle.rule_runs.proofs.runs.Run.begin.Given as goal

abbrev pub invariant-loop-id : goal.invariant-loop-id
invariant-loop-id l = l.tuple ≡ take l.id-index (ids_of l.start.tuple.now)
