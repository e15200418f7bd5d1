use Rattle.std.proofs.Common.{◌≡◌, length, take}
use Rattle.row_store.specs.Tuple.{ids_of}
use Rattle.rule_runs.proofs.runs.Run.reset.Given as goal

abbrev pub invariant-loop-place : goal.invariant-loop-place
invariant-loop-place l =
    (length l.self.tuple ≡ length (ids_of l.start.tuple.now)) × (take l.place l.self.tuple ≡ take l.place (ids_of l.start.tuple.now)) × (l.self.moves ≡ l.initial.self.moves)
