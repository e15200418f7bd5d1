use Rattle.std.proofs.Common.{◌≡◌, Some, length, take, map}
use Rattle.rule_runs.specs.Moves.{values_in}
use Rattle.rule_runs.proofs.lookup.gather.Given as goal

abbrev pub invariant-loop-place : goal.invariant-loop-place
invariant-loop-place l =
    (length l.room ≡ length l.initial.room) × (map Some (take l.place l.room) ≡ values_in l.tuple (take l.place l.columns))
