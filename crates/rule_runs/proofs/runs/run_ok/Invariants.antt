use Rattle.std.proofs.Common.{◌≡◌, take}
use Rattle.rule_runs.specs.Moves.{IsRunOf, end_after}
use Rattle.rule_runs.specs.Starts.{IsTupleOf, basis_of, first_stage, stage_at}
use Rattle.rule_runs.proofs.runs.run_ok.Given as goal

abbrev pub invariant-loop-at : goal.invariant-loop-at
invariant-loop-at l = record {
  run : IsRunOf (basis_of l.start) (first_stage l.start) (take l.at l.moves);
  end : stage_at l.room ≡ end_after (basis_of l.start) (first_stage l.start) (take l.at l.moves);
  tuple : IsTupleOf l.start l.start.table l.room.tuple;
  moves : l.room.moves ≡ l.fn.room.moves;
}
