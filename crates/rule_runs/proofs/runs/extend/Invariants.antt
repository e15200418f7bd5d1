use Rattle.std.proofs.Common.{◌≡◌, ◌-◌, ◌^◌}
use Rattle.std.specs.Prelude.{IfSome}
use Rattle.rule_runs.specs.Marks.{marked}
use Rattle.rule_runs.specs.Starts.{GoesOn, IsRunFrom, IsTupleOf}
use Rattle.rule_runs.proofs.runs.extend.Given as goal

abbrev pub invariant-loop-next : goal.invariant-loop-next
invariant-loop-next l = record {
  run : IsRunFrom l.start l.longer;
  tuple : IsTupleOf l.start l.start.table l.longer.tuple;
  goes_on : GoesOn l.initial.longer l.longer;
  left : IfSome l.left_out (λ attr. marked l.longer.covered attr ≡ marked l.initial.longer.covered attr);
}

abbrev pub decreases-loop-next : goal.decreases-loop-next
decreases-loop-next l = 2 ^ 64 - l.longer.covered.0
