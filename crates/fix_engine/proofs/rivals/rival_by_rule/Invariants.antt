use Rattle.std.proofs.Common.{◌≡◌, ℕ, Some, take}
use Rattle.std.specs.Prelude.{All, IfSome}
use Rattle.rule_runs.specs.Moves.{value_written}
use Rattle.rule_runs.specs.Starts.{basis_of}
use Rattle.fix_engine.specs.Rivals.{AgreesBy}
use Rattle.fix_engine.proofs.rivals.rival_by_rule.Given as goal

abbrev pub invariant-loop-row : goal.invariant-loop-row
invariant-loop-row l = record {
  rows : All (λ row. AgreesBy l.start l.closure l.first.tuple (record { rule = l.rule; master = row })) (take l.row-index l.row-items);
  alike : IfSome l.agreed (λ value. (row : ℕ) → value_written (basis_of l.start) (record { rule = l.rule; master = row }) ≡ Some value → AgreesBy l.start l.closure l.first.tuple (record { rule = l.rule; master = row }));
}
