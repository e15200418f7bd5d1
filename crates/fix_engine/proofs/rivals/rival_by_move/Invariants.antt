use Rattle.std.proofs.Common.{ℕ, ◌<◌}
use Rattle.fix_engine.specs.Rivals.{AgreesBy}
use Rattle.fix_engine.proofs.rivals.rival_by_move.Given as goal

abbrev pub invariant-loop-rule : goal.invariant-loop-rule
invariant-loop-rule l = (number row : ℕ) → number < l.rule → AgreesBy l.start l.closure l.first.tuple (record { rule = number; master = row })
