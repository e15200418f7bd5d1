use Rattle.std.proofs.Common.{◌≡◌, ℕ, ◌<◌}
use Rattle.rule_runs.specs.Moves.{Applies, target_of}
use Rattle.rule_runs.specs.Starts.{basis_of, stage_of}
use Rattle.rule_runs.proofs.next.first_move.Given as goal

abbrev pub invariant-loop-number : goal.invariant-loop-number
invariant-loop-number l =
    (n row : ℕ) → n < l.number → Applies (basis_of l.start) (stage_of l.tuple l.z) (record { rule = n; master = row }) → target_of (basis_of l.start) (record { rule = n; master = row }) ≡ l.left_out
