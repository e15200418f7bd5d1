use Rattle.std.proofs.Common.{ℕ, ap}
use Rattle.rule_runs.specs.Marks.{marked}
use Rattle.rule_runs.specs.Moves.{Stage}
use Rattle.rule_runs.proofs.Running.{left-ok}
use Rattle.rule_runs.proofs.runs.close_without.Goals as goal

pub returns-clause-left : goal.returns-clause-left
returns-clause-left c =
    left-ok c.extend.result c.args.left_out (marked c.in_ok-begin.field-0.covered) (marked c.args.start.now.vouched)
    (λ a. ap (λ (s : Stage ℕ). s.validated a) c.in_ok-begin.ensures.stage) c.extend.ensures.left
