use Rattle.std.proofs.Common.{◌≡◌, ℕ, ◌<◌}
use Rattle.bench_core.specs.DirtyCounts.{cind_dirty, dep_dirty}
use Rattle.violation_report.specs.RuleNumbers.{number_at, rule_at}
use Rattle.violation_report.proofs.clean.is_clean.Given as goal

-- the rules so far have nothing dirty
abbrev pub invariant-loop-place : goal.invariant-loop-place
invariant-loop-place l = (k : ℕ) → k < l.place → number_at (dep_dirty l.bench.history.present) (cind_dirty l.bench.history.present) l.bench.rules (rule_at l.bench.rules k) ≡ 0
