use Rattle.std.proofs.Common.{◌+◌, ◌≤◌}
use Rattle.bench_core.specs.DirtyCounts.{cind_walk, dep_walk}
use Rattle.violation_report.specs.Taking.{Takes}
use Rattle.violation_report.proofs.RuleLoops.{lines_before, sum_before}
use Rattle.violation_report.proofs.walking.walk.Given as goal

abbrev pub invariant-loop-place : goal.invariant-loop-place
invariant-loop-place g l = record {
  lines : Takes (g.T.Taker.Took l.bench.rules) l.initial.taker (lines_before l.bench.rules l.bench.history.present l.place) l.taker;
  probes : l.steps ≤ l.initial.steps + sum_before (dep_walk l.bench.history.present) (cind_walk l.bench.history.present) l.bench.rules l.place;
}
