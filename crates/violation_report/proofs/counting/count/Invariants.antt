use Rattle.std.proofs.Common.{◌≡◌, ◌+◌, ◌≤◌, length}
use Rattle.bench_core.specs.DirtyCounts.{cind_walk, dep_walk}
use Rattle.violation_report.proofs.RuleLoops.{lines_before, sum_before}
use Rattle.violation_report.proofs.counting.count.Given as goal

abbrev pub invariant-loop-place : goal.invariant-loop-place
invariant-loop-place g l = record {
  count : l.count ≡ length (lines_before l.bench.rules l.bench.history.present l.place);
  probes : l.steps ≤ l.initial.steps + sum_before (dep_walk l.bench.history.present) (cind_walk l.bench.history.present) l.bench.rules l.place;
}
