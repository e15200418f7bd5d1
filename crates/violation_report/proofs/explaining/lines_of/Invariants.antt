use Rattle.std.proofs.Common.{◌≡◌, ◌+◌, ◌≤◌, filter}
use Rattle.violation_report.specs.Explained.{is_about}
use Rattle.violation_report.specs.Probes.{cind_rows_of, dep_rows_of}
use Rattle.violation_report.proofs.RuleLoops.{lines_before, sum_before}
use Rattle.violation_report.proofs.explaining.lines_of.Given as goal

abbrev pub invariant-loop-place : goal.invariant-loop-place
invariant-loop-place g l = record {
  lines : l.lines ≡ filter (is_about l.bench.rules l.table l.row) (lines_before l.bench.rules l.bench.history.present l.place);
  probes : l.steps ≤ l.initial.steps + sum_before (dep_rows_of l.table) (cind_rows_of l.table) l.bench.rules l.place;
}
