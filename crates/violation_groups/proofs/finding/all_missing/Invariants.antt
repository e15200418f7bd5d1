use Rattle.std.proofs.Common.{◌+◌, ◌≤◌, take}
use Rattle.std.specs.Prelude.{sum_by}
use Rattle.std.specs.List.{AllZip}
use Rattle.rule_model.specs.Books.{book_cinds}
use Rattle.rule_model.specs.declared.cind.Cind.{Cind}
use Rattle.bench_core.specs.DirtyCounts.{cind_walk}
use Rattle.violation_groups.specs.Groups.{AreMissing}
use Rattle.violation_groups.specs.Listed.{cind_listed}
use Rattle.violation_groups.proofs.finding.all_missing.Given as goal

abbrev pub invariant-loop-number : goal.invariant-loop-number
invariant-loop-number g l = record {
  missing : AllZip (λ (rule : Cind) found. AreMissing (cind_listed l.bench.history.present rule) found) (take l.number (book_cinds l.bench.rules)) l.all;
  probes : l.steps ≤ l.initial.steps + sum_by (cind_walk l.bench.history.present) (take l.number (book_cinds l.bench.rules));
}
