use Rattle.std.proofs.Common.{◌+◌, ◌≤◌, take}
use Rattle.std.specs.Prelude.{sum_by}
use Rattle.std.specs.List.{AllZip}
use Rattle.rule_model.specs.Books.{book_deps}
use Rattle.rule_model.specs.declared.dep.Dep.{Dep}
use Rattle.bench_core.specs.DirtyCounts.{dep_walk}
use Rattle.violation_groups.specs.Groups.{AreGroups}
use Rattle.violation_groups.specs.Listed.{dep_listed}
use Rattle.violation_groups.proofs.finding.all_groups.Given as goal

abbrev pub invariant-loop-number : goal.invariant-loop-number
invariant-loop-number g l = record {
  groups : AllZip (λ (rule : Dep) found. AreGroups (dep_listed l.bench.history.present rule) found) (take l.number (book_deps l.bench.rules)) l.all;
  probes : l.steps ≤ l.initial.steps + sum_by (dep_walk l.bench.history.present) (take l.number (book_deps l.bench.rules));
}
