use Rattle.std.proofs.Common.{◌+◌, ◌<◌, length, ap, arith}
use Rattle.std.proofs.lemmas.List.Sums.{sum_by-take-le}
use Rattle.rule_model.specs.Books.{book_deps}
use Rattle.rule_model.specs.declared.dep.Dep.{Dep}
use Rattle.bench_core.specs.Bench.{BenchModel}
use Rattle.bench_core.specs.DirtyCounts.{dep_walk}
use Rattle.violation_groups.specs.Groups.{AreGroups}
use Rattle.violation_groups.specs.Listed.{dep_listed}
use Rattle.violation_groups.proofs.Steps.{sum-taken, zip-taken}
use Rattle.violation_groups.proofs.finding.all_groups.Goals as goal

pub loop-number-preserved : goal.loop-number-preserved
loop-number-preserved g c =
    let rules = c.args.bench.now.rules in
    let state = c.args.bench.now.history.present in
    let within : c.loop-number.number < length (book_deps rules) = omega (arith, c.loop-number-test.true, c.dep_count-number-end.ensures, ap (λ (b : BenchModel). length (book_deps b.rules)) c.queries.ensures) in record {
      groups =
          zip-taken (λ (rule : Dep) found. AreGroups (dep_listed state rule) found) (book_deps rules) c.loop-number.number c.loop-number.all c.push.new.self c.in_ok-groups.groups within
          c.loop-number.invariant.groups c.in_ok-groups.ensures.groups c.in_ok-push.ensures.ok;
      probes = omega (arith, c.loop-number.invariant.probes, c.groups_at.ensures.probes, sum-taken (dep_walk state) (book_deps rules) c.loop-number.number within);
    }

-- those that were gone over took no more than all
pub returns-clause-probes : goal.returns-clause-probes
returns-clause-probes g c =
    let state = c.args.bench.now.history.present in
    omega (arith, c.loop-number.invariant.probes, sum_by-take-le (dep_walk state) (book_deps c.args.bench.now.rules) c.loop-number.number)

pub returns-in_err-groups-clause-probes : goal.returns-in_err-groups-clause-probes
returns-in_err-groups-clause-probes g c =
    let rules = c.args.bench.now.rules in
    let state = c.args.bench.now.history.present in
    let within : c.loop-number.number < length (book_deps rules) = omega (arith, c.loop-number-test.true, c.dep_count-number-end.ensures, ap (λ (b : BenchModel). length (book_deps b.rules)) c.queries.ensures) in
    omega (arith, c.loop-number.invariant.probes, c.groups_at.ensures.probes, sum-taken (dep_walk state) (book_deps rules) c.loop-number.number within, sum_by-take-le (dep_walk state) (book_deps rules) (c.loop-number.number + 1))

pub returns-in_err-push-clause-probes : goal.returns-in_err-push-clause-probes
returns-in_err-push-clause-probes g c =
    let rules = c.args.bench.now.rules in
    let state = c.args.bench.now.history.present in
    let within : c.loop-number.number < length (book_deps rules) = omega (arith, c.loop-number-test.true, c.dep_count-number-end.ensures, ap (λ (b : BenchModel). length (book_deps b.rules)) c.queries.ensures) in
    omega (arith, c.loop-number.invariant.probes, c.groups_at.ensures.probes, sum-taken (dep_walk state) (book_deps rules) c.loop-number.number within, sum_by-take-le (dep_walk state) (book_deps rules) (c.loop-number.number + 1))
