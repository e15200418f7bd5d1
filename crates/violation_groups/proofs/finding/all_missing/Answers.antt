use Rattle.std.proofs.Common.{◌+◌, ◌<◌, length, ap, arith}
use Rattle.std.proofs.lemmas.List.Sums.{sum_by-take-le}
use Rattle.rule_model.specs.Books.{book_cinds}
use Rattle.rule_model.specs.declared.cind.Cind.{Cind}
use Rattle.bench_core.specs.Bench.{BenchModel}
use Rattle.bench_core.specs.DirtyCounts.{cind_walk}
use Rattle.violation_groups.specs.Groups.{AreMissing}
use Rattle.violation_groups.specs.Listed.{cind_listed}
use Rattle.violation_groups.proofs.Steps.{sum-taken, zip-taken}
use Rattle.violation_groups.proofs.finding.all_missing.Goals as goal

pub loop-number-preserved : goal.loop-number-preserved
loop-number-preserved g c =
    let rules = c.args.bench.now.rules in
    let state = c.args.bench.now.history.present in
    let within : c.loop-number.number < length (book_cinds rules) = omega (arith, c.loop-number-test.true, c.cind_count-number-end.ensures, ap (λ (b : BenchModel). length (book_cinds b.rules)) c.queries.ensures) in record {
      missing =
          zip-taken (λ (rule : Cind) found. AreMissing (cind_listed state rule) found) (book_cinds rules) c.loop-number.number c.loop-number.all c.push.new.self c.in_ok-missing.missing within
          c.loop-number.invariant.missing c.in_ok-missing.ensures.missing c.in_ok-push.ensures.ok;
      probes = omega (arith, c.loop-number.invariant.probes, c.missing_at.ensures.probes, sum-taken (cind_walk state) (book_cinds rules) c.loop-number.number within);
    }

-- those that were gone over took no more than all
pub returns-clause-probes : goal.returns-clause-probes
returns-clause-probes g c =
    let state = c.args.bench.now.history.present in
    omega (arith, c.loop-number.invariant.probes, sum_by-take-le (cind_walk state) (book_cinds c.args.bench.now.rules) c.loop-number.number)

pub returns-in_err-missing-clause-probes : goal.returns-in_err-missing-clause-probes
returns-in_err-missing-clause-probes g c =
    let rules = c.args.bench.now.rules in
    let state = c.args.bench.now.history.present in
    let within : c.loop-number.number < length (book_cinds rules) = omega (arith, c.loop-number-test.true, c.cind_count-number-end.ensures, ap (λ (b : BenchModel). length (book_cinds b.rules)) c.queries.ensures) in
    omega (arith, c.loop-number.invariant.probes, c.missing_at.ensures.probes, sum-taken (cind_walk state) (book_cinds rules) c.loop-number.number within, sum_by-take-le (cind_walk state) (book_cinds rules) (c.loop-number.number + 1))

pub returns-in_err-push-clause-probes : goal.returns-in_err-push-clause-probes
returns-in_err-push-clause-probes g c =
    let rules = c.args.bench.now.rules in
    let state = c.args.bench.now.history.present in
    let within : c.loop-number.number < length (book_cinds rules) = omega (arith, c.loop-number-test.true, c.cind_count-number-end.ensures, ap (λ (b : BenchModel). length (book_cinds b.rules)) c.queries.ensures) in
    omega (arith, c.loop-number.invariant.probes, c.missing_at.ensures.probes, sum-taken (cind_walk state) (book_cinds rules) c.loop-number.number within, sum_by-take-le (cind_walk state) (book_cinds rules) (c.loop-number.number + 1))
