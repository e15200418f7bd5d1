use Rattle.std.proofs.Common.{◌≡◌, length, ap, ◌∙◌, arith}
use Rattle.std.proofs.lemmas.List.{length-append}
use Rattle.bench_core.specs.DirtyCounts.{cind_walk, dep_walk}
use Rattle.violation_report.specs.RuleNumbers.{lines_at, number_at, rule_at, rule_count}
use Rattle.violation_report.proofs.Lists.{law_of_length}
use Rattle.violation_report.proofs.RuleLoops.{lines-all, lines-next, lines_before, probes-cut, probes-whole, sum-next}
use Rattle.violation_report.proofs.counting.count.Goals as goal

pub loop-place-preserved : goal.loop-place-preserved
loop-place-preserved g c =
    let rules = c.args.bench.now.rules in
    let state = c.args.bench.now.history.present in
    let own = ap (λ rule. length (lines_at rules state rule)) c.rule_at.ensures.is in
    let parts = length-append (lines_before rules state c.loop-place.place) (lines_at rules state (rule_at rules c.loop-place.place)) in
    let probes = ap (number_at (dep_walk state) (cind_walk state) rules) c.rule_at.ensures.is in record {
      count = omega (arith, c.in_ok-count.ensures, c.loop-place.invariant.count, c.in_ok-more.ensures.count, own, parts, ap length (lines-next rules state c.loop-place.place));
      probes = omega (arith, c.loop-place.invariant.probes, c.count_of.ensures.probes, probes, sum-next (dep_walk state) (cind_walk state) rules c.loop-place.place);
    }

pub returns-clause-count : goal.returns-clause-count
returns-clause-count g c =
    let rules = c.args.bench.now.rules in
    let state = c.args.bench.now.history.present in
    let all : c.loop-place.place ≡ rule_count rules = omega (arith, c.loop-place.auto.place-end, c.loop-place-test.false, c.rule_count-place-end.ensures) in
    c.loop-place.invariant.count ∙ ap (λ n. length (lines_before rules state n)) all ∙ ap (λ lines. length lines) (lines-all rules state)

pub returns-clause-law : goal.returns-clause-law
returns-clause-law g c = law_of_length c.args.bench.now.rules c.args.bench.now.history.present c.loop-place.count (returns-clause-count g c)

pub returns-clause-probes : goal.returns-clause-probes
returns-clause-probes g c =
    let state = c.args.bench.now.history.present in
    probes-whole (dep_walk state) (cind_walk state) c.args.bench.now.rules c.loop-place.place c.args.steps.now c.loop-place.steps (omega (arith, c.loop-place.auto.place-end, c.rule_count-place-end.ensures)) c.loop-place.invariant.probes

pub returns-in_err-more-clause-probes : goal.returns-in_err-more-clause-probes
returns-in_err-more-clause-probes g c =
    let state = c.args.bench.now.history.present in
    let probes = ap (number_at (dep_walk state) (cind_walk state) c.args.bench.now.rules) c.rule_at.ensures.is in
    probes-cut (dep_walk state) (cind_walk state) c.args.bench.now.rules c.loop-place.place c.args.steps.now c.loop-place.steps c.count_of.new.steps (omega (arith, c.loop-place-test.true, c.rule_count-place-end.ensures))
    c.loop-place.invariant.probes (omega (arith, c.count_of.ensures.probes, probes))

pub returns-in_err-count-clause-probes : goal.returns-in_err-count-clause-probes
returns-in_err-count-clause-probes g c =
    let state = c.args.bench.now.history.present in
    let probes = ap (number_at (dep_walk state) (cind_walk state) c.args.bench.now.rules) c.rule_at.ensures.is in
    probes-cut (dep_walk state) (cind_walk state) c.args.bench.now.rules c.loop-place.place c.args.steps.now c.loop-place.steps c.count_of.new.steps (omega (arith, c.loop-place-test.true, c.rule_count-place-end.ensures))
    c.loop-place.invariant.probes (omega (arith, c.count_of.ensures.probes, probes))
