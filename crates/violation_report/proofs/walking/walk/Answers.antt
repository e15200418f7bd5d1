use Rattle.std.proofs.Common.{◌≡◌, List, ap, subst, sym, ◌∙◌, arith}
use Rattle.bench_core.specs.DirtyCounts.{cind_walk, dep_walk}
use Rattle.violation_report.specs.RuleNumbers.{lines_at, number_at, rule_at, rule_count}
use Rattle.violation_report.specs.Taking.{Takes}
use Rattle.violation_report.specs.declared.line.Line.{Line}
use Rattle.violation_report.proofs.RuleLoops.{lines-all, lines-next, lines_before, probes-cut, probes-whole, sum-next}
use Rattle.violation_report.proofs.Taken.{takes-more}
use Rattle.violation_report.proofs.walking.walk.Goals as goal

pub loop-place-preserved : goal.loop-place-preserved
loop-place-preserved g c =
    let rules = c.args.bench.now.rules in
    let state = c.args.bench.now.history.present in
    let Took = g.T.Taker.Took rules in
    let place = c.loop-place.place in
    let own = subst (λ rule. Takes Took c.loop-place.taker (lines_at rules state rule) c.walk_rule.new.taker) c.rule_at.ensures.is c.in_ok-walk_rule.ensures.lines in
    let probes = ap (number_at (dep_walk state) (cind_walk state) rules) c.rule_at.ensures.is in record {
      lines =
          subst (λ (lines : List Line). Takes Took c.args.taker.now lines c.walk_rule.new.taker) (sym (lines-next rules state place))
          (takes-more Took c.args.taker.now c.loop-place.taker c.walk_rule.new.taker (lines_before rules state place) (lines_at rules state (rule_at rules place)) c.loop-place.invariant.lines own);
      probes = omega (arith, c.loop-place.invariant.probes, c.walk_rule.ensures.probes, probes, sum-next (dep_walk state) (cind_walk state) rules place);
    }

pub returns-clause-lines : goal.returns-clause-lines
returns-clause-lines g c =
    let rules = c.args.bench.now.rules in
    let state = c.args.bench.now.history.present in
    let all : c.loop-place.place ≡ rule_count rules = omega (arith, c.loop-place.auto.place-end, c.loop-place-test.false, c.rule_count-place-end.ensures) in
    subst (λ (lines : List Line). Takes (g.T.Taker.Took rules) c.args.taker.now lines c.loop-place.taker) (ap (lines_before rules state) all ∙ lines-all rules state) c.loop-place.invariant.lines

pub returns-clause-probes : goal.returns-clause-probes
returns-clause-probes g c =
    let state = c.args.bench.now.history.present in
    probes-whole (dep_walk state) (cind_walk state) c.args.bench.now.rules c.loop-place.place c.args.steps.now c.loop-place.steps (omega (arith, c.loop-place.auto.place-end, c.rule_count-place-end.ensures)) c.loop-place.invariant.probes

pub returns-in_err-walk_rule-clause-probes : goal.returns-in_err-walk_rule-clause-probes
returns-in_err-walk_rule-clause-probes g c =
    let state = c.args.bench.now.history.present in
    let probes = ap (number_at (dep_walk state) (cind_walk state) c.args.bench.now.rules) c.rule_at.ensures.is in
    probes-cut (dep_walk state) (cind_walk state) c.args.bench.now.rules c.loop-place.place c.args.steps.now c.loop-place.steps c.walk_rule.new.steps (omega (arith, c.loop-place-test.true, c.rule_count-place-end.ensures))
    c.loop-place.invariant.probes (omega (arith, c.walk_rule.ensures.probes, probes))
