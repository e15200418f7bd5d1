use Rattle.std.proofs.Common.{◌≡◌, ◌++◌, ap, sym, ◌∙◌, filter, arith}
use Rattle.std.proofs.lemmas.List.Elements.{filter-append}
use Rattle.violation_report.specs.Explained.{is_about}
use Rattle.violation_report.specs.Probes.{cind_rows_of, dep_rows_of}
use Rattle.violation_report.specs.RuleNumbers.{lines_at, number_at, rule_at, rule_count}
use Rattle.violation_report.proofs.RowLines.{explained-in_range}
use Rattle.violation_report.proofs.RuleLoops.{lines-all, lines-next, lines_before, probes-cut, probes-whole, sum-next}
use Rattle.violation_report.proofs.explaining.lines_of.Goals as goal

pub loop-place-preserved : goal.loop-place-preserved
loop-place-preserved g c =
    let rules = c.args.bench.now.rules in
    let state = c.args.bench.now.history.present in
    let about = is_about rules c.args.table c.args.row in
    let place = c.loop-place.place in
    let probes = ap (number_at (dep_rows_of c.args.table) (cind_rows_of c.args.table) rules) c.rule_at.ensures.is in record {
      lines =
          c.in_ok-explain_rule.ensures.lines
          ∙ ap (λ lines. lines ++ filter about (lines_at rules state c.rule_at.result)) c.loop-place.invariant.lines
          ∙ ap (λ rule. filter about (lines_before rules state place) ++ filter about (lines_at rules state rule)) c.rule_at.ensures.is
          ∙ sym (ap (filter about) (lines-next rules state place) ∙ filter-append about (lines_before rules state place) (lines_at rules state (rule_at rules place)));
      probes = omega (arith, c.loop-place.invariant.probes, c.explain_rule.ensures.probes, probes, sum-next (dep_rows_of c.args.table) (cind_rows_of c.args.table) rules place);
    }

pub returns-clause-lines : goal.returns-clause-lines
returns-clause-lines g c =
    let rules = c.args.bench.now.rules in
    let state = c.args.bench.now.history.present in
    let about = is_about rules c.args.table c.args.row in
    let all : c.loop-place.place ≡ rule_count rules = omega (arith, c.loop-place.auto.place-end, c.loop-place-test.false, c.rule_count-place-end.ensures) in
    c.loop-place.invariant.lines ∙ ap (λ n. filter about (lines_before rules state n)) all ∙ ap (filter about) (lines-all rules state)

pub returns-clause-in_range : goal.returns-clause-in_range
returns-clause-in_range g c = rw (returns-clause-lines g c) (explained-in_range c.args.bench.now.rules c.args.bench.now.history.present c.args.table c.args.row)

pub returns-clause-probes : goal.returns-clause-probes
returns-clause-probes g c =
    probes-whole (dep_rows_of c.args.table) (cind_rows_of c.args.table) c.args.bench.now.rules c.loop-place.place c.args.steps.now c.loop-place.steps (omega (arith, c.loop-place.auto.place-end, c.rule_count-place-end.ensures)) c.loop-place.invariant.probes

pub returns-in_err-explain_rule-clause-probes : goal.returns-in_err-explain_rule-clause-probes
returns-in_err-explain_rule-clause-probes g c =
    let probes = ap (number_at (dep_rows_of c.args.table) (cind_rows_of c.args.table) c.args.bench.now.rules) c.rule_at.ensures.is in
    probes-cut (dep_rows_of c.args.table) (cind_rows_of c.args.table) c.args.bench.now.rules c.loop-place.place c.args.steps.now c.loop-place.steps c.explain_rule.new.steps (omega (arith, c.loop-place-test.true, c.rule_count-place-end.ensures))
    c.loop-place.invariant.probes (omega (arith, c.explain_rule.ensures.probes, probes))
