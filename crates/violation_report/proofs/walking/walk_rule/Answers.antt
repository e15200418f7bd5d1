use Rattle.std.proofs.Common.{subst}
use Rattle.violation_report.specs.RuleNumbers.{IsRuleOf}
use Rattle.violation_report.proofs.Lists.{cind_lines-in_range, dep_lines-in_range}
use Rattle.violation_report.proofs.walking.walk_rule.Goals as goal

pub put_violations-requires : goal.put_violations-requires
put_violations-requires g c =
    let bench = c.args.bench.now in
    let within = subst (IsRuleOf bench.rules) c.in-Dep.is c.requires in
    rw (c.rules.ensures.value, c.as_slice.ensures, c.in_ok-found-in-Dep.ensures.violations) (dep_lines-in_range bench.rules bench.history.present c.in-Dep.number within)

pub put_orphans-requires : goal.put_orphans-requires
put_orphans-requires g c =
    let bench = c.args.bench.now in
    let within = subst (IsRuleOf bench.rules) c.in-Cind.is c.requires in
    rw (c.rules-in-Cind.ensures.value, c.as_slice-in-Cind.ensures, c.in_ok-found-in-Cind.ensures.orphans) (cind_lines-in_range bench.rules bench.history.present c.in-Cind.number within)
