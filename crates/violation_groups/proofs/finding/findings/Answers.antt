use Rattle.std.proofs.Common.{subst}
use Rattle.rule_model.specs.Books.{IsBook}
use Rattle.violation_groups.proofs.Lines.{all-lines}
use Rattle.violation_groups.proofs.finding.findings.Goals as goal

pub returns-clause-law : goal.returns-clause-law
returns-clause-law g c =
    all-lines c.args.bench.now.rules c.args.bench.now.limits c.args.bench.now.history.present (record { deps = c.in_ok-deps.deps; cinds = c.in_ok-cinds.cinds })
    c.rules.ensures.valid.present (subst IsBook c.rules.ensures.value c.deps-deps.ensures.valid) (record { deps = c.in_ok-deps.ensures.groups; cinds = c.in_ok-cinds.ensures.missing })
