use Rattle.project_flaws.proofs.Barred.{may_stand-result}
use Rattle.project_flaws.proofs.values.may_stand.Goals as goal

pub returns : goal.returns
returns c = may_stand-result c.args.rules.now c.args.table c.args.attr c.args.value.now c.in_ok-dep.dep c.barred.result c.in_ok-dep.ensures c.barred.ensures
