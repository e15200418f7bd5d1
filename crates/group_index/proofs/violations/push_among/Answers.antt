use Rattle.group_index.specs.Leads.{listed_by}
use Rattle.group_index.proofs.ListedFacts.{one_more_listed}
use Rattle.group_index.proofs.violations.push_among.Goals as goal

pub loop-pair-preserved : goal.loop-pair-preserved
loop-pair-preserved c =
    one_more_listed (listed_by c.args.cell.now c.args.leads.now.first c.args.leads.now.second) c.args.pairs.now c.loop-pair.pair-index (0, 0) c.args.found.now.items c.loop-pair.found.items c.push_listed.new.found.items c.loop-pair-test.true c.loop-pair.invariant c.in_ok-push_listed.ensures
