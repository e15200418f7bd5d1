use Rattle.group_index.specs.Pairs.{pairs_of}
use Rattle.group_index.proofs.CountFacts.{counts_mixed, counts_others}
use Rattle.group_index.proofs.counting.count_listed.Goals as goal

pub returns-in-Any-clause-count : goal.returns-in-Any-clause-count
returns-in-Any-clause-count c = counts_mixed c.args.cell.now (pairs_of c.args.group.now) c.count_mixed.result c.in-Any.is c.count_mixed.ensures

pub returns-in-Is-clause-count : goal.returns-in-Is-clause-count
returns-in-Is-clause-count c = counts_others c.args.cell.now c.in-Is.constant (pairs_of c.args.group.now) c.count_others.result c.in-Is.is c.count_others.ensures
