use Rattle.std.proofs.Common.{◌∙◌}
use Rattle.std.proofs.lemmas.Iterator.Consumers.{YieldsList-from_rest, count_from_yields_List}
use Rattle.group_index.proofs.TestCounts.{counted_below}
use Rattle.group_index.proofs.group.count_before.Goals as goal

pub returns-clause-count : goal.returns-clause-count
returns-clause-count c = count_from_yields_List c.range.result _ c.count.ensures.ran (YieldsList-from_rest _ (c.range.ensures.between tt)) ∙ counted_below c.args.a c.args.pairs.now.keys
