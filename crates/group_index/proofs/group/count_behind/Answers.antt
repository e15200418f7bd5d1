use Rattle.std.proofs.Common.{◌∙◌, rules, tests, not}
use Rattle.std.specs.Prelude.{nat_eq}
use Rattle.std.proofs.lemmas.Iterator.Consumers.{YieldsList-from_rest, YieldsList-from_filter, YieldsList-at, count_from_yields_List}
use Rattle.group_index.specs.Pairs.{Pair}
use Rattle.group_index.proofs.TestCounts.{counted_above}
use Rattle.group_index.proofs.group.count_behind.Goals as goal

pub returns-clause-count : goal.returns-clause-count
returns-clause-count c =
    count_from_yields_List c.filter.result _ c.count.ensures.ran
    (YieldsList-from_filter _ (λ (p : Pair). not (nat_eq p.0 c.args.a)) (YieldsList-at c.filter.ensures.source (YieldsList-from_rest _ (c.range.ensures.between tt))) c.filter.ensures.closure (λ x r q k. search (rules, tests)))
    ∙ counted_above c.args.a _ c.args.pairs.now.keys
