use Rattle.std.proofs.Common.{◌∙◌}
use Rattle.dep_search.specs.Settled.{large}
use Rattle.dep_search.proofs.Listed.{if_ok}
use Rattle.dep_search.proofs.Parted.{large_lead}
use Rattle.dep_search.proofs.grouped.leads.Goals as goal

pub returns : goal.returns
returns c =
    let support = c.args.table.now.support in
    let each = rw c.as_slice-leaders.ensures at c.in_ok-sizes.ensures.each in
    let same = large_lead c.args.table.now.rows.now support c.args.grouped.now.x c.args.grouped.now.classes.leaders c.in_ok-sizes.sizes c.requires.led each in
    if_ok c.large.result (λ list e. e ∙ (λ i. large (c.as_slice-leaders.ensures i) (c.as_slice.ensures i) support) ∙ same) c.large.ensures
