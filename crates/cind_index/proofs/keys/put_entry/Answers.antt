use Rattle.std.proofs.Common.{ap, not, ◌∙◌}
use Rattle.cind_index.proofs.KeyFacts.{nothing_more, same_then_same}
use Rattle.cind_index.proofs.TotalFacts.{totals_same}
use Rattle.cind_index.proofs.keys.put_entry.Goals as goal

pub returns-else-new-clause-old : goal.returns-else-new-clause-old
returns-else-new-clause-old g c =
    let old = c.args.keys.now in
    let mid = c.enter_entry.new.keys in
    same_then_same old mid c.settle-place.new.keys
    (nothing_more c.args.side c.args.key.items c.args.pattern.now c.args.row old mid (c.in_ok-place.ensures.new ∙ ap not c.if-new.false) c.in_ok-place.ensures.ok)
    c.settle-place.ensures.same

pub returns-then-new-clause-totals : goal.returns-then-new-clause-totals
returns-then-new-clause-totals g c = totals_same c.args.tableau.now c.enter_entry.new.keys c.settle-place.new.keys c.enter_entry.new.totals c.settle-place.ensures.same c.enter_entry.ensures.totals

pub returns-else-new-clause-totals : goal.returns-else-new-clause-totals
returns-else-new-clause-totals g c = totals_same c.args.tableau.now c.enter_entry.new.keys c.settle-place.new.keys c.enter_entry.new.totals c.settle-place.ensures.same c.enter_entry.ensures.totals
