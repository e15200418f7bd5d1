use Rattle.std.proofs.Common.{ap, arith}
use Rattle.marked_map.proofs.MarkedMapLemmas.{KeepsOthers-remove, KeepsOthers-then, lookup-NonePasses}
use Rattle.marked_map.proofs.MarkedMap.remove_at.Goals as goal

pub returns-clause-gone : goal.returns-clause-gone
returns-clause-gone g c =
    let key = c.unwrap.result.0 in
    let updates = rw c.unwrap.ensures at c.swap_remove_index.ensures.updates in
    lookup-NonePasses (g.K.PartialEq.eq key) c.swap_remove_index.new.self.entries updates.1

-- without its mark the pair still is the one that stood at the place
pub returns-clause-others : goal.returns-clause-others
returns-clause-others g c =
    let unmark = c.unmark_at-place.ensures in
    let unmarked = c.unmark_at-place.new.self in
    let place = c.unmark_at-place.result in
    let moved = rw c.unwrap.ensures at c.swap_remove_index.ensures.entries in
    KeepsOthers-then c.args.self.now unmarked _ c.args.place place unmark.same_pair unmark.others
    (KeepsOthers-remove unmarked place c.self.inside.marked c.self.inside.map.entries c.swap_remove_index.new.self.entries c.unwrap.result c.self.view_is unmark.within (omega (arith, unmark.unmarked, ap (λ m. m.marked) c.self.view_is)) moved)
