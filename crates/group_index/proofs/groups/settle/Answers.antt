use Rattle.std.proofs.Common.{sym, ap, ◌∙◌, arith}
use Rattle.group_index.specs.Pairs.{is_dirty, pairs_of}
use Rattle.group_index.proofs.GroupFacts.{pair_at}
use Rattle.group_index.proofs.MarkFacts.{marked_where_dirty, unmarked_where_clean, content_marked, content_unmarked, moved_marked, moved_unmarked}
use Rattle.group_index.proofs.groups.settle.Goals as goal

pub returns-then-is_dirty-clause-marks : goal.returns-then-is_dirty-clause-marks
returns-then-is_dirty-clause-marks c =
    let at = pair_at c.args.groups.now.pairs c.args.place c.key_at.result.now c.value_at.result.now c.key_at.ensures c.value_at.ensures in
    let e = c.mark_at.ensures in
    marked_where_dirty c.args.rows.now c.args.groups.now c.mark_at.new.self c.args.place (c.key_at.result.now, c.value_at.result.now) c.requires.others at
    (ap (λ x. is_dirty c.args.rows.now x (pairs_of c.value_at.result.now)) (sym c.as_slice.ensures) ∙ sym (c.is_dirty.ensures (pairs_of c.value_at.result.now) c.of-spread.ensures.spread) ∙ c.if-is_dirty.true)
    (λ low. (e.already low).1) (λ high. (e.marks high).1)

pub returns-then-is_dirty-clause-same : goal.returns-then-is_dirty-clause-same
returns-then-is_dirty-clause-same c =
    let e = c.mark_at.ensures in
    content_marked c.args.groups.now c.mark_at.new.self c.args.place c.requires.within (λ low. (e.already low).1) (λ high. (e.marks high).1)

pub returns-else-is_dirty-clause-marks : goal.returns-else-is_dirty-clause-marks
returns-else-is_dirty-clause-marks c =
    let at = pair_at c.args.groups.now.pairs c.args.place c.key_at.result.now c.value_at.result.now c.key_at.ensures c.value_at.ensures in
    let e = c.unmark_at.ensures in
    unmarked_where_clean c.args.rows.now c.args.groups.now c.unmark_at.new.self c.args.place (c.key_at.result.now, c.value_at.result.now) c.requires.others at
    (ap (λ x. is_dirty c.args.rows.now x (pairs_of c.value_at.result.now)) (sym c.as_slice.ensures) ∙ sym (c.is_dirty.ensures (pairs_of c.value_at.result.now) c.of-spread.ensures.spread) ∙ c.if-is_dirty.false)
    (λ high. (e.already high).1) (λ low. (e.unmarks low).1) (λ low. omega (arith, (e.unmarks low).0, e.within, e.len))

pub returns-else-is_dirty-clause-same : goal.returns-else-is_dirty-clause-same
returns-else-is_dirty-clause-same c =
    let e = c.unmark_at.ensures in
    content_unmarked c.args.groups.now c.unmark_at.new.self c.args.place c.requires.within (λ high. (e.already high).1) (λ low. (e.unmarks low).1) (λ low. omega (arith, (e.unmarks low).0, e.within, e.len))

pub returns-then-is_dirty-clause-moved : goal.returns-then-is_dirty-clause-moved
returns-then-is_dirty-clause-moved c =
    let e = c.mark_at.ensures in
    moved_marked c.args.groups.now c.mark_at.new.self c.args.place c.requires.within (λ low. (e.already low).1) (λ high. (e.marks high).1)

pub returns-else-is_dirty-clause-moved : goal.returns-else-is_dirty-clause-moved
returns-else-is_dirty-clause-moved c =
    let e = c.unmark_at.ensures in
    moved_unmarked c.args.groups.now c.unmark_at.new.self c.args.place c.requires.within (λ high. (e.already high).1) (λ low. (e.unmarks low).1) (λ low. omega (arith, (e.unmarks low).0, e.within, e.len))
