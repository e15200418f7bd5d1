use Rattle.std.proofs.Common.{inl, inr, sym, arith}
use Rattle.cind_index.proofs.KeyFacts.{with_key, mark_moves, unmark_moves, moved_same, takes_mark}
use Rattle.cind_index.proofs.keys.settle.Goals as goal

pub returns-then-is_dirty-clause-marks : goal.returns-then-is_dirty-clause-marks
returns-then-is_dirty-clause-marks c =
    let old = c.args.keys.now in
    let e = c.mark_at.ensures in
    let it = with_key old.pairs c.args.place c.value_at.result.now c.value_at.ensures in
    let moved = mark_moves old c.mark_at.new.self c.args.place c.mark_at.result c.requires.within e.already e.marks in
    takes_mark c.args.tableau.now old c.mark_at.new.self c.args.place c.mark_at.result it.0 c.value_at.result.now c.len-len.ensures.distinct c.requires.within it.1 moved e.same_pair e.others
    (inl (e.marked, sym c.if-is_dirty.ensures)) c.requires.others

pub returns-then-is_dirty-clause-same : goal.returns-then-is_dirty-clause-same
returns-then-is_dirty-clause-same c =
    let old = c.args.keys.now in
    let e = c.mark_at.ensures in
    moved_same old c.mark_at.new.self c.args.place c.mark_at.result c.requires.within (mark_moves old c.mark_at.new.self c.args.place c.mark_at.result c.requires.within e.already e.marks)

pub returns-else-is_dirty-clause-marks : goal.returns-else-is_dirty-clause-marks
returns-else-is_dirty-clause-marks c =
    let old = c.args.keys.now in
    let e = c.unmark_at.ensures in
    let it = with_key old.pairs c.args.place c.value_at.result.now c.value_at.ensures in
    let moved = unmark_moves old c.unmark_at.new.self c.args.place c.unmark_at.result c.requires.within e.already e.unmarks (omega (arith, e.within, e.len)) in
    takes_mark c.args.tableau.now old c.unmark_at.new.self c.args.place c.unmark_at.result it.0 c.value_at.result.now c.len-len.ensures.distinct c.requires.within it.1 moved e.same_pair e.others
    (inr (e.unmarked, sym c.if-is_dirty.ensures)) c.requires.others

pub returns-else-is_dirty-clause-same : goal.returns-else-is_dirty-clause-same
returns-else-is_dirty-clause-same c =
    let old = c.args.keys.now in
    let e = c.unmark_at.ensures in
    moved_same old c.unmark_at.new.self c.args.place c.unmark_at.result c.requires.within (unmark_moves old c.unmark_at.new.self c.args.place c.unmark_at.result c.requires.within e.already e.unmarks (omega (arith, e.within, e.len)))
