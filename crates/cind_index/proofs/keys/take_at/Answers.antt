use Rattle.std.proofs.Common.{◌≡◌, ◌<◌, sym, subst, refl, ◌∙◌}
use Rattle.std.proofs.lemmas.Option.{same_Some}
use Rattle.cind_index.specs.declared.side.Side.{Side}
use Rattle.cind_index.specs.RowsHeld.{rows_on, HasNothing}
use Rattle.cind_index.specs.Entries.{is_entry}
use Rattle.cind_index.proofs.PairFacts.{set_length, set_here, set_but, removed_right}
use Rattle.cind_index.proofs.KeyFacts.{with_key, written, to_right, from_right, from_but, dirty_pair, gone_apart, less_then_same, take_there, key_at, nothing_held, value_there}
use Rattle.cind_index.proofs.TotalFacts.{totals_written, totals_same}
use Rattle.cind_index.proofs.keys.take_at.Goals as goal

pub value_at-requires-2 : goal.value_at-requires-2
value_at-requires-2 c = subst (λ n. c.args.place < n) (sym (set_length c.args.keys.now.pairs c.args.place c.take.new.self)) c.requires.within

pub value_at-requires-3 : goal.value_at-requires-3
value_at-requires-3 c = subst (λ n. c.args.place < n) (sym (set_length c.args.keys.now.pairs c.args.place c.take.new.self)) c.requires.within

pub remove_at-requires : goal.remove_at-requires
remove_at-requires c = subst (λ n. c.args.place < n) (sym (set_length c.args.keys.now.pairs c.args.place c.take.new.self)) c.requires.within

pub settle-requires-clause-within : goal.settle-requires-clause-within
settle-requires-clause-within c = subst (λ n. c.args.place < n) (sym (set_length c.args.keys.now.pairs c.args.place c.take.new.self)) c.requires.within

pub settle-requires-clause-others : goal.settle-requires-clause-others
settle-requires-clause-others c =
    let m = c.args.keys.now in
    let v = c.value_at_mut.result.now in
    let w = c.take.new.self in
    let it = with_key m.pairs c.args.place v c.value_at_mut.ensures.value in
    from_but c.args.tableau.now c.args.place (written m c.args.place it.0 v w it.1 c.args.side) (set_but (dirty_pair c.args.tableau.now) m c.args.place it.0 v w it.1 (to_right c.args.tableau.now m c.requires.marks))

pub returns-then-is_empty-clause-marks : goal.returns-then-is_empty-clause-marks
returns-then-is_empty-clause-marks c =
    let m = c.args.keys.now in
    let v = c.value_at_mut.result.now in
    let w = c.take.new.self in
    let it = with_key m.pairs c.args.place v c.value_at_mut.ensures.value in
    let mid = written m c.args.place it.0 v w it.1 c.args.side in
    let e = c.remove_at.ensures in
    from_right c.args.tableau.now c.remove_at.new.self (removed_right (dirty_pair c.args.tableau.now) mid c.remove_at.new.self c.args.place
    (gone_apart mid c.remove_at.new.self c.args.place c.remove_at.result.0 c.remove_at.result.1 e.taken e.gone) e.others
    (set_but (dirty_pair c.args.tableau.now) m c.args.place it.0 v w it.1 (to_right c.args.tableau.now m c.requires.marks)))

pub returns-then-is_empty-clause-left : goal.returns-then-is_empty-clause-left
returns-then-is_empty-clause-left c key has_key =
    let m = c.args.keys.now in
    let v = c.value_at_mut.result.now in
    let w = c.take.new.self in
    let it = with_key m.pairs c.args.place v c.value_at_mut.ensures.value in
    let mid = written m c.args.place it.0 v w it.1 c.args.side in
    let there = set_here m.pairs c.args.place it.0 v w it.1 in
    let value : c.value_at-3.result.now ≡ w = same_Some c.value_at-3.result.now w (sym c.value_at-3.ensures ∙ value_there mid.pairs c.args.place (it.0, w) there) in
    let nothing = subst (λ rows. (side : Side) → HasNothing (rows_on rows side)) value (c.if-is_empty.ensures refl) in
    less_then_same c.args.side (is_entry key c.args.pattern.now c.args.row) m mid c.remove_at.new.self
    (take_there m c.args.place it.0 v w it.1 c.args.side key c.args.pattern.now c.args.row c.len-len.ensures.distinct (key_at m c.args.place it.0 v key it.1 has_key) c.take.ensures)
    (nothing_held mid c.remove_at.new.self c.args.place it.0 w there nothing c.remove_at.ensures.others)

pub returns-else-is_empty-clause-left : goal.returns-else-is_empty-clause-left
returns-else-is_empty-clause-left c key has_key =
    let m = c.args.keys.now in
    let v = c.value_at_mut.result.now in
    let w = c.take.new.self in
    let it = with_key m.pairs c.args.place v c.value_at_mut.ensures.value in
    let mid = written m c.args.place it.0 v w it.1 c.args.side in
    less_then_same c.args.side (is_entry key c.args.pattern.now c.args.row) m mid c.settle.new.keys
    (take_there m c.args.place it.0 v w it.1 c.args.side key c.args.pattern.now c.args.row c.len-len.ensures.distinct (key_at m c.args.place it.0 v key it.1 has_key) c.take.ensures)
    c.settle.ensures.same

pub returns-then-is_empty-clause-totals : goal.returns-then-is_empty-clause-totals
returns-then-is_empty-clause-totals c =
    let m = c.args.keys.now in
    let v = c.value_at_mut.result.now in
    let w = c.take.new.self in
    let it = with_key m.pairs c.args.place v c.value_at_mut.ensures.value in
    let mid = written m c.args.place it.0 v w it.1 c.args.side in
    let there = set_here m.pairs c.args.place it.0 v w it.1 in
    let value : c.value_at-3.result.now ≡ w = same_Some c.value_at-3.result.now w (sym c.value_at-3.ensures ∙ value_there mid.pairs c.args.place (it.0, w) there) in
    let nothing = subst (λ rows. (side : Side) → HasNothing (rows_on rows side)) value (c.if-is_empty.ensures refl) in
    totals_same c.args.tableau.now mid c.remove_at.new.self c.change-2.new.self (nothing_held mid c.remove_at.new.self c.args.place it.0 w there nothing c.remove_at.ensures.others)
    (totals_written c.args.tableau.now m c.args.place it.0 v w it.1 c.args.side c.args.totals.now c.change.new.self c.change-2.new.self c.value_at.result.now c.value_at-2.result.now c.len-len.ensures.distinct c.requires.totals
    c.value_at.ensures c.change.ensures c.value_at-2.ensures c.change-2.ensures)

pub returns-else-is_empty-clause-totals : goal.returns-else-is_empty-clause-totals
returns-else-is_empty-clause-totals c =
    let m = c.args.keys.now in
    let v = c.value_at_mut.result.now in
    let w = c.take.new.self in
    let it = with_key m.pairs c.args.place v c.value_at_mut.ensures.value in
    let mid = written m c.args.place it.0 v w it.1 c.args.side in
    totals_same c.args.tableau.now mid c.settle.new.keys c.change-2.new.self c.settle.ensures.same
    (totals_written c.args.tableau.now m c.args.place it.0 v w it.1 c.args.side c.args.totals.now c.change.new.self c.change-2.new.self c.value_at.result.now c.value_at-2.result.now c.len-len.ensures.distinct c.requires.totals
    c.value_at.ensures c.change.ensures c.value_at-2.ensures c.change-2.ensures)
