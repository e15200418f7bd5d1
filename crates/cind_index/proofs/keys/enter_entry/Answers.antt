use Rattle.std.proofs.Common.{◌≡◌, ◌<◌, sym, ap, subst, refl, ◌∙◌, not, Bool, true, false, [], ◌∷◌, ◌++◌, length, slice_get}
use Rattle.cind_index.specs.RowsHeld.{has, rows_on}
use Rattle.cind_index.specs.Entries.{is_entry}
use Rattle.cind_index.specs.Totals.{AreTotals}
use Rattle.cind_index.specs.KeysHeld.{KeyedRows, HoldTheSame, HoldsMore, KeepsKeys, AreMarkedRightBut}
use Rattle.cind_index.proofs.PairFacts.{MarksRight, push_last, push_but, set_but, set_right, set_here, set_length}
use Rattle.cind_index.proofs.RowFacts.{same_sides_dirty}
use Rattle.cind_index.proofs.TotalFacts.{totals_pushed, totals_written}
use Rattle.cind_index.proofs.KeyFacts.{entered_new, entered_there, put_new, entry_new, put_there, entry_there, same_there, same_keys, written, pushed, has_key_at, dirty_pair, to_right, from_right, from_but, err_of}
use Rattle.cind_index.proofs.keys.enter_entry.Goals as goal

pub returns-then-place-before-clause-ok : goal.returns-then-place-before-clause-ok
returns-then-place-before-clause-ok g c =
    let old = c.args.keys.now in
    let it = entered_new old c.enter.new.self c.args.key c.in_ok-fresh.fresh c.in_ok-place.place c.in_ok-place.ensures.entered (c.if-place-before.true ∙ c.len-before.ensures.len) in
    subst (λ m. HoldsMore c.args.side (is_entry c.args.key.items c.args.pattern.now c.args.row) old m) (sym it.1)
    (put_new old c.args.key c.in_ok-fresh.fresh c.args.side c.args.pattern.now c.args.row c.in_ok-fresh.ensures.here c.in_ok-fresh.ensures.beside)

pub returns-then-place-before-clause-key : goal.returns-then-place-before-clause-key
returns-then-place-before-clause-key g c =
    let old = c.args.keys.now in
    let last = c.if-place-before.true ∙ c.len-before.ensures.len in
    let it = entered_new old c.enter.new.self c.args.key c.in_ok-fresh.fresh c.in_ok-place.place c.in_ok-place.ensures.entered last in
    has_key_at c.enter.new.self c.in_ok-place.place c.args.key c.in_ok-fresh.fresh c.args.key.items
    (ap (λ (m : KeyedRows). slice_get m.pairs c.in_ok-place.place) it.1 ∙ ap (slice_get (old.pairs ++ (c.args.key, c.in_ok-fresh.fresh) ∷ [])) last ∙ push_last old.pairs (c.args.key, c.in_ok-fresh.fresh)) refl

pub returns-then-place-before-clause-new : goal.returns-then-place-before-clause-new
returns-then-place-before-clause-new g c =
    let old = c.args.keys.now in
    let it = entered_new old c.enter.new.self c.args.key c.in_ok-fresh.fresh c.in_ok-place.place c.in_ok-place.ensures.entered (c.if-place-before.true ∙ c.len-before.ensures.len) in
    entry_new old c.args.key c.in_ok-fresh.fresh c.args.side c.args.pattern.now c.args.row it.0

pub returns-then-place-before-clause-others : goal.returns-then-place-before-clause-others
returns-then-place-before-clause-others g c tableau right =
    let old = c.args.keys.now in
    let last = c.if-place-before.true ∙ c.len-before.ensures.len in
    let it = entered_new old c.enter.new.self c.args.key c.in_ok-fresh.fresh c.in_ok-place.place c.in_ok-place.ensures.entered last in
    subst (λ m. AreMarkedRightBut c.in_ok-place.place tableau m) (sym it.1)
    (subst (λ n. AreMarkedRightBut n tableau (pushed old c.args.key c.in_ok-fresh.fresh c.args.side)) (sym last)
    (from_but tableau (length old.pairs) (pushed old c.args.key c.in_ok-fresh.fresh c.args.side) (push_but (dirty_pair tableau) old (c.args.key, c.in_ok-fresh.fresh) (to_right tableau old right))))

pub returns-in_err-new-clause-err : goal.returns-in_err-new-clause-err
returns-in_err-new-clause-err g c =
    let old = c.args.keys.now in
    let new = c.enter.new.self in
    let place = c.in_ok-place.place in
    let v = c.value_at_mut.result.now in
    let it = entered_there old new c.args.key c.in_ok-fresh.fresh place v c.in_ok-place.ensures.entered (λ last. c.if-place-before.false (last ∙ sym c.len-before.ensures.len)) c.value_at_mut.ensures.value in
    let at = ap (λ (m : KeyedRows). slice_get m.pairs place) (sym it.same) ∙ it.at in
    err_of c.from_residual-in_err-new.result (subst (λ m. HoldTheSame m (written new place it.k v c.put-added.new.self at c.args.side)) (sym it.same) (same_there new place it.k v c.put-added.new.self at c.args.side c.in_err-new.ensures.err))

pub returns-in_err-new-clause-places : goal.returns-in_err-new-clause-places
returns-in_err-new-clause-places g c =
    let old = c.args.keys.now in
    let new = c.enter.new.self in
    let place = c.in_ok-place.place in
    let v = c.value_at_mut.result.now in
    let it = entered_there old new c.args.key c.in_ok-fresh.fresh place v c.in_ok-place.ensures.entered (λ last. c.if-place-before.false (last ∙ sym c.len-before.ensures.len)) c.value_at_mut.ensures.value in
    let at = ap (λ (m : KeyedRows). slice_get m.pairs place) (sym it.same) ∙ it.at in
    err_of c.from_residual-in_err-new.result (subst (λ m. KeepsKeys m (written new place it.k v c.put-added.new.self at c.args.side)) (sym it.same) (same_keys new place it.k v c.put-added.new.self at c.args.side))

pub returns-in_err-new-clause-marks : goal.returns-in_err-new-clause-marks
returns-in_err-new-clause-marks g c =
    let old = c.args.keys.now in
    let new = c.enter.new.self in
    let place = c.in_ok-place.place in
    let v = c.value_at_mut.result.now in
    let it = entered_there old new c.args.key c.in_ok-fresh.fresh place v c.in_ok-place.ensures.entered (λ last. c.if-place-before.false (last ∙ sym c.len-before.ensures.len)) c.value_at_mut.ensures.value in
    let at = ap (λ (m : KeyedRows). slice_get m.pairs place) (sym it.same) ∙ it.at in
    err_of c.from_residual-in_err-new.result (λ tableau right.
    from_right tableau (written new place it.k v c.put-added.new.self at c.args.side)
    (set_right (dirty_pair tableau) new place it.k v c.put-added.new.self at (same_sides_dirty tableau c.args.side v c.put-added.new.self c.in_err-new.ensures.err) (subst (λ m. MarksRight (dirty_pair tableau) m) it.same (to_right tableau old right))))

pub returns-clause-ok : goal.returns-clause-ok
returns-clause-ok g c =
    let old = c.args.keys.now in
    let new = c.enter.new.self in
    let place = c.in_ok-place.place in
    let v = c.value_at_mut.result.now in
    let it = entered_there old new c.args.key c.in_ok-fresh.fresh place v c.in_ok-place.ensures.entered (λ last. c.if-place-before.false (last ∙ sym c.len-before.ensures.len)) c.value_at_mut.ensures.value in
    let at = ap (λ (m : KeyedRows). slice_get m.pairs place) (sym it.same) ∙ it.at in
    subst (λ m. HoldsMore c.args.side (is_entry c.args.key.items c.args.pattern.now c.args.row) m (written new place it.k v c.put-added.new.self at c.args.side)) (sym it.same)
    (put_there new place it.k v c.put-added.new.self at c.args.side c.args.key.items c.args.pattern.now c.args.row it.is c.in_ok-new.ensures.ok)

pub returns-clause-key : goal.returns-clause-key
returns-clause-key g c =
    let old = c.args.keys.now in
    let new = c.enter.new.self in
    let place = c.in_ok-place.place in
    let v = c.value_at_mut.result.now in
    let it = entered_there old new c.args.key c.in_ok-fresh.fresh place v c.in_ok-place.ensures.entered (λ last. c.if-place-before.false (last ∙ sym c.len-before.ensures.len)) c.value_at_mut.ensures.value in
    let at = ap (λ (m : KeyedRows). slice_get m.pairs place) (sym it.same) ∙ it.at in
    has_key_at (written new place it.k v c.put-added.new.self at c.args.side) place it.k c.put-added.new.self c.args.key.items (set_here new.pairs place it.k v c.put-added.new.self at) it.is

pub returns-clause-new : goal.returns-clause-new
returns-clause-new g c =
    let old = c.args.keys.now in
    let new = c.enter.new.self in
    let place = c.in_ok-place.place in
    let v = c.value_at_mut.result.now in
    let it = entered_there old new c.args.key c.in_ok-fresh.fresh place v c.in_ok-place.ensures.entered (λ last. c.if-place-before.false (last ∙ sym c.len-before.ensures.len)) c.value_at_mut.ensures.value in
    entry_there old place it.k v c.put-added.new.self it.at c.args.side c.args.key.items c.args.pattern.now c.args.row c.len-before.ensures.distinct it.is ∙ not_not (has (rows_on v c.args.side) c.args.pattern.now c.args.row) ∙ ap not (sym c.in_ok-new.ensures.new)
  where
    not_not : (b : Bool) → b ≡ not (not b)
    not_not true = refl
    not_not false = refl

pub returns-clause-others : goal.returns-clause-others
returns-clause-others g c tableau right =
    let old = c.args.keys.now in
    let new = c.enter.new.self in
    let place = c.in_ok-place.place in
    let v = c.value_at_mut.result.now in
    let it = entered_there old new c.args.key c.in_ok-fresh.fresh place v c.in_ok-place.ensures.entered (λ last. c.if-place-before.false (last ∙ sym c.len-before.ensures.len)) c.value_at_mut.ensures.value in
    let at = ap (λ (m : KeyedRows). slice_get m.pairs place) (sym it.same) ∙ it.at in
    from_but tableau place (written new place it.k v c.put-added.new.self at c.args.side)
    (set_but (dirty_pair tableau) new place it.k v c.put-added.new.self at (subst (λ m. MarksRight (dirty_pair tableau) m) it.same (to_right tableau old right)))

pub value_at-requires-3 : goal.value_at-requires-3
value_at-requires-3 g c = subst (λ n. c.in_ok-place.place < n) (sym (set_length c.enter.new.self.pairs c.in_ok-place.place c.put-added.new.self)) c.in_ok-place.ensures.within

pub returns-then-place-before-clause-totals : goal.returns-then-place-before-clause-totals
returns-then-place-before-clause-totals g c =
    let old = c.args.keys.now in
    let last = c.if-place-before.true ∙ c.len-before.ensures.len in
    let it = entered_new old c.enter.new.self c.args.key c.in_ok-fresh.fresh c.in_ok-place.place c.in_ok-place.ensures.entered last in
    totals_pushed c.args.tableau.now old c.enter.new.self c.in_ok-place.place c.args.key c.in_ok-fresh.fresh c.args.totals.now c.change.new.self c.value_at.result.now it.0 last it.1 c.requires c.value_at.ensures c.change.ensures

pub returns-in_err-new-clause-totals : goal.returns-in_err-new-clause-totals
returns-in_err-new-clause-totals g c =
    let old = c.args.keys.now in
    let new = c.enter.new.self in
    let place = c.in_ok-place.place in
    let v = c.value_at_mut.result.now in
    let it = entered_there old new c.args.key c.in_ok-fresh.fresh place v c.in_ok-place.ensures.entered (λ last. c.if-place-before.false (last ∙ sym c.len-before.ensures.len)) c.value_at_mut.ensures.value in
    let at = ap (λ (m : KeyedRows). slice_get m.pairs place) (sym it.same) ∙ it.at in
    totals_written c.args.tableau.now new place it.k v c.put-added.new.self at c.args.side c.args.totals.now c.change-2.new.self c.change-3.new.self c.value_at-2.result.now c.value_at-3.result.now c.in_ok-place.ensures.distinct
    (subst (λ m. AreTotals c.args.tableau.now m c.args.totals.now) it.same c.requires) c.value_at-2.ensures c.change-2.ensures c.value_at-3.ensures c.change-3.ensures

pub returns-clause-totals : goal.returns-clause-totals
returns-clause-totals g c =
    let old = c.args.keys.now in
    let new = c.enter.new.self in
    let place = c.in_ok-place.place in
    let v = c.value_at_mut.result.now in
    let it = entered_there old new c.args.key c.in_ok-fresh.fresh place v c.in_ok-place.ensures.entered (λ last. c.if-place-before.false (last ∙ sym c.len-before.ensures.len)) c.value_at_mut.ensures.value in
    let at = ap (λ (m : KeyedRows). slice_get m.pairs place) (sym it.same) ∙ it.at in
    totals_written c.args.tableau.now new place it.k v c.put-added.new.self at c.args.side c.args.totals.now c.change-2.new.self c.change-3.new.self c.value_at-2.result.now c.value_at-3.result.now c.in_ok-place.ensures.distinct
    (subst (λ m. AreTotals c.args.tableau.now m c.args.totals.now) it.same c.requires) c.value_at-2.ensures c.change-2.ensures c.value_at-3.ensures c.change-3.ensures
