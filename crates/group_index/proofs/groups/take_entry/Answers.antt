use Rattle.std.proofs.Common.{◌+◌, ◌≡◌, [], sym, ap, ◌∙◌, subst, arith}
use Rattle.std.specs.Prelude.{sum_by}
use Rattle.std.proofs.lemmas.Option.{same_Some}
use Rattle.group_index.specs.declared.totals.Change.{Change}
use Rattle.group_index.specs.Groups.{KeyedGroup}
use Rattle.group_index.specs.Pairs.{pairs_of, IsTaken}
use Rattle.group_index.specs.Totals.{IsChange, AreChangedOrGone}
use Rattle.group_index.proofs.AnswerFacts.{kept_answer}
use Rattle.group_index.proofs.GroupFacts.{set_value_at, set_here, equal_ids, pair_at, set_as_long, content_taken}
use Rattle.group_index.proofs.MarkFacts.{marked_but_written}
use Rattle.group_index.proofs.RemovedFacts.{content_absent, content_removed, marked_removed, left_was_there}
use Rattle.group_index.proofs.SpreadFacts.{marked_as_before}
use Rattle.group_index.proofs.TotalFacts.{counts_at, followed_set, followed_removed, followed_moved, sum_without, taken_differs, alone_differs}
use Rattle.group_index.proofs.groups.take_entry.Goals as goal

pub remove_at-requires : goal.remove_at-requires
remove_at-requires g c = omega (arith, set_as_long c.args.groups.now.pairs c.in-Some.place c.take.new.self, c.in-Some.ensures.within)

pub extent_at-after-requires : goal.extent_at-after-requires
extent_at-after-requires g c = omega (arith, set_as_long c.args.groups.now.pairs c.in-Some.place c.take.new.self, c.in-Some.ensures.within)

pub settle_again-requires-clause-within : goal.settle_again-requires-clause-within
settle_again-requires-clause-within g c = omega (arith, set_as_long c.args.groups.now.pairs c.in-Some.place c.take.new.self, c.in-Some.ensures.within)

pub settle_again-requires-clause-others : goal.settle_again-requires-clause-others
settle_again-requires-clause-others g c = marked_but_written c.args.rows.now c.args.groups.now c.in-Some.place c.take.new.self c.requires.marks

pub settle_again-requires-clause-mark : goal.settle_again-requires-clause-mark
settle_again-requires-clause-mark g c =
    let has = c.in-Some.ensures.found in
    let v = c.value_at_mut.result.now in
    let at = pair_at c.args.groups.now.pairs c.in-Some.place has.0 v has.1 c.value_at_mut.ensures.value in
    marked_as_before c.args.rows.now c.args.groups.now c.in-Some.place (has.0, v) c.take.new.self c.extent_at-before.result.spread at (let extent = c.extent_at-before.ensures (has.0, v) at in (extent.0.spread, extent.1)) c.requires.marks

pub returns-then-take-clause-marks : goal.returns-then-take-clause-marks
returns-then-take-clause-marks g c =
    let has = c.in-Some.ensures.found in
    let at = pair_at c.args.groups.now.pairs c.in-Some.place has.0 c.value_at_mut.result.now has.1 c.value_at_mut.ensures.value in
    let e = c.remove_at.ensures in
    marked_removed c.args.groups.now c.remove_at.new.self c.in-Some.place has.0 c.value_at_mut.result.now c.take.new.self c.remove_at.result at c.find.ensures.distinct e.taken e.others e.gone c.args.rows.now c.requires.marks

pub returns-then-take-clause-totals : goal.returns-then-take-clause-totals
returns-then-take-clause-totals g c =
    let pairs = c.args.groups.now.pairs in
    let place = c.in-Some.place in
    let has = c.in-Some.ensures.found in
    let v = c.value_at_mut.result.now in
    let w = c.take.new.self in
    let at = pair_at pairs place has.0 v has.1 c.value_at_mut.ensures.value in
    let e = c.remove_at.ensures in
    let change : Change = record { a = c.args.a; before = c.extent_at-before.result; after = c.nothing-after.result } in
    let x = c.as_slice-then-take.result.now in
    let is : IsChange change (pairs_of v) [] = record {
      before = (c.extent_at-before.ensures (has.0, v) at).0;
      after = c.nothing-after.ensures;
      differ = (c.args.row, alone_differs (c.args.a, c.args.row) (pairs_of v) (c.take.ensures.last c.if-take.true));
    } in
    let changed = subst (λ rows. AreChangedOrGone rows x change c.args.totals.now.counts c.follow.new.self.counts) c.as_slice.ensures c.follow.ensures in
    let gone : ◌≡◌ {A = KeyedGroup} c.remove_at.result (has.0, w) = sym (same_Some (has.0, w) c.remove_at.result (sym (set_here pairs place has.0 v w at) ∙ e.taken)) in
    followed_removed c.args.rows.now change pairs place has.0 v w at x (sym (equal_ids c.args.key.now.items has.0.items has.2) ∙ sym c.as_slice-then-take.ensures) c.remove_at.new.self.pairs
    (λ t. ap (λ (h : KeyedGroup). sum_by (counts_at t) c.remove_at.new.self.pairs + counts_at t h) (sym gone)
    ∙ sum_without (counts_at t) (record { pairs = set_value_at pairs place w; marked = c.args.groups.now.marked }) c.remove_at.new.self place c.remove_at.result e.taken (λ low. omega (arith, c.marked-marked.ensures.within, set_as_long pairs place w)) e.unmarked e.marked)
    (left_was_there c.args.groups.now c.remove_at.new.self place has.0 v w c.remove_at.result at c.find.ensures.distinct e.taken e.others e.gone)
    is c.args.totals.now.counts c.follow.new.self.counts changed c.requires.totals

pub returns-then-take-clause-left : goal.returns-then-take-clause-left
returns-then-take-clause-left g c =
    let has = c.in-Some.ensures.found in
    let at = pair_at c.args.groups.now.pairs c.in-Some.place has.0 c.value_at_mut.result.now has.1 c.value_at_mut.ensures.value in
    let e = c.remove_at.ensures in
    content_removed c.args.groups.now c.remove_at.new.self c.in-Some.place has.0 c.value_at_mut.result.now c.take.new.self c.remove_at.result at c.find.ensures.distinct e.taken e.others e.gone
    (record { x = c.args.key.now.items; a = c.args.a; row = c.args.row }) (sym (equal_ids c.args.key.now.items has.0.items has.2)) (c.take.ensures.last c.if-take.true)

pub returns-else-take-clause-totals : goal.returns-else-take-clause-totals
returns-else-take-clause-totals g c =
    let pairs = c.args.groups.now.pairs in
    let place = c.in-Some.place in
    let has = c.in-Some.ensures.found in
    let v = c.value_at_mut.result.now in
    let w = c.take.new.self in
    let at = pair_at pairs place has.0 v has.1 c.value_at_mut.ensures.value in
    let change : Change = record { a = c.args.a; before = c.extent_at-before.result; after = c.extent_at-after.result } in
    let x = c.as_slice-else-take-2.result.now in
    let is : IsChange change (pairs_of v) (pairs_of w) = record {
      before = (c.extent_at-before.ensures (has.0, v) at).0;
      after = (c.extent_at-after.ensures (has.0, w) (set_here pairs place has.0 v w at)).0;
      differ = (c.args.row, taken_differs (c.args.a, c.args.row) (pairs_of v) (pairs_of w) (kept_answer c.take.result (IsTaken (pairs_of v) (pairs_of w) (c.args.a, c.args.row)) c.take.ensures.left c.if-take.false));
    } in
    let changed = subst (λ rows. AreChangedOrGone rows x change c.args.totals.now.counts c.follow-else-take.new.self.counts) c.as_slice-else-take.ensures c.follow-else-take.ensures in
    followed_moved c.args.rows.now (set_value_at pairs place w) c.settle_again.new.groups.pairs c.settle_again.ensures.moved c.follow-else-take.new.self.counts
    (followed_set c.args.rows.now change pairs place has.0 v w at x (sym (equal_ids c.args.key.now.items has.0.items has.2) ∙ sym c.as_slice-else-take-2.ensures) is c.args.totals.now.counts c.follow-else-take.new.self.counts changed c.requires.totals)

pub returns-else-take-clause-left : goal.returns-else-take-clause-left
returns-else-take-clause-left g c e =
    let has = c.in-Some.ensures.found in
    let at = pair_at c.args.groups.now.pairs c.in-Some.place has.0 c.value_at_mut.result.now has.1 c.value_at_mut.ensures.value in
    c.settle_again.ensures.same e
    ∙ content_taken c.args.groups.now c.in-Some.place has.0 c.value_at_mut.result.now c.take.new.self (record { x = c.args.key.now.items; a = c.args.a; row = c.args.row }) at
    (sym (equal_ids c.args.key.now.items has.0.items has.2)) c.find.ensures.distinct (kept_answer c.take.result (IsTaken (pairs_of c.value_at_mut.result.now) (pairs_of c.take.new.self) (c.args.a, c.args.row)) c.take.ensures.left c.if-take.false) e

pub returns-in_default-clause-left : goal.returns-in_default-clause-left
returns-in_default-clause-left g c =
    content_absent c.args.groups.now (record { x = c.args.key.now.items; a = c.args.a; row = c.args.row }) c.args.key.now (λ i. c.args.key.now.items) c.in_default.ensures.absent
