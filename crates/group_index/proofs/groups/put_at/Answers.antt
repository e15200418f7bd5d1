use Rattle.std.proofs.Common.{◌≡◌, sym, ap, ◌∙◌, subst, arith}
use Rattle.std.proofs.lemmas.Option.{same_Some}
use Rattle.smallvec.specs.SmallVec.{SmallVec}
use Rattle.group_index.specs.declared.totals.Change.{Change}
use Rattle.group_index.specs.Pairs.{pairs_of}
use Rattle.group_index.specs.Totals.{IsChange, AreChangedOrGone}
use Rattle.group_index.proofs.GroupFacts.{set_value_at, set_here, set_as_long, key_at, value_stands, content_put, content_same, key_from}
use Rattle.group_index.proofs.MarkFacts.{marked_but_written}
use Rattle.group_index.proofs.SpreadFacts.{marked_as_before}
use Rattle.group_index.proofs.TotalFacts.{followed_set, followed_moved, put_differs}
use Rattle.group_index.proofs.AnswerFacts.{put_answer, refused_answer}
use Rattle.group_index.proofs.groups.put_at.Goals as goal

pub extent_at-after-requires : goal.extent_at-after-requires
extent_at-after-requires c = omega (arith, set_as_long c.args.groups.now.pairs c.args.place c.put-put.new.self, c.requires.within)

pub key_at-requires : goal.key_at-requires
key_at-requires c = omega (arith, set_as_long c.args.groups.now.pairs c.args.place c.put-put.new.self, c.requires.within)

pub settle_again-requires-clause-within : goal.settle_again-requires-clause-within
settle_again-requires-clause-within c = omega (arith, set_as_long c.args.groups.now.pairs c.args.place c.put-put.new.self, c.requires.within)

pub settle_again-requires-clause-others : goal.settle_again-requires-clause-others
settle_again-requires-clause-others c = marked_but_written c.args.rows.now c.args.groups.now c.args.place c.put-put.new.self c.requires.marks

pub settle_again-requires-clause-mark : goal.settle_again-requires-clause-mark
settle_again-requires-clause-mark c =
    let at = value_stands c.args.groups.now.pairs c.args.place c.value_at_mut.result.now c.value_at_mut.ensures.value in
    marked_as_before c.args.rows.now c.args.groups.now c.args.place (at.0, c.value_at_mut.result.now) c.put-put.new.self c.extent_at-before.result.spread at.1 (let extent = c.extent_at-before.ensures (at.0, c.value_at_mut.result.now) at.1 in (extent.0.spread, extent.1)) c.requires.marks

pub returns-clause-totals : goal.returns-clause-totals
returns-clause-totals c =
    let pairs = c.args.groups.now.pairs in
    let at = value_stands pairs c.args.place c.value_at_mut.result.now c.value_at_mut.ensures.value in
    let now = set_here pairs c.args.place at.0 c.value_at_mut.result.now c.put-put.new.self at.1 in
    let key : at.0 ≡ c.key_at.result.now = same_Some at.0 c.key_at.result.now (sym (key_at (set_value_at pairs c.args.place c.put-put.new.self) c.args.place (at.0, c.put-put.new.self) now) ∙ c.key_at.ensures) in
    let own = ap (λ (k : SmallVec _). k.items) key ∙ sym c.as_slice-2.ensures in
    let change : Change = record { a = c.args.a; before = c.extent_at-before.result; after = c.extent_at-after.result } in
    let is : IsChange change (pairs_of c.value_at_mut.result.now) (pairs_of c.put-put.new.self) = record {
      before = (c.extent_at-before.ensures (at.0, c.value_at_mut.result.now) at.1).0;
      after = (c.extent_at-after.ensures (at.0, c.put-put.new.self) now).0;
      differ = (c.args.row, put_differs c.put-put.result (c.args.a, c.args.row) (pairs_of c.value_at_mut.result.now) (pairs_of c.put-put.new.self) c.put-put.ensures.ok c.put-put.ensures.err);
    } in
    let changed = subst (λ rows. AreChangedOrGone rows c.as_slice-2.result.now change c.args.totals.now.counts c.follow.new.self.counts) c.as_slice.ensures c.follow.ensures in
    followed_moved c.args.rows.now (set_value_at pairs c.args.place c.put-put.new.self) c.settle_again.new.groups.pairs c.settle_again.ensures.moved c.follow.new.self.counts
    (followed_set c.args.rows.now change pairs c.args.place at.0 c.value_at_mut.result.now c.put-put.new.self at.1 c.as_slice-2.result.now own is c.args.totals.now.counts c.follow.new.self.counts changed c.requires.totals)

pub returns-clause-ok : goal.returns-clause-ok
returns-clause-ok c =
    let at = value_stands c.args.groups.now.pairs c.args.place c.value_at_mut.result.now c.value_at_mut.ensures.value in
    put_answer c.put-put.result c.put-put.ensures.ok
    (λ put x has e. c.settle_again.ensures.same e ∙ content_put c.args.groups.now.pairs c.args.place at.0 c.value_at_mut.result.now c.put-put.new.self (record { x = x; a = c.args.a; row = c.args.row }) at.1
    (key_from c.args.groups.now c.args.place x (at.0, c.value_at_mut.result.now) has at.1) put e)

pub returns-clause-err : goal.returns-clause-err
returns-clause-err c =
    let at = value_stands c.args.groups.now.pairs c.args.place c.value_at_mut.result.now c.value_at_mut.ensures.value in
    refused_answer c.put-put.result c.put-put.ensures.err
    (λ have e. c.settle_again.ensures.same e ∙ content_same c.args.groups.now.pairs c.args.place at.0 c.value_at_mut.result.now c.put-put.new.self (record { x = at.0.items; a = c.args.a; row = c.args.row }) at.1 (λ i. at.0.items) have e)
