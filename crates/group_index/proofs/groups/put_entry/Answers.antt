use Rattle.std.proofs.Common.{◌∙◌, ◌||◌, ap, subst, arith}
use Rattle.std.proofs.lemmas.Bool.Decides.{nat_tests}
use Rattle.group_index.specs.declared.totals.Change.{Change}
use Rattle.group_index.specs.GroupSet.{is_entry}
use Rattle.group_index.specs.Groups.{KeyedGroups, is_in}
use Rattle.group_index.proofs.GroupFacts.{key_entered}
use Rattle.group_index.specs.Totals.{AreChangedOrGone}
use Rattle.group_index.proofs.TotalFacts.{followed_new, followed_moved}
use Rattle.group_index.proofs.AnswerFacts.{put_answer}
use Rattle.group_index.proofs.groups.put_entry.Goals as goal

pub returns-then-place-before-clause-totals : goal.returns-then-place-before-clause-totals
returns-then-place-before-clause-totals g c =
    let change : Change = record { a = c.args.a; before = c.nothing.result; after = c.extent_at.result } in
    let x = c.as_slice-then-place-before.result.now in
    let changed = subst (λ rows. AreChangedOrGone rows x change c.args.totals.now.counts c.follow.new.self.counts) c.as_slice.ensures c.follow.ensures in
    followed_moved c.args.rows.now c.enter.new.self.pairs c.settle.new.groups.pairs c.settle.ensures.moved c.follow.new.self.counts
    (followed_new c.args.rows.now change c.args.row c.args.groups.now c.enter.new.self c.args.key c.key_at.result.now c.in_ok-place.place c.in_ok-place.ensures.entered (grind (arith, nat_tests, c.if-place-before.true, c.len-before.ensures.len)) c.key_at.ensures x c.as_slice-then-place-before.ensures
    c.nothing.ensures c.extent_at.ensures c.args.totals.now.counts c.follow.new.self.counts changed c.requires.totals)

pub returns-clause-ok : goal.returns-clause-ok
returns-clause-ok g c =
    let there = key_entered c.args.groups.now c.args.key c.args.a c.args.row c.enter.new.self c.in_ok-place.place c.in_ok-place.ensures.entered
    (λ same. absurd (grind (arith, nat_tests, c.if-place-before.false, c.len-before.ensures.len, same))) in
    put_answer c.put_at.result c.put_at.ensures.ok (λ each e. each c.args.key.items there.0 e ∙ ap (λ (m : KeyedGroups). is_in m.pairs e || is_entry (record { x = c.args.key.items; a = c.args.a; row = c.args.row }) e) there.1)
