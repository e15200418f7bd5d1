use Rattle.std.proofs.Common.{◌<◌, ◌≤◌, length, sym, ap, ◌∙◌, subst}
use Rattle.std.specs.Prelude.{false, slice_index}
use Rattle.std.specs.Option.{option_map_or}
use Rattle.std.proofs.lemmas.List.Elements.{All-tail}
use Rattle.row_store.specs.Tuple.{ids_at, ids_behind, ids_of}
use Rattle.group_index.specs.GroupSet.{GroupsMade}
use Rattle.group_index.specs.Keys.{gives_alike}
use Rattle.group_index.proofs.WatchFacts.{wide_from, some_group, removed, removed_already}
use Rattle.group_index.proofs.index.GroupIndexWatch.remove.Goals as goal

pub same_entry-requires-clause-wide_one : goal.same_entry-requires-clause-wide_one
same_entry-requires-clause-wide_one g c ids is =
    let made : GroupsMade = record { table = c.self.inside.table; dependency = record { x = c.self.inside.x; a = c.self.inside.a; rows = c.self.inside.tableau } } in
    rw c.as_slice-x.ensures (wide_from made c.self.inside.groups c.args.self.now c.args.table ids c.self.view_is c.if-table-self.false (c.requires.wide_new ids is))

pub same_entry-requires-clause-wide_other : goal.same_entry-requires-clause-wide_other
same_entry-requires-clause-wide_other g c =
    let made : GroupsMade = record { table = c.self.inside.table; dependency = record { x = c.self.inside.x; a = c.self.inside.a; rows = c.self.inside.tableau } } in
    rw c.as_slice-x.ensures (wide_from made c.self.inside.groups c.args.self.now c.args.table (ids_of c.args.old.now) c.self.view_is c.if-table-self.false c.requires.wide_old)

pub returns-then-same_entry-clause-left : goal.returns-then-same_entry-clause-left
returns-then-same_entry-clause-left g c =
    let made : GroupsMade = record { table = c.self.inside.table; dependency = record { x = c.self.inside.x; a = c.self.inside.a; rows = c.self.inside.tableau } } in
    let wide = wide_from made c.self.inside.groups c.args.self.now c.args.table (ids_of c.args.old.now) c.self.view_is c.if-table-self.false c.requires.wide_old in
    removed_already made c.self.inside.groups c.args.self.now c.args.table c.args.row c.self.view_is c.if-table-self.false (ids_of c.args.old.now) (ids_behind c.args.new) wide
    (λ ids is. wide_from made c.self.inside.groups c.args.self.now c.args.table ids c.self.view_is c.if-table-self.false (c.requires.wide_new ids is))
    (ap (λ x. option_map_or (λ own. gives_alike own (ids_of c.args.old.now) x c.self.inside.a) (ids_behind c.args.new) false) (sym c.as_slice-x.ensures) ∙ sym c.same_entry.ensures ∙ c.if-same_entry.true)
    c.requires.present

pub write_key-requires : goal.write_key-requires
write_key-requires g c =
    let made : GroupsMade = record { table = c.self.inside.table; dependency = record { x = c.self.inside.x; a = c.self.inside.a; rows = c.self.inside.tableau } } in
    let wide = wide_from made c.self.inside.groups c.args.self.now c.args.table (ids_of c.args.old.now) c.self.view_is c.if-table-self.false c.requires.wide_old in
    let room = c.self.invariant.room (some_group made c.self.inside.groups c.args.self.now c.args.table c.args.row c.self.view_is c.if-table-self.false (ids_of c.args.old.now) (ids_behind c.args.new) wide c.requires.present) in
    record { room = rw c.as_slice-x.ensures room; wide = rw c.as_slice-x.ensures (All-tail (λ attribute. attribute < length (ids_of c.args.old.now)) c.self.inside.a c.self.inside.x wide) }

pub returns-clause-left : goal.returns-clause-left
returns-clause-left g c =
    let made : GroupsMade = record { table = c.self.inside.table; dependency = record { x = c.self.inside.x; a = c.self.inside.a; rows = c.self.inside.tableau } } in
    let wide = wide_from made c.self.inside.groups c.args.self.now c.args.table (ids_of c.args.old.now) c.self.view_is c.if-table-self.false c.requires.wide_old in
    let key = c.write_key.ensures.ids ∙ ap (ids_at (ids_of c.args.old.now)) c.as_slice-x.ensures in
    let a = ap (λ ids. slice_index ids c.self.inside.a) c.as_slice.ensures.value in
    removed made c.self.inside.groups c.args.self.now c.args.table c.args.row c.self.view_is c.if-table-self.false c.take_entry.new.groups (ids_of c.args.old.now) (ids_behind c.args.new) _ wide
    (λ ids is. wide_from made c.self.inside.groups c.args.self.now c.args.table ids c.self.view_is c.if-table-self.false (c.requires.wide_new ids is))
    (λ i. record { x = key i; a = a i; row = c.args.row })
    (ap (λ x. option_map_or (λ own. gives_alike own (ids_of c.args.old.now) x c.self.inside.a) (ids_behind c.args.new) false) (sym c.as_slice-x.ensures) ∙ sym c.same_entry.ensures ∙ c.if-same_entry.false)
    c.take_entry.ensures.left

pub invariant_of-self : goal.invariant_of-self
invariant_of-self g c =
    let made : GroupsMade = record { table = c.self.inside.table; dependency = record { x = c.self.inside.x; a = c.self.inside.a; rows = c.self.inside.tableau } } in
    let wide = wide_from made c.self.inside.groups c.args.self.now c.args.table (ids_of c.args.old.now) c.self.view_is c.if-table-self.false c.requires.wide_old in
    let room = c.self.invariant.room (some_group made c.self.inside.groups c.args.self.now c.args.table c.args.row c.self.view_is c.if-table-self.false (ids_of c.args.old.now) (ids_behind c.args.new) wide c.requires.present) in
    record {
      marks = c.take_entry.ensures.marks;
      totals = c.take_entry.ensures.totals;
      room = λ _. subst (λ n. length c.self.inside.x ≤ n) (sym c.write_key.ensures.room) room;
    }
