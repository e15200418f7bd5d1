use Rattle.std.proofs.Common.{◌<◌, length, sym, ap, ◌∙◌}
use Rattle.std.specs.Prelude.{false, slice_index}
use Rattle.std.specs.Option.{option_map_or}
use Rattle.std.proofs.lemmas.List.Elements.{All-tail}
use Rattle.row_store.specs.Tuple.{ids_at, ids_behind, ids_of}
use Rattle.group_index.specs.GroupSet.{GroupsMade}
use Rattle.group_index.specs.Keys.{gives_alike}
use Rattle.group_index.proofs.AnswerFacts.{put_answer}
use Rattle.group_index.proofs.WatchFacts.{wide_from, added, added_already}
use Rattle.group_index.proofs.index.GroupIndexWatch.add.Goals as goal

pub same_entry-requires-clause-wide_one : goal.same_entry-requires-clause-wide_one
same_entry-requires-clause-wide_one g c ids is =
    let made : GroupsMade = record { table = c.self.inside.table; dependency = record { x = c.self.inside.x; a = c.self.inside.a; rows = c.self.inside.tableau } } in
    rw c.as_slice-x.ensures (wide_from made c.self.inside.groups c.args.self.now c.args.table ids c.self.view_is c.if-table-self.false (c.requires.wide_old ids is))

pub same_entry-requires-clause-wide_other : goal.same_entry-requires-clause-wide_other
same_entry-requires-clause-wide_other g c =
    let made : GroupsMade = record { table = c.self.inside.table; dependency = record { x = c.self.inside.x; a = c.self.inside.a; rows = c.self.inside.tableau } } in
    rw c.as_slice-x.ensures (wide_from made c.self.inside.groups c.args.self.now c.args.table (ids_of c.args.new.now) c.self.view_is c.if-table-self.false c.requires.wide_new)

pub returns-then-same_entry-clause-ok : goal.returns-then-same_entry-clause-ok
returns-then-same_entry-clause-ok g c =
    let made : GroupsMade = record { table = c.self.inside.table; dependency = record { x = c.self.inside.x; a = c.self.inside.a; rows = c.self.inside.tableau } } in
    let wide = wide_from made c.self.inside.groups c.args.self.now c.args.table (ids_of c.args.new.now) c.self.view_is c.if-table-self.false c.requires.wide_new in
    added_already made c.self.inside.groups c.args.self.now c.args.table c.args.row c.self.view_is c.if-table-self.false (ids_behind c.args.old) (ids_of c.args.new.now)
    (λ ids is. wide_from made c.self.inside.groups c.args.self.now c.args.table ids c.self.view_is c.if-table-self.false (c.requires.wide_old ids is)) wide
    (ap (λ x. option_map_or (λ own. gives_alike own (ids_of c.args.new.now) x c.self.inside.a) (ids_behind c.args.old) false) (sym c.as_slice-x.ensures) ∙ sym c.same_entry.ensures ∙ c.if-same_entry.true)
    c.requires.present

pub write_key-requires-clause-wide : goal.write_key-requires-clause-wide
write_key-requires-clause-wide g c =
    let made : GroupsMade = record { table = c.self.inside.table; dependency = record { x = c.self.inside.x; a = c.self.inside.a; rows = c.self.inside.tableau } } in
    let wide = All-tail (λ attribute. attribute < length (ids_of c.args.new.now)) c.self.inside.a c.self.inside.x (wide_from made c.self.inside.groups c.args.self.now c.args.table (ids_of c.args.new.now) c.self.view_is c.if-table-self.false c.requires.wide_new) in
    rw c.as_slice-x.ensures wide

pub returns-clause-ok : goal.returns-clause-ok
returns-clause-ok g c =
    let made : GroupsMade = record { table = c.self.inside.table; dependency = record { x = c.self.inside.x; a = c.self.inside.a; rows = c.self.inside.tableau } } in
    let wide = wide_from made c.self.inside.groups c.args.self.now c.args.table (ids_of c.args.new.now) c.self.view_is c.if-table-self.false c.requires.wide_new in
    let key = c.write_key.ensures.ids ∙ ap (ids_at (ids_of c.args.new.now)) c.as_slice-x.ensures in
    let a = ap (λ ids. slice_index ids c.self.inside.a) c.as_slice.ensures.value in
    put_answer c.put_entry.result c.put_entry.ensures.ok
    (added made c.self.inside.groups c.args.self.now c.args.table c.args.row c.self.view_is c.if-table-self.false c.put_entry.new.groups (ids_of c.args.new.now) _ wide (λ i. record { x = key i; a = a i; row = c.args.row }))
