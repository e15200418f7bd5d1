use Rattle.std.proofs.Common.{◌≡◌, ◌<◌, length, get_or, sym, ap, ◌∙◌, subst}
use Rattle.std.specs.Prelude.{slice_index}
use Rattle.std.proofs.lemmas.List.Elements.{All-tail}
use Rattle.row_store.specs.Tuple.{ids_at, ids_of}
use Rattle.group_index.specs.GroupSet.{GroupsMade, GroupSet}
use Rattle.group_index.proofs.PartnerFacts.{partner_of_row}
use Rattle.group_index.proofs.WatchFacts.{wide_from}
use Rattle.group_index.proofs.index.GroupIndex.partner.Goals as goal

pub write_key-requires-clause-wide : goal.write_key-requires-clause-wide
write_key-requires-clause-wide g c =
    let made : GroupsMade = record { table = c.self.inside.table; dependency = record { x = c.self.inside.x; a = c.self.inside.a; rows = c.self.inside.tableau } } in
    let wide = All-tail (λ attribute. attribute < length (ids_of c.args.tuple.now)) c.self.inside.a c.self.inside.x
    (wide_from made c.self.inside.groups c.args.self.now c.args.self.now.made.table (ids_of c.args.tuple.now) c.self.view_is (sym (ap (λ (s : GroupSet). s.made.table) c.self.view_is)) c.requires.wide) in
    rw c.as_slice-x.ensures wide

pub returns-clause-partner : goal.returns-clause-partner
returns-clause-partner g c =
    let made : GroupsMade = record { table = c.self.inside.table; dependency = record { x = c.self.inside.x; a = c.self.inside.a; rows = c.self.inside.tableau } } in
    let ids = ids_of c.args.tuple.now in
    let wide = wide_from made c.self.inside.groups c.args.self.now c.args.self.now.made.table ids c.self.view_is (sym (ap (λ (s : GroupSet). s.made.table) c.self.view_is)) c.requires.wide in
    let key = c.write_key.ensures.ids ∙ ap (ids_at ids) c.as_slice-x.ensures in
    let a = ap (λ xs. slice_index xs c.self.inside.a) c.as_slice-2.ensures.value in
    let row = c.index-as_slice-k.result in
    let at : row ≡ get_or c.self.inside.tableau c.args.k row = c.index-as_slice-k.is ∙ ap (λ rows. get_or rows c.args.k row) c.as_slice.ensures in
    let within : c.args.k < length c.self.inside.tableau = subst (λ (s : GroupSet). c.args.k < length s.made.dependency.rows) (sym c.self.view_is) c.requires.row in
    partner_of_row made c.self.inside.groups c.args.self.now c.args.k c.args.row ids _ _ row c.least_partner.result c.self.view_is wide key a at within c.least_partner.ensures.partner
