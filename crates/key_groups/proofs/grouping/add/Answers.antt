use Rattle.std.proofs.Common.{ap, ◌∙◌, [], ◌∷◌, ◌++◌}
use Rattle.indexmap.specs.IndexMap.{set_value_at}
use Rattle.key_groups.proofs.Sorting.{on_ok_both}
use Rattle.key_groups.proofs.GroupFacts.{entered}
use Rattle.key_groups.proofs.grouping.add.Goals as goal

pub index_mut-requires : goal.index_mut-requires
index_mut-requires g c =
    let e = c.in_ok-place.ensures in
    (entered g.K.PartialEq.eq c.args.key c.args.item c.args.groups.now.entries c.find_or_begin.new.groups.entries c.in_ok-place.place e.index e.found
    (λ absent. e.begun absent ∙ ap (λ none. c.args.groups.now.entries ++ (c.args.key, none) ∷ []) c.new.ensures)).within

pub returns : goal.returns
returns g c =
    let e = c.in_ok-place.ensures in
    let it =
    entered g.K.PartialEq.eq c.args.key c.args.item c.args.groups.now.entries c.find_or_begin.new.groups.entries c.in_ok-place.place e.index e.found
    (λ absent. e.begun absent ∙ ap (λ none. c.args.groups.now.entries ++ (c.args.key, none) ∷ []) c.new.ensures) in
    on_ok_both c.push.result c.push.ensures.ok
    (λ pushed. ap (set_value_at c.find_or_begin.new.groups.entries c.in_ok-place.place) pushed ∙ it.adds c.index_mut.result.now c.index_mut.ensures.value)
