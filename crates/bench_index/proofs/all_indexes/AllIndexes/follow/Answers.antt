use Rattle.std.proofs.Common.{◌≡◌, ◌+◌, ◌*◌, ◌≤◌, sym, ap, subst, ◌∙◌}
use Rattle.std.specs.Prelude.{sum_by}
use Rattle.std.specs.Vec.{with_items}
use Rattle.std.proofs.lemmas.List.{with_items_is}
use Rattle.std.proofs.lemmas.List.Elements.{length_all_zip}
use Rattle.schema_core.specs.Lookups.{master_at}
use Rattle.row_store.specs.Tuple.{ids_behind}
use Rattle.row_store.specs.Watches.{probes_of}
use Rattle.master_index.specs.Masters.{lists_of}
use Rattle.bench_index.specs.InStep.{AreMadeAlike, CanFollow, Follow}
use Rattle.bench_index.specs.Watching.{group_watch, cind_watch}
use Rattle.bench_index.specs.AllIndexes.{FollowAsMaster, most_probes}
use Rattle.bench_index.specs.declared.all_indexes.AllIndexes.{AllIndexes}
use Rattle.bench_index.proofs.Widths.{most}
use Rattle.bench_index.proofs.AllSteps.{groups-can_follow, cinds-can_follow, masters-wide, all-followed, on_ok_three}
use Rattle.bench_index.proofs.all_indexes.AllIndexes.follow.Goals as goal

pub follow_with_masters-requires-clause-groups : goal.follow_with_masters-requires-clause-groups
follow_with_masters-requires-clause-groups g c =
    subst (CanFollow group_watch c.args.table c.args.row (ids_behind c.args.old) (ids_behind c.args.new)) (sym c.as_mut_slice-groups.ensures.value)
    (groups-can_follow c.args.rules.now c.schema.ensures.valid c.args.table c.args.row (ids_behind c.args.old) (ids_behind c.args.new) c.args.self.now c.requires.there c.requires.wide_old c.requires.wide_new)

pub follow_with_masters-requires-clause-cinds : goal.follow_with_masters-requires-clause-cinds
follow_with_masters-requires-clause-cinds g c =
    subst (CanFollow cind_watch c.args.table c.args.row (ids_behind c.args.old) (ids_behind c.args.new)) (sym c.as_mut_slice-cinds.ensures.value)
    (cinds-can_follow c.args.rules.now c.schema.ensures.valid c.args.table c.args.row (ids_behind c.args.old) (ids_behind c.args.new) c.args.self.now c.requires.there c.requires.wide_old c.requires.wide_new)

pub follow_with_masters-requires-clause-wide : goal.follow_with_masters-requires-clause-wide
follow_with_masters-requires-clause-wide g c =
    masters-wide c.args.rules.now c.schema.ensures.valid c.args.table c.args.row (ids_behind c.args.old) (ids_behind c.args.new) c.args.self.now c.requires.there c.requires.wide_old c.requires.wide_new

pub returns-clause-ok : goal.returns-clause-ok
returns-clause-ok g c =
    let table = c.args.table in
    let row = c.args.row in
    let old = ids_behind c.args.old in
    let new = ids_behind c.args.new in
    let groups_value = c.as_mut_slice-groups.ensures.value in
    let cinds_value = c.as_mut_slice-cinds.ensures.value in
    let marked = c.is_master_table-is_master.ensures ∙ ap (λ s. master_at s table) c.schema.ensures.schema in
    let groups_were = c.args.self.now.index.groups in
    let cinds_were = c.args.self.now.index.cinds in
    let groups_are = c.follow_with_masters.new.groups in
    let cinds_are = c.follow_with_masters.new.cinds in
    let after : AllIndexes = record { index = record { groups = with_items groups_were groups_are; cinds = with_items cinds_were cinds_are }; masters = c.follow_with_masters.new.masters } in
    let groups_made = subst (λ was. AreMadeAlike group_watch was groups_are) groups_value c.follow_with_masters.ensures.made.0 in
    let cinds_made = subst (λ was. AreMadeAlike cind_watch was cinds_are) cinds_value c.follow_with_masters.ensures.made.1 in
    let groups_whole = with_items_is groups_were groups_are (sym (length_all_zip (λ b a. group_watch.made a ≡ group_watch.made b) groups_were.items groups_are groups_made) ∙ sym groups_were.ok.0) in
    let cinds_whole = with_items_is cinds_were cinds_are (sym (length_all_zip (λ b a. cind_watch.made a ≡ cind_watch.made b) cinds_were.items cinds_are cinds_made) ∙ sym cinds_were.ok.0) in
    on_ok_three c.follow_with_masters.result c.follow_with_masters.ensures.groups c.follow_with_masters.ensures.cinds c.follow_with_masters.ensures.masters (λ groups cinds masters.
    all-followed c.args.rules.now table row old new c.args.self.now after
    (subst (Follow group_watch table row old new groups_were.items) (sym groups_whole) (subst (λ was. Follow group_watch table row old new was groups_are) groups_value groups))
    (subst (Follow cind_watch table row old new cinds_were.items) (sym cinds_whole) (subst (λ was. Follow cind_watch table row old new was cinds_are) cinds_value cinds))
    (subst (λ is. FollowAsMaster is table row new c.args.self.now.masters c.follow_with_masters.new.masters) marked masters)
    (subst (AreMadeAlike group_watch groups_were.items) (sym groups_whole) groups_made)
    (subst (AreMadeAlike cind_watch cinds_were.items) (sym cinds_whole) cinds_made))

pub returns-clause-probes : goal.returns-clause-probes
returns-clause-probes g c =
    let table = c.args.table in
    let have = c.requires.there in
    let groups_value = c.as_mut_slice-groups.ensures.value in
    let cinds_value = c.as_mut_slice-cinds.ensures.value in
    let lists = have.in_step.lists in
    let total : 2 * (sum_by (probes_of group_watch table) c.as_mut_slice-groups.result.now + sum_by (probes_of cind_watch table) c.as_mut_slice-cinds.result.now + lists_of c.args.self.now.masters.lists table) ≡ most_probes c.args.rules.now table =
    (λ i. 2 * (sum_by (probes_of group_watch table) (groups_value i) + sum_by (probes_of cind_watch table) (cinds_value i) + lists_of (lists i) table))
    ∙ most c.args.rules.now have.texts c.args.self.now.index have.in_step.indexes table in
    subst (λ n. c.follow_with_masters.new.steps ≤ c.args.steps.now + n) total c.follow_with_masters.ensures.probes
