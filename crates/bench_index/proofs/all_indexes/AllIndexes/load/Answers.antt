use Rattle.std.proofs.Common.{◌≡◌, ◌+◌, ◌-◌, ◌*◌, ◌≤◌, sym, ap, subst, ◌∙◌}
use Rattle.std.specs.Prelude.{sum_by}
use Rattle.std.specs.FinMap as finite
use Rattle.std.specs.List.{AllZip}
use Rattle.std.specs.Vec.{with_items}
use Rattle.std.proofs.lemmas.List.{with_items_is}
use Rattle.std.proofs.lemmas.List.Elements.{length_all_zip}
use Rattle.std.proofs.lemmas.Result.{on_ok_weaker}
use Rattle.schema_core.specs.Lookups.{master_at}
use Rattle.row_store.specs.Watches.{probes_of}
use Rattle.master_index.specs.Masters.{lists_of}
use Rattle.bench_index.specs.Watching.{group_watch, cind_watch}
use Rattle.bench_index.specs.AllIndexes.{most_probes}
use Rattle.bench_index.specs.Loading.{CanLoad, HasLoaded, LoadedAsMaster}
use Rattle.bench_index.specs.declared.all_indexes.AllIndexes.{AllIndexes}
use Rattle.bench_index.proofs.Widths.{most}
use Rattle.bench_index.proofs.AllSteps.{on_ok_three}
use Rattle.bench_index.proofs.AllLoads.{groups-can_load, cinds-can_load, masters-wide_of_all, all-loaded_in_step}
use Rattle.bench_index.proofs.all_indexes.AllIndexes.load.Goals as goal

pub load-requires-clause-groups : goal.load-requires-clause-groups
load-requires-clause-groups g c =
    let own = finite.get c.args.store.now.rows in
    subst (CanLoad group_watch c.args.table own) (sym c.as_mut_slice-groups.ensures.value)
    (groups-can_load c.args.rules.now c.schema.ensures.valid c.args.table own c.args.self.now c.requires.none c.requires.wide)

pub load-requires-clause-cinds : goal.load-requires-clause-cinds
load-requires-clause-cinds g c =
    let own = finite.get c.args.store.now.rows in
    subst (CanLoad cind_watch c.args.table own) (sym c.as_mut_slice-cinds.ensures.value)
    (cinds-can_load c.args.rules.now c.schema.ensures.valid c.args.table own c.args.self.now c.requires.none c.requires.wide)

pub load-requires-clause-wide : goal.load-requires-clause-wide
load-requires-clause-wide g c = masters-wide_of_all c.args.rules.now c.schema.ensures.valid c.args.table (finite.get c.args.store.now.rows) c.args.self.now c.requires.none c.requires.wide

pub returns-clause-ok : goal.returns-clause-ok
returns-clause-ok g c =
    let table = c.args.table in
    let own = finite.get c.args.store.now.rows in
    let groups_value = c.as_mut_slice-groups.ensures.value in
    let cinds_value = c.as_mut_slice-cinds.ensures.value in
    let marked = c.is_master_table-is_master.ensures ∙ ap (λ s. master_at s table) c.schema.ensures.schema in
    let groups_were = c.args.self.now.index.groups in
    let cinds_were = c.args.self.now.index.cinds in
    let groups_are = c.load.new.groups in
    let cinds_are = c.load.new.cinds in
    let after : AllIndexes = record { index = record { groups = with_items groups_were groups_are; cinds = with_items cinds_were cinds_are }; masters = c.load.new.masters } in
    on_ok_three c.load.result c.load.ensures.groups c.load.ensures.cinds c.load.ensures.masters (λ groups cinds masters.
    let groups_took = subst (λ was. AllZip (HasLoaded group_watch table own) was groups_are) groups_value groups in
    let cinds_took = subst (λ was. AllZip (HasLoaded cind_watch table own) was cinds_are) cinds_value cinds in
    let groups_whole = with_items_is groups_were groups_are (sym (length_all_zip (HasLoaded group_watch table own) groups_were.items groups_are groups_took) ∙ sym groups_were.ok.0) in
    let cinds_whole = with_items_is cinds_were cinds_are (sym (length_all_zip (HasLoaded cind_watch table own) cinds_were.items cinds_are cinds_took) ∙ sym cinds_were.ok.0) in
    all-loaded_in_step c.args.rules.now table own c.args.self.now after
    (subst (AllZip (HasLoaded group_watch table own) groups_were.items) (sym groups_whole) groups_took)
    (subst (AllZip (HasLoaded cind_watch table own) cinds_were.items) (sym cinds_whole) cinds_took)
    (subst (λ is. LoadedAsMaster is table own c.args.self.now.masters c.load.new.masters) marked masters))

pub returns-clause-probes : goal.returns-clause-probes
returns-clause-probes g c =
    let table = c.args.table in
    let have = c.requires.none in
    let groups_value = c.as_mut_slice-groups.ensures.value in
    let cinds_value = c.as_mut_slice-cinds.ensures.value in
    let lists = have.in_step.lists in
    let total : 2 * (sum_by (probes_of group_watch table) c.as_mut_slice-groups.result.now + sum_by (probes_of cind_watch table) c.as_mut_slice-cinds.result.now + lists_of c.args.self.now.masters.lists table) ≡ most_probes c.args.rules.now table =
    (λ i. 2 * (sum_by (probes_of group_watch table) (groups_value i) + sum_by (probes_of cind_watch table) (cinds_value i) + lists_of (lists i) table))
    ∙ most c.args.rules.now have.texts c.args.self.now.index have.in_step.indexes table in
    on_ok_weaker c.load.result (λ bound. subst (λ n. c.load.new.steps ≤ c.args.steps.now + (c.args.store.now.next - 1) * n) total bound) c.load.ensures.probes
