use Rattle.std.proofs.Common.{◌≡◌, Some, None, refl, ap, subst, arith}
use Rattle.std.specs.Prelude.{All}
use Rattle.row_store.specs.Tuple.{ids_of, ids_behind}
use Rattle.row_store.specs.Watches.{HoldsOfRow}
use Rattle.bench_index.proofs.WatchSteps.{made-same, made-added, made-changed, wide_after, probes_after, both_after, changed_after, same_after, follow_gain, follow_change}
use Rattle.bench_index.proofs.all_indexes.put.Goals as goal

pub returns-in_err-gain-clause-made : goal.returns-in_err-gain-clause-made
returns-in_err-gain-clause-made g c = (made-same g.G.Watch c.args.groups.now c.gain.new.groups c.in_err-gain.ensures.refused.0, made-same g.C.Watch c.args.cinds.now c.gain.new.cinds c.in_err-gain.ensures.refused.1)

pub lose-requires-clause-groups : goal.lose-requires-clause-groups
lose-requires-clause-groups g c =
    both_after g.G.Watch c.args.table c.args.row c.args.groups.now c.gain.new.groups (ids_behind c.args.old) (ids_of c.args.new.now) c.requires.groups.present c.in_ok-gain.ensures.groups

pub lose-requires-clause-cinds : goal.lose-requires-clause-cinds
lose-requires-clause-cinds g c =
    both_after g.C.Watch c.args.table c.args.row c.args.cinds.now c.gain.new.cinds (ids_behind c.args.old) (ids_of c.args.new.now) c.requires.cinds.present c.in_ok-gain.ensures.cinds

pub lose-requires-clause-wide_old : goal.lose-requires-clause-wide_old
lose-requires-clause-wide_old g c =
    let new = ids_of c.args.new.now in (
      wide_after g.G.Watch c.args.table c.args.groups.now c.gain.new.groups (made-added g.G.Watch c.args.table c.args.row c.args.groups.now c.gain.new.groups new c.in_ok-gain.ensures.groups) new (c.requires.groups.wide_new new refl),
      wide_after g.C.Watch c.args.table c.args.cinds.now c.gain.new.cinds (made-added g.C.Watch c.args.table c.args.row c.args.cinds.now c.gain.new.cinds new c.in_ok-gain.ensures.cinds) new (c.requires.cinds.wide_new new refl),
    )

pub lose-requires-clause-wide_new : goal.lose-requires-clause-wide_new
lose-requires-clause-wide_new g c ids is =
    let new = ids_of c.args.new.now in (
      wide_after g.G.Watch c.args.table c.args.groups.now c.gain.new.groups (made-added g.G.Watch c.args.table c.args.row c.args.groups.now c.gain.new.groups new c.in_ok-gain.ensures.groups) ids (c.requires.groups.wide_old ids is),
      wide_after g.C.Watch c.args.table c.args.cinds.now c.gain.new.cinds (made-added g.C.Watch c.args.table c.args.row c.args.cinds.now c.gain.new.cinds new c.in_ok-gain.ensures.cinds) ids (c.requires.cinds.wide_old ids is),
    )

pub returns-in-Err-clause-refused : goal.returns-in-Err-clause-refused
returns-in-Err-clause-refused g c =
    let old = ids_behind c.args.old in
    let new = ids_of c.args.new.now in (
      same_after g.G.Watch c.args.table c.args.row g.met.G.Watch.names_row c.args.groups.now c.gain.new.groups c.lose.new.groups old new c.requires.groups.present c.in_ok-gain.ensures.groups c.lose.ensures.groups,
      same_after g.C.Watch c.args.table c.args.row g.met.C.Watch.names_row c.args.cinds.now c.gain.new.cinds c.lose.new.cinds old new c.requires.cinds.present c.in_ok-gain.ensures.cinds c.lose.ensures.cinds,
      c.in-Err.ensures.err,
    )

pub returns-in-Err-clause-made : goal.returns-in-Err-clause-made
returns-in-Err-clause-made g c =
    let old = ids_behind c.args.old in
    let new = ids_of c.args.new.now in (
      made-changed g.G.Watch c.args.table c.args.row c.args.groups.now c.gain.new.groups c.lose.new.groups new new old c.in_ok-gain.ensures.groups c.lose.ensures.groups,
      made-changed g.C.Watch c.args.table c.args.row c.args.cinds.now c.gain.new.cinds c.lose.new.cinds new new old c.in_ok-gain.ensures.cinds c.lose.ensures.cinds,
    )

pub returns-in-Err-clause-probes : goal.returns-in-Err-clause-probes
returns-in-Err-clause-probes g c =
    let new = ids_of c.args.new.now in
    let groups = probes_after g.G.Watch c.args.table c.args.groups.now c.gain.new.groups (made-added g.G.Watch c.args.table c.args.row c.args.groups.now c.gain.new.groups new c.in_ok-gain.ensures.groups) in
    let cinds = probes_after g.C.Watch c.args.table c.args.cinds.now c.gain.new.cinds (made-added g.C.Watch c.args.table c.args.row c.args.cinds.now c.gain.new.cinds new c.in_ok-gain.ensures.cinds) in
    omega (arith, groups, cinds, c.in_ok-gain.ensures.probes, c.follow_as_master.ensures.probes, c.lose.ensures.probes)

pub lose-requires-in-Some-clause-groups : goal.lose-requires-in-Some-clause-groups
lose-requires-in-Some-clause-groups g c =
    let old = ids_of c.in-Some.old.now in
    let is_old : ids_behind c.args.old ≡ Some old = ap ids_behind c.in-Some.is in
    let present = subst (λ o. All (HoldsOfRow g.G.Watch c.args.table c.args.row o) c.args.groups.now) is_old c.requires.groups.present in
    changed_after g.G.Watch c.args.table c.args.row c.args.groups.now c.gain.new.groups old (ids_of c.args.new.now) present c.in_ok-gain.ensures.groups

pub lose-requires-in-Some-clause-cinds : goal.lose-requires-in-Some-clause-cinds
lose-requires-in-Some-clause-cinds g c =
    let old = ids_of c.in-Some.old.now in
    let is_old : ids_behind c.args.old ≡ Some old = ap ids_behind c.in-Some.is in
    let present = subst (λ o. All (HoldsOfRow g.C.Watch c.args.table c.args.row o) c.args.cinds.now) is_old c.requires.cinds.present in
    changed_after g.C.Watch c.args.table c.args.row c.args.cinds.now c.gain.new.cinds old (ids_of c.args.new.now) present c.in_ok-gain.ensures.cinds

pub lose-requires-in-Some-clause-wide_old : goal.lose-requires-in-Some-clause-wide_old
lose-requires-in-Some-clause-wide_old g c =
    let old = ids_of c.in-Some.old.now in
    let new = ids_of c.args.new.now in
    let is_old : ids_behind c.args.old ≡ Some old = ap ids_behind c.in-Some.is in (
      wide_after g.G.Watch c.args.table c.args.groups.now c.gain.new.groups (made-added g.G.Watch c.args.table c.args.row c.args.groups.now c.gain.new.groups new c.in_ok-gain.ensures.groups) old (c.requires.groups.wide_old old is_old),
      wide_after g.C.Watch c.args.table c.args.cinds.now c.gain.new.cinds (made-added g.C.Watch c.args.table c.args.row c.args.cinds.now c.gain.new.cinds new c.in_ok-gain.ensures.cinds) old (c.requires.cinds.wide_old old is_old),
    )

pub lose-requires-in-Some-clause-wide_new : goal.lose-requires-in-Some-clause-wide_new
lose-requires-in-Some-clause-wide_new g c ids is =
    let new = ids_of c.args.new.now in (
      wide_after g.G.Watch c.args.table c.args.groups.now c.gain.new.groups (made-added g.G.Watch c.args.table c.args.row c.args.groups.now c.gain.new.groups new c.in_ok-gain.ensures.groups) ids (c.requires.groups.wide_new ids is),
      wide_after g.C.Watch c.args.table c.args.cinds.now c.gain.new.cinds (made-added g.C.Watch c.args.table c.args.row c.args.cinds.now c.gain.new.cinds new c.in_ok-gain.ensures.cinds) ids (c.requires.cinds.wide_new ids is),
    )

pub returns-in-Some-clause-groups : goal.returns-in-Some-clause-groups
returns-in-Some-clause-groups g c =
    let old = ids_of c.in-Some.old.now in
    let is_old : ids_behind c.args.old ≡ Some old = ap ids_behind c.in-Some.is in
    rw is_old (follow_change g.G.Watch c.args.table c.args.row g.met.G.Watch.names_row c.args.groups.now c.gain.new.groups c.lose-in-Some.new.groups old (ids_of c.args.new.now) c.in_ok-gain.ensures.groups c.lose-in-Some.ensures.groups)

pub returns-in-Some-clause-cinds : goal.returns-in-Some-clause-cinds
returns-in-Some-clause-cinds g c =
    let old = ids_of c.in-Some.old.now in
    let is_old : ids_behind c.args.old ≡ Some old = ap ids_behind c.in-Some.is in
    rw is_old (follow_change g.C.Watch c.args.table c.args.row g.met.C.Watch.names_row c.args.cinds.now c.gain.new.cinds c.lose-in-Some.new.cinds old (ids_of c.args.new.now) c.in_ok-gain.ensures.cinds c.lose-in-Some.ensures.cinds)

pub returns-in-Some-clause-made : goal.returns-in-Some-clause-made
returns-in-Some-clause-made g c =
    let old = ids_of c.in-Some.old.now in
    let new = ids_of c.args.new.now in (
      made-changed g.G.Watch c.args.table c.args.row c.args.groups.now c.gain.new.groups c.lose-in-Some.new.groups new old (Some new) c.in_ok-gain.ensures.groups c.lose-in-Some.ensures.groups,
      made-changed g.C.Watch c.args.table c.args.row c.args.cinds.now c.gain.new.cinds c.lose-in-Some.new.cinds new old (Some new) c.in_ok-gain.ensures.cinds c.lose-in-Some.ensures.cinds,
    )

pub returns-in-Some-clause-probes : goal.returns-in-Some-clause-probes
returns-in-Some-clause-probes g c =
    let new = ids_of c.args.new.now in
    let groups = probes_after g.G.Watch c.args.table c.args.groups.now c.gain.new.groups (made-added g.G.Watch c.args.table c.args.row c.args.groups.now c.gain.new.groups new c.in_ok-gain.ensures.groups) in
    let cinds = probes_after g.C.Watch c.args.table c.args.cinds.now c.gain.new.cinds (made-added g.C.Watch c.args.table c.args.row c.args.cinds.now c.gain.new.cinds new c.in_ok-gain.ensures.cinds) in
    omega (arith, groups, cinds, c.in_ok-gain.ensures.probes, c.follow_as_master.ensures.probes, c.lose-in-Some.ensures.probes)

pub returns-in_default-old-clause-groups : goal.returns-in_default-old-clause-groups
returns-in_default-old-clause-groups g c =
    let is_old : ids_behind c.args.old ≡ None = ap ids_behind c.in_default-old.is in
    rw is_old (follow_gain g.G.Watch c.args.table c.args.row g.met.G.Watch.names_row c.args.groups.now c.gain.new.groups (ids_of c.args.new.now) c.in_ok-gain.ensures.groups)

pub returns-in_default-old-clause-cinds : goal.returns-in_default-old-clause-cinds
returns-in_default-old-clause-cinds g c =
    let is_old : ids_behind c.args.old ≡ None = ap ids_behind c.in_default-old.is in
    rw is_old (follow_gain g.C.Watch c.args.table c.args.row g.met.C.Watch.names_row c.args.cinds.now c.gain.new.cinds (ids_of c.args.new.now) c.in_ok-gain.ensures.cinds)

pub returns-in_default-old-clause-made : goal.returns-in_default-old-clause-made
returns-in_default-old-clause-made g c =
    let new = ids_of c.args.new.now in
    (made-added g.G.Watch c.args.table c.args.row c.args.groups.now c.gain.new.groups new c.in_ok-gain.ensures.groups, made-added g.C.Watch c.args.table c.args.row c.args.cinds.now c.gain.new.cinds new c.in_ok-gain.ensures.cinds)
