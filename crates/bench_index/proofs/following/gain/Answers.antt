use Rattle.std.proofs.Common.{refl, arith}
use Rattle.row_store.specs.Tuple.{ids_of, ids_behind}
use Rattle.bench_index.proofs.WatchSteps.{on_err, same-kept, made-added, wide_after, probes_after, both_after, same_after}
use Rattle.bench_index.proofs.following.gain.Goals as goal

pub returns-in_err-add_to_all-clause-refused : goal.returns-in_err-add_to_all-clause-refused
returns-in_err-add_to_all-clause-refused g c = on_err c.from_residual.result (c.in_err-add_to_all.ensures.err, same-kept g.C.Watch c.args.cinds.now)

pub remove_from_all-requires-clause-present : goal.remove_from_all-requires-clause-present
remove_from_all-requires-clause-present g c =
    both_after g.G.Watch c.args.table c.args.row c.args.groups.now c.add_to_all.new.watches (ids_behind c.args.old) (ids_of c.args.new.now) c.requires.groups.present c.in_ok-add_to_all.ensures.ok

pub remove_from_all-requires-clause-wide_old : goal.remove_from_all-requires-clause-wide_old
remove_from_all-requires-clause-wide_old g c =
    wide_after g.G.Watch c.args.table c.args.groups.now c.add_to_all.new.watches (made-added g.G.Watch c.args.table c.args.row c.args.groups.now c.add_to_all.new.watches (ids_of c.args.new.now) c.in_ok-add_to_all.ensures.ok)
    (ids_of c.args.new.now) (c.requires.groups.wide_new (ids_of c.args.new.now) refl)

pub remove_from_all-requires-clause-wide_new : goal.remove_from_all-requires-clause-wide_new
remove_from_all-requires-clause-wide_new g c ids is =
    wide_after g.G.Watch c.args.table c.args.groups.now c.add_to_all.new.watches (made-added g.G.Watch c.args.table c.args.row c.args.groups.now c.add_to_all.new.watches (ids_of c.args.new.now) c.in_ok-add_to_all.ensures.ok)
    ids (c.requires.groups.wide_old ids is)

pub returns-in-Err-clause-refused : goal.returns-in-Err-clause-refused
returns-in-Err-clause-refused g c = (
  same_after g.G.Watch c.args.table c.args.row g.met.G.Watch.names_row c.args.groups.now c.add_to_all.new.watches c.remove_from_all.new.watches (ids_behind c.args.old) (ids_of c.args.new.now) c.requires.groups.present c.in_ok-add_to_all.ensures.ok c.remove_from_all.ensures.removed,
  c.in-Err.ensures.err,
)

pub returns-in-Err-clause-probes_twice : goal.returns-in-Err-clause-probes_twice
returns-in-Err-clause-probes_twice g c =
    let alike = made-added g.G.Watch c.args.table c.args.row c.args.groups.now c.add_to_all.new.watches (ids_of c.args.new.now) c.in_ok-add_to_all.ensures.ok in
    let same = probes_after g.G.Watch c.args.table c.args.groups.now c.add_to_all.new.watches alike in
    omega (arith, same, c.in_ok-add_to_all.ensures.probes, c.remove_from_all.ensures.probes)
