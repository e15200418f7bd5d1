use Rattle.std.proofs.Common.{refl, sym, ap, subst, arith}
use Rattle.std.specs.Prelude.{sum_by}
use Rattle.std.proofs.lemmas.List.{take_all}
use Rattle.std.proofs.lemmas.List.Sums.{sum_by_more}
use Rattle.row_store.specs.Tuple.{ids_of, ids_behind}
use Rattle.row_store.specs.Watch.{IsWide}
use Rattle.row_store.specs.Watches.{HoldsOfBoth, probes_of}
use Rattle.row_store.proofs.Zips.{item_ahead, ahead_more, zip_more, zip_whole}
use Rattle.row_store.proofs.watches.remove_from_all.Goals as goal

pub remove_where_needed-requires-clause-present : goal.remove_where_needed-requires-clause-present
remove_where_needed-requires-clause-present g c =
    let same = item_ahead c.args.watches.now c.loop-watch.watches c.loop-watch.watch-index c.watch-item.result c.loop-watch.invariant.ahead in
    subst (HoldsOfBoth g.W.Watch c.args.table c.args.row (ids_of c.args.old.now) (ids_behind c.args.new)) (sym same) (c.requires.present c.loop-watch.watch-index c.watch-item.result (omega arith))

pub remove_where_needed-requires-clause-wide_old : goal.remove_where_needed-requires-clause-wide_old
remove_where_needed-requires-clause-wide_old g c =
    let same = item_ahead c.args.watches.now c.loop-watch.watches c.loop-watch.watch-index c.watch-item.result c.loop-watch.invariant.ahead in
    subst (λ watch. IsWide (g.W.Watch.attributes (g.W.Watch.made watch) c.args.table) (ids_of c.args.old.now)) (sym same) (c.requires.wide_old c.loop-watch.watch-index c.watch-item.result (omega arith))

pub remove_where_needed-requires-clause-wide_new : goal.remove_where_needed-requires-clause-wide_new
remove_where_needed-requires-clause-wide_new g c ids is =
    let same = item_ahead c.args.watches.now c.loop-watch.watches c.loop-watch.watch-index c.watch-item.result c.loop-watch.invariant.ahead in
    subst (λ watch. IsWide (g.W.Watch.attributes (g.W.Watch.made watch) c.args.table) ids) (sym same) (c.requires.wide_new ids is c.loop-watch.watch-index c.watch-item.result (omega arith))

pub loop-watch-init : goal.loop-watch-init
loop-watch-init g c = record { done = tt; ahead = refl; probes = omega arith }

pub loop-watch-preserved : goal.loop-watch-preserved
loop-watch-preserved g c =
    let at = c.loop-watch.watch-index in
    let inv = c.loop-watch.invariant in
    let same = item_ahead c.args.watches.now c.loop-watch.watches at c.watch-item.result inv.ahead in
    let cost = ap (probes_of g.W.Watch c.args.table) same in
    let sum = sum_by_more (probes_of g.W.Watch c.args.table) c.args.watches.now at c.watch-item.result (omega arith) in
    record {
      done = zip_more _ c.args.watches.now c.loop-watch.watches at c.watch-item.result c.remove_where_needed.new.watch inv.ahead (omega arith) (omega arith) c.watch-item.is inv.done c.remove_where_needed.ensures.removed;
      ahead = ahead_more c.args.watches.now c.loop-watch.watches at c.remove_where_needed.new.watch inv.ahead;
      probes = omega (arith, inv.probes, c.remove_where_needed.ensures.probes, cost, sum);
    }

pub returns-clause-removed : goal.returns-clause-removed
returns-clause-removed g c = zip_whole _ _ _ c.loop-watch.watch-index (omega arith) (omega arith) c.loop-watch.invariant.done

pub returns-clause-probes : goal.returns-clause-probes
returns-clause-probes g c =
    let all = ap (sum_by (probes_of g.W.Watch c.args.table)) (take_all c.loop-watch.watch-index c.args.watches.now (omega arith)) in
    omega (arith, c.loop-watch.invariant.probes, all)
