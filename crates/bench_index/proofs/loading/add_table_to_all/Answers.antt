use Rattle.std.proofs.Common.{◌-◌, ◌*◌, sym, ap, subst, arith}
use Rattle.std.specs.Prelude.{sum_by, take}
use Rattle.std.proofs.lemmas.List.{take_all}
use Rattle.std.proofs.lemmas.List.Sums.{sum_by_more}
use Rattle.row_store.specs.Watch.{IsWide}
use Rattle.row_store.specs.Watches.{probes_of}
use Rattle.row_store.proofs.Zips.{item_ahead, ahead_more, zip_more, zip_whole}
use Rattle.bench_index.specs.Loading.{HasNoRows}
use Rattle.bench_index.proofs.Loaded.{probes-watch}
use Rattle.bench_index.proofs.loading.add_table_to_all.Goals as goal

pub add_table-requires-clause-none : goal.add_table-requires-clause-none
add_table-requires-clause-none g c =
    let same = item_ahead c.args.watches.now c.loop-watch.watches c.loop-watch.watch-index c.watch-item.result c.loop-watch.invariant.ahead in
    subst (HasNoRows g.W.Watch c.args.table) (sym same) (c.requires.can.none c.loop-watch.watch-index c.watch-item.result (omega arith))

pub add_table-requires-clause-wide : goal.add_table-requires-clause-wide
add_table-requires-clause-wide g c row ids is =
    let same = item_ahead c.args.watches.now c.loop-watch.watches c.loop-watch.watch-index c.watch-item.result c.loop-watch.invariant.ahead in
    subst (λ watch. IsWide (g.W.Watch.attributes (g.W.Watch.made watch) c.args.table) ids) (sym same) (c.requires.can.wide c.loop-watch.watch-index c.watch-item.result (omega arith) row ids is)

pub loop-watch-preserved : goal.loop-watch-preserved
loop-watch-preserved g c =
    let at = c.loop-watch.watch-index in
    let inv = c.loop-watch.invariant in
    let same = item_ahead c.args.watches.now c.loop-watch.watches at c.watch-item.result inv.ahead in
    let cost = ap (probes_of g.W.Watch c.args.table) same in
    let sum = sum_by_more (probes_of g.W.Watch c.args.table) c.args.watches.now at c.watch-item.result (omega arith) in
    record {
      done = zip_more _ c.args.watches.now c.loop-watch.watches at c.watch-item.result c.add_table.new.watch inv.ahead (omega arith) (omega arith) c.watch-item.is inv.done c.in_ok-add_table.ensures.ok;
      ahead = ahead_more c.args.watches.now c.loop-watch.watches at c.add_table.new.watch inv.ahead;
      probes = probes-watch (c.args.store.now.next - 1) c.args.steps.now c.loop-watch.steps c.add_table.new.steps (sum_by (probes_of g.W.Watch c.args.table) (take at c.args.watches.now)) _ _ inv.probes (rw cost at c.in_ok-add_table.ensures.probes) sum;
    }

pub returns-clause-ok : goal.returns-clause-ok
returns-clause-ok g c = zip_whole _ _ _ c.loop-watch.watch-index (omega arith) (omega arith) c.loop-watch.invariant.done

pub returns-clause-probes : goal.returns-clause-probes
returns-clause-probes g c =
    let all = ap (λ n. (c.args.store.now.next - 1) * sum_by (probes_of g.W.Watch c.args.table) n) (take_all c.loop-watch.watch-index c.args.watches.now (omega arith)) in
    omega (arith, c.loop-watch.invariant.probes, all)
