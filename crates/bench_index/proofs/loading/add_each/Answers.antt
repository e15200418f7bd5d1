use Rattle.std.proofs.Common.{◌≤◌, arith, ap, subst}
use Rattle.std.specs.FinMap as finite
use Rattle.bench_index.specs.Loading.{HasGained}
use Rattle.bench_index.proofs.Loaded.{none-of_row, more-loaded, all-loaded, probes-more, probes-end}
use Rattle.bench_index.proofs.loading.add_each.Goals as goal

pub add_row-requires-clause-none : goal.add_row-requires-clause-none
add_row-requires-clause-none g c = none-of_row g.W.Watch c.args.table (finite.get c.args.store.now.rows) c.loop-row.row c.args.watch.now c.loop-row.watch c.requires.none c.loop-row.invariant.loaded

pub add_row-requires-clause-wide : goal.add_row-requires-clause-wide
add_row-requires-clause-wide g c ids is = rw c.loop-row.invariant.loaded.made (c.requires.wide c.loop-row.row ids (rw c.get.ensures at is))

pub loop-row-preserved : goal.loop-row-preserved
loop-row-preserved g c =
    let inv = c.loop-row.invariant in
    let own = finite.get c.args.store.now.rows in
    let gained = subst (λ tuple. HasGained g.W.Watch c.args.table c.loop-row.row tuple c.loop-row.watch c.add_row.new.watch) c.get.ensures c.in_ok-add_row.ensures.ok in
    let cost = ap g.W.Watch.cost inv.loaded.made in
    record {
      from = omega (arith, inv.from);
      upto = omega (arith, inv.from, c.loop-row-test.true, c.next_id-row-end.ensures.value);
      loaded = more-loaded g.W.Watch c.args.table own c.loop-row.row c.args.watch.now c.loop-row.watch c.add_row.new.watch inv.loaded gained;
      probes = probes-more c.loop-row.row c.args.steps.now c.loop-row.steps c.add_row.new.steps (g.W.Watch.cost (g.W.Watch.made c.args.watch.now)) inv.from inv.probes (omega (arith, c.add_row.ensures.probes, cost));
    }

pub returns-clause-ok : goal.returns-clause-ok
returns-clause-ok g c =
    all-loaded g.W.Watch c.args.table (finite.get c.args.store.now.rows) c.loop-row.row (λ id within. c.next_id-row-end.ensures.above id (omega (arith, c.loop-row-test.false, within))) c.args.watch.now c.loop-row.watch c.loop-row.invariant.loaded

pub returns-clause-probes : goal.returns-clause-probes
returns-clause-probes g c =
    let end : c.args.store.now.next ≤ c.loop-row.row = omega (arith, c.loop-row-test.false, c.next_id-row-end.ensures.value) in
    probes-end c.loop-row.row c.args.store.now.next c.args.steps.now c.loop-row.steps (g.W.Watch.cost (g.W.Watch.made c.args.watch.now)) end c.loop-row.invariant.upto c.loop-row.invariant.probes
