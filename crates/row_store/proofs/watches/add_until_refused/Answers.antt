use Rattle.std.proofs.Common.{◌≡◌, refl, sym, ap, subst, ◌∙◌, arith}
use Rattle.std.specs.Prelude.{true, false, Result, Ok, Err, is_err, OnOk, OnErr}
use Rattle.std.proofs.lemmas.List.Sums.{sum_by_more, sum_by_more_le}
use Rattle.row_store.specs.Tuple.{ids_of, ids_behind}
use Rattle.row_store.specs.Watch.{IsWide}
use Rattle.row_store.specs.Watches.{HoldsOfRow, HoldsTheSame, probes_of}
use Rattle.row_store.proofs.Zips.{item_ahead, ahead_more, zip_more, zip_rest}
use Rattle.row_store.proofs.watches.add_until_refused.Goals as goal

at_ok : {A E P : Type 0} (r : Result A E) → is_err r ≡ false → OnOk r P → P
at_ok (Ok x) is p = p
at_ok (Err e) is p = cc

at_err : {A E P : Type 0} (r : Result A E) → is_err r ≡ true → OnErr r P → P
at_err (Ok x) is p = cc
at_err (Err e) is p = p

pub add_where_needed-requires-clause-present : goal.add_where_needed-requires-clause-present
add_where_needed-requires-clause-present g c =
    let same = item_ahead c.args.watches.now c.loop-place.watches c.loop-place.place c.index-watches-place.result c.loop-place.invariant.ahead in
    subst (HoldsOfRow g.W.Watch c.args.table c.args.row (ids_behind c.args.old)) (sym same) (c.requires.present c.loop-place.place c.index-watches-place.result (omega arith))

pub add_where_needed-requires-clause-wide_old : goal.add_where_needed-requires-clause-wide_old
add_where_needed-requires-clause-wide_old g c ids is =
    let same = item_ahead c.args.watches.now c.loop-place.watches c.loop-place.place c.index-watches-place.result c.loop-place.invariant.ahead in
    subst (λ watch. IsWide (g.W.Watch.attributes (g.W.Watch.made watch) c.args.table) ids) (sym same) (c.requires.wide_old ids is c.loop-place.place c.index-watches-place.result (omega arith))

pub add_where_needed-requires-clause-wide_new : goal.add_where_needed-requires-clause-wide_new
add_where_needed-requires-clause-wide_new g c =
    let same = item_ahead c.args.watches.now c.loop-place.watches c.loop-place.place c.index-watches-place.result c.loop-place.invariant.ahead in
    subst (λ watch. IsWide (g.W.Watch.attributes (g.W.Watch.made watch) c.args.table) (ids_of c.args.new.now)) (sym same) (c.requires.wide_new c.loop-place.place c.index-watches-place.result (omega arith))

-- the watch that had no memory holds what it held, and so do those ahead
pub returns-then-is_err-clause-others : goal.returns-then-is_err-clause-others
returns-then-is_err-clause-others g c =
    zip_rest (HoldsTheSame g.W.Watch) (λ watch. record { made = refl; entries = λ entry. refl })
    c.args.watches.now c.loop-place.watches c.loop-place.place c.index-watches-place.result c.add_where_needed.new.watch
    c.loop-place.invariant.ahead (omega arith) (at_err c.add_where_needed.result (sym c.is_err.ensures.value ∙ c.if-is_err.true) c.add_where_needed.ensures.err)

pub returns-then-is_err-clause-probes : goal.returns-then-is_err-clause-probes
returns-then-is_err-clause-probes g c =
    let cost = ap (probes_of g.W.Watch c.args.table) (item_ahead c.args.watches.now c.loop-place.watches c.loop-place.place c.index-watches-place.result c.loop-place.invariant.ahead) in
    let sum = sum_by_more_le (probes_of g.W.Watch c.args.table) c.args.watches.now c.loop-place.place c.index-watches-place.result (omega arith) in
    omega (arith, c.loop-place.invariant.probes, c.add_where_needed.ensures.probes, cost, sum)

pub loop-place-preserved : goal.loop-place-preserved
loop-place-preserved g c =
    let at = c.loop-place.place in
    let inv = c.loop-place.invariant in
    let cost = ap (probes_of g.W.Watch c.args.table) (item_ahead c.args.watches.now c.loop-place.watches at c.index-watches-place.result inv.ahead) in
    let sum = sum_by_more (probes_of g.W.Watch c.args.table) c.args.watches.now at c.index-watches-place.result (omega arith) in
    record {
      done = zip_more _ c.args.watches.now c.loop-place.watches at c.index-watches-place.result c.add_where_needed.new.watch inv.ahead (omega arith) (omega arith) c.index-watches-place.is inv.done (at_ok c.add_where_needed.result (sym c.is_err.ensures.value ∙ c.if-is_err.false) c.add_where_needed.ensures.ok);
      ahead = ahead_more c.args.watches.now c.loop-place.watches at c.add_where_needed.new.watch inv.ahead;
      probes = omega (arith, inv.probes, c.add_where_needed.ensures.probes, cost, sum);
    }
