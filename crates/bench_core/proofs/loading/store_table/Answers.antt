use Rattle.std.proofs.Common.{◌≡◌, ◌+◌, ◌<◌, [], ◌∷◌, map, length, map-id, refl, sym, subst, arith, ◌∙◌}
use Rattle.std.proofs.lemmas.Iterator.Adapters.{YieldsList-from_vec}
use Rattle.std.proofs.lemmas.Iterator.Consumers.{YieldsList-turn, YieldsList-end}
use Rattle.std.proofs.lemmas.List.{length-map, map-append}
use Rattle.std.specs.FinMap as finmap
use Rattle.row_store.specs.Tuple.{ids_of}
use Rattle.bench_core.specs.Stored.{AreInOrder, stored}
use Rattle.bench_core.proofs.Filled.{in_order-none, in_order-more}
use Rattle.bench_core.proofs.loading.store_table.Goals as goal
use Rattle.bench_core.proofs.loading.store_table.Goals.{In-Some}

pub loop-tuple-init : goal.loop-tuple-init
loop-tuple-init c = in_order-none (stored c.new-store.result) c.new-store.ensures.empty c.new-store.ensures.first

in-turn : (c : In-Some) → length c.loop-tuple.yielded < length c.args.tuples.items
in-turn c =
    let all = YieldsList-from_vec c.args.tuples.items c.into_iter-tuple-iterator.ensures.into_iter_gives.0 (omega (arith, c.into_iter-tuple-iterator.ensures.into_iter_gives.1, c.args.tuples.ok.0)) in
    (YieldsList-turn all c.loop-tuple.yielded _ c.loop-tuple.yielded_by _ c.next.new.self c.in-Some.tuple c.in-Some.is c.next.ensures.steps).0

pub put-requires-clause-id_left : goal.put-requires-clause-id_left
put-requires-clause-id_left c =
    omega (arith, in-turn (goal.at.put-requires-clause-id_left c).In-Some, c.requires, c.loop-tuple.invariant.next-is, length-map c.loop-tuple.yielded ids_of, c.ready_insert.ensures.next)

pub loop-tuple-preserved : goal.loop-tuple-preserved
loop-tuple-preserved c =
    let more : c.put.new.self.rows ≡ finmap.insert c.loop-tuple.store.rows c.loop-tuple.store.next (ids_of c.in-Some.tuple) = rw (c.put.ensures.rows, c.put.ensures.id, c.ready_insert.ensures.rows, c.ready_insert.ensures.next) refl in
    let after : c.put.new.self.next ≡ c.loop-tuple.store.next + 1 = rw (c.put.ensures.next, c.ready_insert.ensures.next) refl in
    subst (λ tuples. AreInOrder tuples (stored c.put.new.self)) (sym (map-append ids_of c.loop-tuple.yielded (c.in-Some.tuple ∷ [])))
    (in_order-more (map ids_of c.loop-tuple.yielded) (ids_of c.in-Some.tuple) (stored c.loop-tuple.store) (stored c.put.new.self) c.loop-tuple.invariant more after)

pub returns : goal.returns
returns c =
    let all = YieldsList-from_vec c.args.tuples.items c.into_iter-tuple-iterator.ensures.into_iter_gives.0 (omega (arith, c.into_iter-tuple-iterator.ensures.into_iter_gives.1, c.args.tuples.ok.0)) in
    let whole = YieldsList-end all c.loop-tuple.yielded _ c.loop-tuple.yielded_by _ c.next.new.self c.in-None.is c.next.ensures.steps in
    subst (λ tuples. AreInOrder (map ids_of tuples) (stored c.loop-tuple.store)) (sym (map-id c.loop-tuple.yielded) ∙ whole.0) c.loop-tuple.invariant
