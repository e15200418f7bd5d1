use Rattle.std.proofs.Common.{◌≡◌, ℕ, ◌<◌, List, [], ◌∷◌, map, length, get_or, map-id, ap, sym, subst, ◌∙◌, arith, Vec, Global}
use Rattle.std.proofs.lemmas.List.{length-map, map-append}
use Rattle.std.proofs.lemmas.List.Elements.{All-get_or}
use Rattle.std.proofs.lemmas.Slice.Zip.{AllZip-long}
use Rattle.std.proofs.lemmas.Iterator.Adapters.{YieldsList-from_vec}
use Rattle.std.proofs.lemmas.Iterator.Consumers.{YieldsList-turn, YieldsList-so_far, YieldsList-end}
use Rattle.schema_core.specs.Lookups.{attrs_at}
use Rattle.row_store.specs.Tuple.{Tuple, ids_of}
use Rattle.row_takers.specs.Taken as taken
use Rattle.row_takers.specs.Taken.{rows_in}
use Rattle.bench_index.specs.Loading.{HaveNoRows}
use Rattle.bench_core.specs.Loading.{CanLoad, tables_in}
use Rattle.bench_core.specs.Stored.{stored, state_of}
use Rattle.bench_core.proofs.Filled.{length-state, named-more, state-more, tuples-wide}
use Rattle.bench_core.proofs.Loads.{IsNext, is-next, loaded-all, loaded-full, place_in_weights, turn-full, turned}
use Rattle.bench_core.proofs.SoFar.{so_far-none}
use Rattle.bench_core.proofs.ProbesOfLoad.{probes-table}
use Rattle.bench_core.proofs.RowJoins.{table-can}
use Rattle.bench_core.proofs.loading.add_tables.Goals as goal
use Rattle.bench_core.proofs.loading.add_tables.Goals.{After-len-rows, After-len-table, In-None, In-Some}

pub loop-tuples-init : goal.loop-tuples-init
loop-tuples-init g c = λ texts can. rw c.requires.none (so_far-none can c.args.steps.now)

-- the table of this turn, and its texts

in-turn : (g : _) (c : In-Some g) → (length c.loop-tuples.yielded < length c.args.tables.items) × (c.in-Some.tuples ≡ get_or c.args.tables.items (length c.loop-tuples.yielded) c.in-Some.tuples)
in-turn g c =
    let all = YieldsList-from_vec c.args.tables.items c.into_iter-tuples-iterator.ensures.into_iter_gives.0 (omega (arith, c.into_iter-tuples-iterator.ensures.into_iter_gives.1, c.args.tables.ok.0)) in
    YieldsList-turn all c.loop-tuples.yielded _ c.loop-tuples.yielded_by _ c.next.new.self c.in-Some.tuples c.in-Some.is c.next.ensures.steps

next-table : (g : _) (c : In-Some g) (texts : List (List ℕ)) → IsNext (tables_in texts c.args.tables.items) (tables_in texts c.loop-tuples.yielded) (rows_in texts c.in-Some.tuples.items)
next-table g c texts =
    let all = YieldsList-from_vec c.args.tables.items c.into_iter-tuples-iterator.ensures.into_iter_gives.0 (omega (arith, c.into_iter-tuples-iterator.ensures.into_iter_gives.1, c.args.tables.ok.0)) in
    let front = YieldsList-so_far all c.loop-tuples.yielded _ c.loop-tuples.yielded_by in
    is-next (λ (table : Vec Tuple Global). rows_in texts table.items) c.args.tables.items c.loop-tuples.yielded c.in-Some.tuples (in-turn g c).0 front (in-turn g c).1

named-table : (g : _) (c : In-Some g) (texts : List (List ℕ)) → CanLoad c.args.rules.now c.args.limits.now texts c.args.tables.items c.args.counts.now c.args.index.now → taken.AreNamed texts c.in-Some.tuples.items
named-table g c texts can =
    let P : Vec Tuple Global → Type 0 = λ table. taken.AreNamed texts table.items in
    subst P (sym (in-turn g c).1) (All-get_or P c.args.tables.items (length c.loop-tuples.yielded) c.in-Some.tuples (in-turn g c).0 can.named)

-- its number, and how many rows it has
place : (g : _) (c : After-len-table g) (texts : List (List ℕ)) → c.len-table.result ≡ length (state_of texts (map stored c.loop-tuples.stores.items))
place g c texts = c.len-table.ensures ∙ c.loop-tuples.stores.ok.0 ∙ sym (length-state texts c.loop-tuples.stores.items)

long : (g : _) (c : After-len-rows g) (texts : List (List ℕ)) → c.len-rows.result ≡ length (rows_in texts c.in-Some.tuples.items)
long g c texts = c.len-rows.ensures ∙ c.in-Some.tuples.ok.0 ∙ sym (length-map c.in-Some.tuples.items (λ tuple. taken.texts_of texts (ids_of tuple)))

pub has_room-requires-clause-table : goal.has_room-requires-clause-table
has_room-requires-clause-table g c =
    let (texts, can) = c.requires.can in
    place_in_weights (c.loop-tuples.invariant texts can).so_far c.requires.limits (tables_in texts c.args.tables.items) (AllZip-long _ _ _ can.fit) (rows_in texts c.in-Some.tuples.items) (next-table g (goal.at.has_room-requires-clause-table g c).In-Some texts) c.len-table.result c.len-rows.result (place g (goal.at.has_room-requires-clause-table g c).After-len-table texts) (long g (goal.at.has_room-requires-clause-table g c).After-len-rows texts)

pub returns-then-not-has_room-clause-loaded : goal.returns-then-not-has_room-clause-loaded
returns-then-not-has_room-clause-loaded g c = λ texts can.
    loaded-full (c.loop-tuples.invariant texts can).so_far c.requires.limits (tables_in texts c.args.tables.items) (AllZip-long _ _ _ can.fit) (rows_in texts c.in-Some.tuples.items) (next-table g (goal.at.returns-then-not-has_room-clause-loaded g c).In-Some texts) c.len-table.result c.len-rows.result (place g (goal.at.returns-then-not-has_room-clause-loaded g c).After-len-table texts) (long g (goal.at.returns-then-not-has_room-clause-loaded g c).After-len-rows texts) c.has_room.result c.has_room.ensures c.if-not-has_room.true

pub add_table-requires-clause-full : goal.add_table-requires-clause-full
add_table-requires-clause-full g c =
    let (texts, can) = c.requires.can in
    let number : length c.loop-tuples.stores.items ≡ length (state_of texts (map stored c.loop-tuples.stores.items)) = sym (length-state texts c.loop-tuples.stores.items) in
    tuples-wide texts (length (attrs_at c.args.rules.now.schema (length c.loop-tuples.stores.items))) c.in-Some.tuples.items
    (turn-full (c.loop-tuples.invariant texts can).so_far c.args.limits.now.cell_bytes (tables_in texts c.args.tables.items) can.fit (rows_in texts c.in-Some.tuples.items) (next-table g (goal.at.add_table-requires-clause-full g c).In-Some texts) (length c.loop-tuples.stores.items) number)

pub add_table-requires-clause-none : goal.add_table-requires-clause-none
add_table-requires-clause-none g c =
    let (texts, can) = c.requires.can in
    subst (λ n. HaveNoRows c.args.rules.now n c.loop-tuples.index) (length-map c.loop-tuples.stores.items stored) (table-can (map stored c.loop-tuples.stores.items) (c.loop-tuples.invariant texts can).indexed)

pub recount-requires-clause-table : goal.recount-requires-clause-table
recount-requires-clause-table g c =
    let (texts, can) = c.requires.can in
    place_in_weights (c.loop-tuples.invariant texts can).so_far c.requires.limits (tables_in texts c.args.tables.items) (AllZip-long _ _ _ can.fit) (rows_in texts c.in-Some.tuples.items) (next-table g (goal.at.recount-requires-clause-table g c).In-Some texts) c.len-table.result c.len-rows.result (place g (goal.at.recount-requires-clause-table g c).After-len-table texts) (long g (goal.at.recount-requires-clause-table g c).After-len-rows texts)

pub loop-tuples-preserved : goal.loop-tuples-preserved
loop-tuples-preserved g c = λ texts can.
    let rows = rows_in texts c.in-Some.tuples.items in
    let before = map stored c.loop-tuples.stores.items in
    let after = map stored c.add_table.new.all.items in
    let joined = c.in_ok-add_table.ensures.stored in
    let view : Vec Tuple Global → List (List (List ℕ)) = λ table. rows_in texts table.items in
    let more = state-more texts c.in-Some.tuples.items before after joined in
    let next = turned (c.loop-tuples.invariant texts can).so_far c.requires.limits (tables_in texts c.args.tables.items) (AllZip-long _ _ _ can.fit) rows (next-table g (goal.at.loop-tuples-preserved g c).In-Some texts) c.len-table.result c.len-rows.result (place g (goal.at.loop-tuples-preserved g c).After-len-table texts) (long g (goal.at.loop-tuples-preserved g c).After-len-rows texts) c.has_room.result c.has_room.ensures c.if-not-has_room.false in
    record {
      so_far = rw (map-append view c.loop-tuples.yielded (c.in-Some.tuples ∷ []), more, c.recount.ensures.weights, c.recount.ensures.rows, c.recount.ensures.cells) next;
      named = named-more texts c.in-Some.tuples.items before after joined (named-table g (goal.at.loop-tuples-preserved g c).In-Some texts can) (c.loop-tuples.invariant texts can).named;
      indexed = c.in_ok-add_table.ensures.indexed texts (c.loop-tuples.invariant texts can).indexed;
      probes =
          probes-table c.args.rules.now c.args.steps.now c.loop-tuples.steps c.add_table.new.steps (state_of texts before) (state_of texts after) rows (c.loop-tuples.invariant texts can).probes
          (rw (length-state texts c.loop-tuples.stores.items, length-map c.in-Some.tuples.items (λ tuple. taken.texts_of texts (ids_of tuple))) c.in_ok-add_table.ensures.probes) more;
    }

-- all tables are loaded
whole : (g : _) (c : In-None g) (texts : List (List ℕ)) → tables_in texts c.loop-tuples.yielded ≡ tables_in texts c.args.tables.items
whole g c texts =
    let all = YieldsList-from_vec c.args.tables.items c.into_iter-tuples-iterator.ensures.into_iter_gives.0 (omega (arith, c.into_iter-tuples-iterator.ensures.into_iter_gives.1, c.args.tables.ok.0)) in
    let ended = YieldsList-end all c.loop-tuples.yielded _ c.loop-tuples.yielded_by _ c.next.new.self c.in-None.is c.next.ensures.steps in
    ap (tables_in texts) (sym (map-id c.loop-tuples.yielded) ∙ ended.0)

pub returns-clause-loaded : goal.returns-clause-loaded
returns-clause-loaded g c = λ texts can. loaded-all (c.loop-tuples.invariant texts can).so_far (tables_in texts c.args.tables.items) (whole g (goal.at.returns-clause-loaded g c).In-None texts)

pub returns-clause-held : goal.returns-clause-held
returns-clause-held g c = λ texts can.
    let held = c.loop-tuples.invariant texts can in
    record { named = held.named; counts = held.so_far.counts; indexed = held.indexed; probes = held.probes }
