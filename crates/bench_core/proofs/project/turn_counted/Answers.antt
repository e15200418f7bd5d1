use Rattle.std.proofs.Common.{◌<◌, length, map, ap, ◌∙◌, arith}
use Rattle.std.proofs.lemmas.List.{length-map}
use Rattle.std.specs.FinMap as finmap
use Rattle.bench_core.specs.Stored.{Stored, stored}
use Rattle.bench_core.specs.Turns.{CanTurn, HasRoomFor, turned}
use Rattle.bench_core.proofs.Holding.{id-left, n-cells-fit, n-counted, n-in_weights, n-rows-fit, of-table, stored-at, stored-set, there-within}
use Rattle.bench_core.proofs.Turning.{read-there, turn-row}
use Rattle.bench_core.proofs.project.turn_counted.Goals as goal

pub index_mut-store-requires : goal.index_mut-store-requires
index_mut-store-requires c =
    let (rules, limits, texts, turn) = c.requires.turn in
    let change = c.args.change.now in
    let inside : change.table < length c.args.stores.now.items = rw length-map at (there-within (CanTurn c.args.direction change) (map stored c.args.stores.now.items) change.table turn.can) in
    omega (arith, inside, c.args.stores.now.ok.0)

pub turn-requires-clause-room : goal.turn-requires-clause-room
turn-requires-clause-room c =
    let (rules, limits, texts, turn) = c.requires.turn in
    let change = c.args.change.now in
    let inside : change.table < length c.args.stores.now.items = rw length-map at (there-within (CanTurn c.args.direction change) (map stored c.args.stores.now.items) change.table turn.can) in
    read-there (HasRoomFor c.args.direction change) c.args.stores.now.items change.table c.index_mut-store.result.now inside c.index_mut-store.ensures.value c.requires.room

pub turn-requires-clause-id_left : goal.turn-requires-clause-id_left
turn-requires-clause-id_left c =
    let (rules, limits, texts, turn) = c.requires.turn in
    let change = c.args.change.now in
    let tables = map stored c.args.stores.now.items in
    let inside : change.table < length c.args.stores.now.items = rw length-map at (there-within (CanTurn c.args.direction change) tables change.table turn.can) in
    let store = c.index_mut-store.result.now in
    let at = stored-at c.args.stores.now.items change.table store inside c.index_mut-store.ensures.value in
    id-left rules limits texts tables change.table (stored store) change.row turn.present at (turn-row c.args.direction change (stored store) (of-table (CanTurn c.args.direction change) tables change.table (stored store) at turn.can))

pub turn-requires-clause-there : goal.turn-requires-clause-there
turn-requires-clause-there c =
    let (rules, limits, texts, turn) = c.requires.turn in
    turn.is.there

pub turn-requires-clause-can : goal.turn-requires-clause-can
turn-requires-clause-can c =
    let (rules, limits, texts, turn) = c.requires.turn in
    let change = c.args.change.now in
    let tables = map stored c.args.stores.now.items in
    let inside : change.table < length c.args.stores.now.items = rw length-map at (there-within (CanTurn c.args.direction change) tables change.table turn.can) in
    let store = c.index_mut-store.result.now in
    let at = stored-at c.args.stores.now.items change.table store inside c.index_mut-store.ensures.value in
    of-table (CanTurn c.args.direction change) tables change.table (stored store) at turn.can

pub recount-requires-clause-table : goal.recount-requires-clause-table
recount-requires-clause-table c =
    let (rules, limits, texts, turn) = c.requires.turn in
    let change = c.args.change.now in
    let tables = map stored c.args.stores.now.items in
    let counts = c.args.counts.now in
    let inside : change.table < length c.args.stores.now.items = rw length-map at (there-within (CanTurn c.args.direction change) tables change.table turn.can) in
    let store = c.index_mut-store.result.now in
    let at = stored-at c.args.stores.now.items change.table store inside c.index_mut-store.ensures.value in
    n-in_weights rules limits texts tables counts.weights.items counts.rows counts.cells turn.present turn.counts change.table (stored store) at

pub recount-requires-clause-rows : goal.recount-requires-clause-rows
recount-requires-clause-rows c =
    let (rules, limits, texts, turn) = c.requires.turn in
    let change = c.args.change.now in
    let tables = map stored c.args.stores.now.items in
    let counts = c.args.counts.now in
    let inside : change.table < length c.args.stores.now.items = rw length-map at (there-within (CanTurn c.args.direction change) tables change.table turn.can) in
    let store = c.index_mut-store.result.now in
    let at = stored-at c.args.stores.now.items change.table store inside c.index_mut-store.ensures.value in
    let after = c.len-after.ensures ∙ ap (λ (t : Stored). finmap.len t.rows) c.turn.ensures in
    rw (c.len-before.ensures, after) (n-rows-fit rules limits texts tables counts.weights.items counts.rows counts.cells turn.present turn.counts change.table (stored store) at (turned c.args.direction change) turn.then_present)

pub recount-requires-clause-cells : goal.recount-requires-clause-cells
recount-requires-clause-cells c =
    let (rules, limits, texts, turn) = c.requires.turn in
    let change = c.args.change.now in
    let tables = map stored c.args.stores.now.items in
    let counts = c.args.counts.now in
    let inside : change.table < length c.args.stores.now.items = rw length-map at (there-within (CanTurn c.args.direction change) tables change.table turn.can) in
    let store = c.index_mut-store.result.now in
    let at = stored-at c.args.stores.now.items change.table store inside c.index_mut-store.ensures.value in
    let after = c.len-after.ensures ∙ ap (λ (t : Stored). finmap.len t.rows) c.turn.ensures in
    rw (c.len-before.ensures, after) (n-cells-fit rules limits texts tables counts.weights.items counts.rows counts.cells turn.present turn.counts change.table (stored store) at (turned c.args.direction change) turn.then_present)

pub returns-clause-tables : goal.returns-clause-tables
returns-clause-tables c =
    let (rules, limits, texts, turn) = c.requires.turn in
    let change = c.args.change.now in
    let inside : change.table < length c.args.stores.now.items = rw length-map at (there-within (CanTurn c.args.direction change) (map stored c.args.stores.now.items) change.table turn.can) in
    stored-set c.args.stores.now.items change.table c.index_mut-store.result.now c.turn.new.store (turned c.args.direction change) inside c.index_mut-store.ensures.value c.turn.ensures

pub returns-clause-counts : goal.returns-clause-counts
returns-clause-counts c rules limits texts turn =
    let change = c.args.change.now in
    let tables = map stored c.args.stores.now.items in
    let counts = c.args.counts.now in
    let inside : change.table < length c.args.stores.now.items = rw length-map at (there-within (CanTurn c.args.direction change) tables change.table turn.can) in
    let store = c.index_mut-store.result.now in
    let at = stored-at c.args.stores.now.items change.table store inside c.index_mut-store.ensures.value in
    let after = c.len-after.ensures ∙ ap (λ (t : Stored). finmap.len t.rows) c.turn.ensures in
    n-counted rules limits texts tables counts.weights.items counts.rows counts.cells turn.present turn.counts change.table (stored store) at (turned c.args.direction change) turn.then_present c.len-before.result c.len-after.result c.len-before.ensures after
    c.recount.new.self.weights.items c.recount.new.self.rows c.recount.new.self.cells (ap (λ w. w.items) c.recount.ensures.weights) c.recount.ensures.rows c.recount.ensures.cells
