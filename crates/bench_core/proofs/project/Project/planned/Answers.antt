use Rattle.std.proofs.Common.{◌<◌, length, arith}
use Rattle.std.proofs.lemmas.List.{length-map}
use Rattle.bench_core.specs.Stored.{Stored, stored, RowsHaveTexts}
use Rattle.bench_core.specs.Bench.{tables_of}
use Rattle.bench_core.proofs.Named.{history-kept}
use Rattle.bench_core.proofs.Editing.{in_state, in_weights}
use Rattle.bench_core.proofs.Holding.{stored-at, all-there, held-named}
use Rattle.bench_core.proofs.Planning.{planned-edited, planned-within, planned-fits, planned-can}
use Rattle.bench_core.proofs.InStepWith.{indexed-kept}
use Rattle.bench_core.proofs.project.Project.planned.Goals as goal

pub has_room-requires-clause-table : goal.has_room-requires-clause-table
has_room-requires-clause-table c = in_weights c.requires.held.history.present c.requires.held.counts c.args.number c.args.edit.now c.requires.named

pub index-requires : goal.index-requires
index-requires c =
    let inside : c.args.number < length c.args.self.now.stores.items = rw (length-map, length-map) at (in_state c.requires.held.history.present c.requires.held.counts c.args.number c.args.edit.now c.requires.named) in
    omega (arith, inside, c.args.self.now.stores.ok.0)

pub change-requires-clause-state : goal.change-requires-clause-state
change-requires-clause-state c =
    let inside : c.args.number < length c.args.self.now.stores.items = rw (length-map, length-map) at (in_state c.requires.held.history.present c.requires.held.counts c.args.number c.args.edit.now c.requires.named) in
    let at = stored-at c.args.self.now.stores.items c.args.number c.index.result.now inside c.index.ensures in
    let declared = rw (c.as_slice.ensures, c.schema.ensures.schema) at c.index-as_slice-number.is in
    planned-fits c.args.self.now.rules c.args.self.now.limits c.args.self.now.pool c.args.self.now.pool (λ text id has. has) (tables_of c.args.self.now) c.requires.held.named c.args.self.now.counts.weights.items c.args.self.now.counts.rows c.args.self.now.counts.cells c.requires.held.history.present c.requires.held.counts c.args.number c.args.edit.now c.requires.named c.index-as_slice-number.result (stored c.index.result.now) declared at

pub change-requires-clause-named : goal.change-requires-clause-named
change-requires-clause-named c =
    let inside : c.args.number < length c.args.self.now.stores.items = rw (length-map, length-map) at (in_state c.requires.held.history.present c.requires.held.counts c.args.number c.args.edit.now c.requires.named) in
    let at = stored-at c.args.self.now.stores.items c.args.number c.index.result.now inside c.index.ensures in
    all-there (λ (table : Stored). RowsHaveTexts c.args.self.now.pool table.rows) (tables_of c.args.self.now) c.args.number (stored c.index.result.now) c.requires.held.named at

pub returns-clause-edited : goal.returns-clause-edited
returns-clause-edited c =
    let inside : c.args.number < length c.args.self.now.stores.items = rw (length-map, length-map) at (in_state c.requires.held.history.present c.requires.held.counts c.args.number c.args.edit.now c.requires.named) in
    let at = stored-at c.args.self.now.stores.items c.args.number c.index.result.now inside c.index.ensures in
    let declared = rw (c.as_slice.ensures, c.schema.ensures.schema) at c.index-as_slice-number.is in
    planned-edited c.args.self.now.rules c.args.self.now.limits c.args.self.now.pool c.change.new.pool c.change.ensures.kept (tables_of c.args.self.now) c.requires.held.named c.args.self.now.counts.weights.items c.args.self.now.counts.rows c.args.self.now.counts.cells c.requires.held.history.present c.requires.held.counts c.args.number c.args.edit.now c.requires.named c.index-as_slice-number.result (stored c.index.result.now) declared at c.has_room.result c.has_room.ensures c.change.result c.change.ensures.edited c.change.ensures.planned

pub returns-clause-held : goal.returns-clause-held
returns-clause-held c = held-named c.args.self.now.pool c.change.new.pool c.change.ensures.kept c.requires.held

pub returns-clause-history : goal.returns-clause-history
returns-clause-history c = history-kept c.args.self.now.pool c.change.new.pool c.change.ensures.kept c.args.self.now.log.past c.args.self.now.log.undone (tables_of c.args.self.now) c.requires.held.past-named c.requires.held.undone-named c.requires.held.named

pub returns-clause-can : goal.returns-clause-can
returns-clause-can c =
    let inside : c.args.number < length c.args.self.now.stores.items = rw (length-map, length-map) at (in_state c.requires.held.history.present c.requires.held.counts c.args.number c.args.edit.now c.requires.named) in
    let at = stored-at c.args.self.now.stores.items c.args.number c.index.result.now inside c.index.ensures in
    planned-can c.change.new.pool (tables_of c.args.self.now) c.args.number (stored c.index.result.now) at c.change.result c.change.ensures.planned

pub returns-clause-within : goal.returns-clause-within
returns-clause-within c =
    let inside : c.args.number < length c.args.self.now.stores.items = rw (length-map, length-map) at (in_state c.requires.held.history.present c.requires.held.counts c.args.number c.args.edit.now c.requires.named) in
    let at = stored-at c.args.self.now.stores.items c.args.number c.index.result.now inside c.index.ensures in
    let declared = rw (c.as_slice.ensures, c.schema.ensures.schema) at c.index-as_slice-number.is in
    planned-within c.args.self.now.rules c.args.self.now.limits c.args.self.now.pool c.change.new.pool c.change.ensures.kept (tables_of c.args.self.now) c.requires.held.named c.args.self.now.counts.weights.items c.args.self.now.counts.rows c.args.self.now.counts.cells c.requires.held.history.present c.requires.held.counts c.args.number c.args.edit.now c.requires.named c.index-as_slice-number.result (stored c.index.result.now) declared at c.has_room.result c.has_room.ensures c.change.result c.change.ensures.edited c.change.ensures.planned

pub returns-clause-indexed : goal.returns-clause-indexed
returns-clause-indexed c index held = indexed-kept held c.change.new.pool c.change.ensures.kept
