use Rattle.std.proofs.Common.{◌<◌, length}
use Rattle.bench_core.specs.Stored.{Stored, stored, RowsHaveTexts}
use Rattle.bench_core.specs.Bench.{tables_of}
use Rattle.bench_core.proofs.Holding.{stored-at, state-there, all-there}
use Rattle.bench_core.proofs.Filled.{length-state}
use Rattle.bench_core.proofs.bench.Bench.store.Goals as goal

pub returns-clause-state : goal.returns-clause-state
returns-clause-state c =
    let project = c.self.inside.project in
    let inside : c.args.table < length project.stores.items = rw (length-state project.pool project.stores.items) at (rw (← c.self.view_is) at c.requires) in
    let at = stored-at project.stores.items c.args.table c.index.result.now inside c.index.ensures in
    rw (← c.self.view_is) (state-there project.pool c.args.table (tables_of project) (stored c.index.result.now) at)

pub returns-clause-texts : goal.returns-clause-texts
returns-clause-texts c =
    let project = c.self.inside.project in
    let inside : c.args.table < length project.stores.items = rw (length-state project.pool project.stores.items) at (rw (← c.self.view_is) at c.requires) in
    let at = stored-at project.stores.items c.args.table c.index.result.now inside c.index.ensures in
    rw (← c.self.view_is) (all-there (λ (table : Stored). RowsHaveTexts project.pool table.rows) (tables_of project) c.args.table (stored c.index.result.now) c.self.invariant.0.named at)
