use Rattle.std.proofs.Common.{sym, ◌∙◌}
use Rattle.std.specs.FinMap as finite
use Rattle.bench_index.proofs.Loaded.{nothing-loaded}
use Rattle.bench_index.proofs.loading.add_table.Goals as goal

pub returns-else-needs-clause-ok : goal.returns-else-needs-clause-ok
returns-else-needs-clause-ok g c = nothing-loaded g.W.Watch c.args.table (finite.get c.args.store.now.rows) g.met.W.Watch.unneeded c.args.watch.now (sym c.needs.ensures ∙ c.if-needs.false)
