use Rattle.std.proofs.Common.{arith}
use Rattle.bench_core.proofs.Filled.{length-state}
use Rattle.bench_core.proofs.bench.Bench.table_count.Goals as goal

pub returns : goal.returns
returns c =
    let stores = c.self.inside.project.stores in
    rw (← c.self.view_is) (omega (arith, length-state c.self.inside.project.pool stores.items, stores.ok.0))
