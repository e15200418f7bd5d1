use Rattle.bench_core.specs.Bench.{tables_of}
use Rattle.bench_core.proofs.MasterRows.{are-masters}
use Rattle.bench_core.proofs.bench.Bench.masters.Goals as goal

pub returns : goal.returns
returns c =
    let project = c.self.inside.project in
    let held = c.self.invariant.0 in
    rw (← c.self.view_is) (are-masters project.rules project.limits project.pool (tables_of project) c.self.inside.index held.history.present held.named c.self.invariant.1)
