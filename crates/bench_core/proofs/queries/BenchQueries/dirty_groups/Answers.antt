use Rattle.std.proofs.Common.{refl, arith}
use Rattle.bench_core.specs.Bench.{tables_of}
use Rattle.bench_core.proofs.Answering.{dep-indexed, rule-at}
use Rattle.bench_core.proofs.Walked.{groups-dirty}
use Rattle.bench_core.proofs.queries.BenchQueries.dirty_groups.Goals as goal

pub index-requires : goal.index-requires
index-requires c =
    let project = c.self.inside.project.now in
    omega (arith, dep-indexed project.rules project.pool (tables_of project) c.self.inside.index.now c.self.invariant.0.named c.self.invariant.1 c.args.dep (rw (← c.self.view_is) at c.requires), c.self.inside.index.now.index.groups.ok.0)

pub returns : goal.returns
returns c =
    let project = c.self.inside.project.now in
    let items = c.self.inside.index.now.index.groups.items in
    let within = dep-indexed project.rules project.pool (tables_of project) c.self.inside.index.now c.self.invariant.0.named c.self.invariant.1 c.args.dep (rw (← c.self.view_is) at c.requires) in
    let here = rule-at items items c.args.dep c.index.result.now refl within c.index.ensures in
    rw (← c.self.view_is) (groups-dirty project.rules project.pool (tables_of project) c.self.inside.index.now c.self.invariant.0.named c.self.invariant.1 c.args.dep c.len-len.ensures.distinct c.index.result.now c.dirty.result (rw (← c.self.view_is) at c.requires) here c.dirty.ensures.groups)
