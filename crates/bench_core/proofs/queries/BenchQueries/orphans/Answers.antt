use Rattle.std.proofs.Common.{refl, arith}
use Rattle.bench_core.specs.Bench.{tables_of}
use Rattle.bench_core.proofs.Answering.{cind-indexed, orphans-are, ok_weaker, rule-at}
use Rattle.bench_core.proofs.Walked.{keys-walked}
use Rattle.bench_core.proofs.queries.BenchQueries.orphans.Goals as goal

pub index-requires : goal.index-requires
index-requires g c =
    let project = c.self.inside.project.now in
    omega (arith, cind-indexed project.rules project.pool (tables_of project) c.self.inside.index.now c.self.invariant.0.named c.self.invariant.1 c.args.cind (rw (← c.self.view_is) at c.requires), c.self.inside.index.now.index.cinds.ok.0)

pub orphans-requires : goal.orphans-requires
orphans-requires g c =
    let project = c.self.inside.project.now in
    record { number = cind-indexed project.rules project.pool (tables_of project) c.self.inside.index.now c.self.invariant.0.named c.self.invariant.1 c.args.cind (rw (← c.self.view_is) at c.requires) }

pub returns-clause-orphans : goal.returns-clause-orphans
returns-clause-orphans g c =
    let project = c.self.inside.project.now in
    rw (← c.self.view_is) (ok_weaker c.orphans.result (λ found. orphans-are project.rules project.pool (tables_of project) c.self.inside.index.now c.self.invariant.0.named c.self.invariant.1 c.len-len.ensures.distinct c.args.cind found (rw (← c.self.view_is) at c.requires)) c.orphans.ensures.orphans)

pub returns-clause-probes : goal.returns-clause-probes
returns-clause-probes g c =
    let project = c.self.inside.project.now in
    let items = c.self.inside.index.now.index.cinds.items in
    let within = cind-indexed project.rules project.pool (tables_of project) c.self.inside.index.now c.self.invariant.0.named c.self.invariant.1 c.args.cind (rw (← c.self.view_is) at c.requires) in
    let here = rule-at items items c.args.cind c.index.result.now refl within c.index.ensures in
    rw (← c.self.view_is) (keys-walked project.rules project.pool (tables_of project) c.self.inside.index.now c.self.invariant.0.named c.self.invariant.1 c.args.cind c.len-len.ensures.distinct
    c.index.result.now c.dirty-dirty.result c.args.steps.now c.orphans.new.steps (rw (← c.self.view_is) at c.requires) here c.dirty-dirty.ensures.dirty c.dirty-dirty.ensures.marked c.orphans.ensures.probes)
