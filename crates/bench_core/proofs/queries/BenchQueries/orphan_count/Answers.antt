use Rattle.std.proofs.Common.{refl, arith}
use Rattle.bench_core.specs.Bench.{tables_of}
use Rattle.bench_core.proofs.Answering.{cind-indexed, orphan-count, ok_weaker, rule-at}
use Rattle.bench_core.proofs.Walked.{keys-walked}
use Rattle.bench_core.proofs.queries.BenchQueries.orphan_count.Goals as goal

pub index-requires : goal.index-requires
index-requires g c =
    let project = c.self.inside.project.now in
    omega (arith, cind-indexed project.rules project.pool (tables_of project) c.self.inside.index.now c.self.invariant.0.named c.self.invariant.1 c.args.cind (rw (← c.self.view_is) at c.requires), c.self.inside.index.now.index.cinds.ok.0)

pub orphan_count-requires : goal.orphan_count-requires
orphan_count-requires g c =
    let project = c.self.inside.project.now in
    record { number = cind-indexed project.rules project.pool (tables_of project) c.self.inside.index.now c.self.invariant.0.named c.self.invariant.1 c.args.cind (rw (← c.self.view_is) at c.requires) }

pub returns-clause-count : goal.returns-clause-count
returns-clause-count g c =
    let project = c.self.inside.project.now in
    rw (← c.self.view_is) (ok_weaker c.orphan_count.result (λ found. orphan-count project.rules project.pool (tables_of project) c.self.inside.index.now c.self.invariant.0.named c.self.invariant.1 c.len-len.ensures.distinct c.args.cind found (rw (← c.self.view_is) at c.requires)) c.orphan_count.ensures.count)

pub returns-clause-probes : goal.returns-clause-probes
returns-clause-probes g c =
    let project = c.self.inside.project.now in
    let items = c.self.inside.index.now.index.cinds.items in
    let within = cind-indexed project.rules project.pool (tables_of project) c.self.inside.index.now c.self.invariant.0.named c.self.invariant.1 c.args.cind (rw (← c.self.view_is) at c.requires) in
    let here = rule-at items items c.args.cind c.index.result.now refl within c.index.ensures in
    rw (← c.self.view_is) (keys-walked project.rules project.pool (tables_of project) c.self.inside.index.now c.self.invariant.0.named c.self.invariant.1 c.args.cind c.len-len.ensures.distinct
    c.index.result.now c.dirty-dirty.result c.args.steps.now c.orphan_count.new.steps (rw (← c.self.view_is) at c.requires) here c.dirty-dirty.ensures.dirty c.dirty-dirty.ensures.marked c.orphan_count.ensures.probes)
