use Rattle.std.proofs.Common.{refl, arith}
use Rattle.bench_core.specs.Bench.{tables_of}
use Rattle.bench_core.proofs.Answering.{dep-indexed, violation-count, ok_weaker, rule-at, settled}
use Rattle.bench_core.proofs.Walked.{groups-walked}
use Rattle.bench_core.proofs.queries.BenchQueries.violation_count.Goals as goal

pub index-requires : goal.index-requires
index-requires g c =
    let project = c.self.inside.project.now in
    omega (arith, dep-indexed project.rules project.pool (tables_of project) c.self.inside.index.now c.self.invariant.0.named c.self.invariant.1 c.args.dep (rw (← c.self.view_is) at c.requires), c.self.inside.index.now.index.groups.ok.0)

pub violation_count-requires-clause-number : goal.violation_count-requires-clause-number
violation_count-requires-clause-number g c =
    let project = c.self.inside.project.now in
    dep-indexed project.rules project.pool (tables_of project) c.self.inside.index.now c.self.invariant.0.named c.self.invariant.1 c.args.dep (rw (← c.self.view_is) at c.requires)

pub violation_count-requires-clause-settled : goal.violation_count-requires-clause-settled
violation_count-requires-clause-settled g c =
    let project = c.self.inside.project.now in
    settled project.rules project.pool (tables_of project) c.self.inside.index.now c.self.invariant.0.named c.self.invariant.1

pub returns-clause-count : goal.returns-clause-count
returns-clause-count g c =
    let project = c.self.inside.project.now in
    rw (← c.self.view_is) (ok_weaker c.violation_count.result (λ found. violation-count project.rules project.pool (tables_of project) c.self.inside.index.now c.self.invariant.0.named c.self.invariant.1 c.len-len.ensures.distinct c.args.dep found (rw (← c.self.view_is) at c.requires)) c.violation_count.ensures.count)

pub returns-clause-probes : goal.returns-clause-probes
returns-clause-probes g c =
    let project = c.self.inside.project.now in
    let items = c.self.inside.index.now.index.groups.items in
    let within = dep-indexed project.rules project.pool (tables_of project) c.self.inside.index.now c.self.invariant.0.named c.self.invariant.1 c.args.dep (rw (← c.self.view_is) at c.requires) in
    let here = rule-at items items c.args.dep c.index.result.now refl within c.index.ensures in
    rw (← c.self.view_is) (groups-walked project.rules project.pool (tables_of project) c.self.inside.index.now c.self.invariant.0.named c.self.invariant.1 c.args.dep c.len-len.ensures.distinct
    c.index.result.now c.dirty-dirty.result c.args.steps.now c.violation_count.new.steps (rw (← c.self.view_is) at c.requires) here c.dirty-dirty.ensures.groups c.dirty-dirty.ensures.count c.violation_count.ensures.probes)
