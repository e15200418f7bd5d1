use Rattle.std.proofs.Common.{◌≡◌, ℕ, List, Option, Some, None, Bor, ap, sym, ◌∙◌, arith}
use Rattle.std.specs.Prelude.{get_or}
use Rattle.std.specs.FinMap as finmap
use Rattle.rule_model.specs.Books.{book_deps}
use Rattle.rule_model.specs.declared.dep.Dep.{Dep}
use Rattle.row_store.specs.Tuple.{Tuple, ids_behind, ids_of}
use Rattle.bench_core.specs.Bench.{tables_of}
use Rattle.bench_core.specs.Stored.{stored}
use Rattle.bench_core.proofs.Answering.{dep-indexed, dep-valid, dep-wide, ok_weaker, row-absent, row-named, row-there, row-violations, row-wide, rule-at, store-read, table-within}
use Rattle.bench_core.proofs.Walked.{dep-rows-probed}
use Rattle.bench_core.proofs.queries.BenchQueries.violations_of_row.Goals as goal

found : (o : Option (Bor Tuple)) (tuple : Bor Tuple) (ids : Option (List ℕ)) → ids_behind o ≡ ids → o ≡ Some tuple → ids ≡ Some (ids_of tuple.now)
found o tuple ids behind is = sym behind ∙ ap ids_behind is

pub index-requires : goal.index-requires
index-requires g c =
    let rule = c.index-as_slice-dep.result in
    let at = (rule-at (book_deps c.self.inside.project.now.rules) c.as_slice.result.now c.args.dep c.index-as_slice-dep.result (c.as_slice.ensures ∙ c.deps.ensures.deps) (rw (← c.self.view_is) at c.requires.dep) c.index-as_slice-dep.is) in
    let within = table-within c.self.inside.project.now c.self.invariant.0 rule.table (dep-valid c.self.inside.project.now.rules c.deps.ensures.valid c.args.dep rule at).table in
    omega (arith, rw c.index-as_slice-dep.is at within)

pub violations_of_row-requires-clause-wide : goal.violations_of_row-requires-clause-wide
violations_of_row-requires-clause-wide g c =
    let project = c.self.inside.project.now in
    let is = found c.get.result c.in-Some.tuple (finmap.get c.index.result.now.rows c.args.row) c.get.ensures c.in-Some.is in
    dep-wide project.rules c.deps.ensures.valid project.pool _ c.self.inside.index.now c.self.invariant.1 c.args.dep (ids_of c.in-Some.tuple.now) c.index-as_slice-dep.result (rule-at (book_deps c.self.inside.project.now.rules) c.as_slice.result.now c.args.dep c.index-as_slice-dep.result (c.as_slice.ensures ∙ c.deps.ensures.deps) (rw (← c.self.view_is) at c.requires.dep) c.index-as_slice-dep.is)
    (row-wide project.rules project.limits project.pool (tables_of project) c.self.invariant.0.history.present c.index-as_slice-dep.result.table c.args.row (stored c.index.result.now) (store-read c.self.inside.project.now c.self.invariant.0 c.index-as_slice-dep.result.table (dep-valid c.self.inside.project.now.rules c.deps.ensures.valid c.args.dep c.index-as_slice-dep.result (rule-at (book_deps c.self.inside.project.now.rules) c.as_slice.result.now c.args.dep c.index-as_slice-dep.result (c.as_slice.ensures ∙ c.deps.ensures.deps) (rw (← c.self.view_is) at c.requires.dep) c.index-as_slice-dep.is)).table c.index.result.now (c.index.ensures ∙ ap (λ (rule : Dep). get_or c.self.inside.project.now.stores.items rule.table c.index.result.now) (sym c.index-as_slice-dep.is))) (ids_of c.in-Some.tuple.now) is)

pub violations_of_row-requires-clause-named : goal.violations_of_row-requires-clause-named
violations_of_row-requires-clause-named g c =
    let project = c.self.inside.project.now in
    let is = found c.get.result c.in-Some.tuple (finmap.get c.index.result.now.rows c.args.row) c.get.ensures c.in-Some.is in
    row-named project.rules project.limits project.pool (tables_of project) c.self.invariant.0.history.present c.index-as_slice-dep.result.table c.args.row (stored c.index.result.now) (store-read c.self.inside.project.now c.self.invariant.0 c.index-as_slice-dep.result.table (dep-valid c.self.inside.project.now.rules c.deps.ensures.valid c.args.dep c.index-as_slice-dep.result (rule-at (book_deps c.self.inside.project.now.rules) c.as_slice.result.now c.args.dep c.index-as_slice-dep.result (c.as_slice.ensures ∙ c.deps.ensures.deps) (rw (← c.self.view_is) at c.requires.dep) c.index-as_slice-dep.is)).table c.index.result.now (c.index.ensures ∙ ap (λ (rule : Dep). get_or c.self.inside.project.now.stores.items rule.table c.index.result.now) (sym c.index-as_slice-dep.is))) (ids_of c.in-Some.tuple.now) is c.self.invariant.0.named

pub returns-in-Some-clause-violations : goal.returns-in-Some-clause-violations
returns-in-Some-clause-violations g c =
    let project = c.self.inside.project.now in
    let is = found c.get.result c.in-Some.tuple (finmap.get c.index.result.now.rows c.args.row) c.get.ensures c.in-Some.is in
    let there = row-there project.rules project.limits project.pool (tables_of project) c.self.invariant.0.history.present c.index-as_slice-dep.result.table c.args.row (stored c.index.result.now) (store-read c.self.inside.project.now c.self.invariant.0 c.index-as_slice-dep.result.table (dep-valid c.self.inside.project.now.rules c.deps.ensures.valid c.args.dep c.index-as_slice-dep.result (rule-at (book_deps c.self.inside.project.now.rules) c.as_slice.result.now c.args.dep c.index-as_slice-dep.result (c.as_slice.ensures ∙ c.deps.ensures.deps) (rw (← c.self.view_is) at c.requires.dep) c.index-as_slice-dep.is)).table c.index.result.now (c.index.ensures ∙ ap (λ (rule : Dep). get_or c.self.inside.project.now.stores.items rule.table c.index.result.now) (sym c.index-as_slice-dep.is))) (ids_of c.in-Some.tuple.now) is in
    rw (← c.self.view_is) (ok_weaker c.violations_of_row.result (λ lines. row-violations project.rules project.pool (tables_of project) c.self.inside.index.now c.self.invariant.0.named c.self.invariant.1 c.len-len.ensures.distinct c.args.dep c.args.row (ids_of c.in-Some.tuple.now) lines c.index-as_slice-dep.result (rule-at (book_deps c.self.inside.project.now.rules) c.as_slice.result.now c.args.dep c.index-as_slice-dep.result (c.as_slice.ensures ∙ c.deps.ensures.deps) (rw (← c.self.view_is) at c.requires.dep) c.index-as_slice-dep.is) there) c.violations_of_row.ensures.violations)

pub returns-in-None-clause-violations : goal.returns-in-None-clause-violations
returns-in-None-clause-violations g c =
    let project = c.self.inside.project.now in
    let none : finmap.get c.index.result.now.rows c.args.row ≡ None = sym c.get.ensures ∙ ap ids_behind c.in-None.is in
    absurd (row-absent project.rules project.limits project.pool (tables_of project) c.self.invariant.0.history.present c.index-as_slice-dep.result.table c.args.row (stored c.index.result.now) (store-read c.self.inside.project.now c.self.invariant.0 c.index-as_slice-dep.result.table (dep-valid c.self.inside.project.now.rules c.deps.ensures.valid c.args.dep c.index-as_slice-dep.result (rule-at (book_deps c.self.inside.project.now.rules) c.as_slice.result.now c.args.dep c.index-as_slice-dep.result (c.as_slice.ensures ∙ c.deps.ensures.deps) (rw (← c.self.view_is) at c.requires.dep) c.index-as_slice-dep.is)).table c.index.result.now (c.index.ensures ∙ ap (λ (rule : Dep). get_or c.self.inside.project.now.stores.items rule.table c.index.result.now) (sym c.index-as_slice-dep.is))) none ((rw (← c.self.view_is) at c.requires.there) c.index-as_slice-dep.result (rule-at (book_deps c.self.inside.project.now.rules) c.as_slice.result.now c.args.dep c.index-as_slice-dep.result (c.as_slice.ensures ∙ c.deps.ensures.deps) (rw (← c.self.view_is) at c.requires.dep) c.index-as_slice-dep.is)))

pub returns-in-Some-clause-probes : goal.returns-in-Some-clause-probes
returns-in-Some-clause-probes g c =
    let project = c.self.inside.project.now in
    let within = dep-indexed project.rules project.pool (tables_of project) c.self.inside.index.now c.self.invariant.0.named c.self.invariant.1 c.args.dep (rw (← c.self.view_is) at c.requires.dep) in
    rw (← c.self.view_is) (dep-rows-probed project.rules project.pool (tables_of project) c.self.inside.index.now c.self.invariant.0.named c.self.invariant.1 c.args.dep c.args.steps.now c.violations_of_row.new.steps (rw (← c.self.view_is) at c.requires.dep) within c.violations_of_row.ensures.probes)
