use Rattle.std.proofs.Common.{◌≡◌, ℕ, List, Option, Some, None, Bor, ap, sym, ◌∙◌, arith}
use Rattle.std.specs.Prelude.{get_or}
use Rattle.std.specs.FinMap as finmap
use Rattle.rule_model.specs.Books.{book_cinds}
use Rattle.rule_model.specs.declared.cind.Cind.{Cind}
use Rattle.row_store.specs.Tuple.{Tuple, ids_behind, ids_of}
use Rattle.bench_core.specs.Bench.{tables_of}
use Rattle.bench_core.specs.Stored.{stored}
use Rattle.bench_core.proofs.Answering.{cind-indexed, cind-valid, cind-wide, ok_weaker, row-absent, row-there, row-orphans, row-wide, rule-at, store-read, table-within}
use Rattle.bench_core.proofs.Walked.{cind-rows-probed}
use Rattle.bench_core.proofs.queries.BenchQueries.orphans_of_row.Goals as goal

found : (o : Option (Bor Tuple)) (tuple : Bor Tuple) (ids : Option (List ℕ)) → ids_behind o ≡ ids → o ≡ Some tuple → ids ≡ Some (ids_of tuple.now)
found o tuple ids behind is = sym behind ∙ ap ids_behind is

pub index-requires : goal.index-requires
index-requires g c =
    let rule = c.index-as_slice-cind.result in
    let at = (rule-at (book_cinds c.self.inside.project.now.rules) c.as_slice.result.now c.args.cind c.index-as_slice-cind.result (c.as_slice.ensures ∙ c.cinds.ensures.cinds) (rw (← c.self.view_is) at c.requires.cind) c.index-as_slice-cind.is) in
    let within = table-within c.self.inside.project.now c.self.invariant.0 rule.left (cind-valid c.self.inside.project.now.rules c.cinds.ensures.valid c.args.cind rule at).left in
    omega (arith, rw c.index-as_slice-cind.is at within)

pub orphans_of_row-requires-clause-wide : goal.orphans_of_row-requires-clause-wide
orphans_of_row-requires-clause-wide g c =
    let project = c.self.inside.project.now in
    let is = found c.get.result c.in-Some.tuple (finmap.get c.index.result.now.rows c.args.row) c.get.ensures c.in-Some.is in
    cind-wide project.rules c.cinds.ensures.valid project.pool _ c.self.inside.index.now c.self.invariant.1 c.args.cind (ids_of c.in-Some.tuple.now) c.index-as_slice-cind.result (rule-at (book_cinds c.self.inside.project.now.rules) c.as_slice.result.now c.args.cind c.index-as_slice-cind.result (c.as_slice.ensures ∙ c.cinds.ensures.cinds) (rw (← c.self.view_is) at c.requires.cind) c.index-as_slice-cind.is)
    (row-wide project.rules project.limits project.pool (tables_of project) c.self.invariant.0.history.present c.index-as_slice-cind.result.left c.args.row (stored c.index.result.now) (store-read c.self.inside.project.now c.self.invariant.0 c.index-as_slice-cind.result.left (cind-valid c.self.inside.project.now.rules c.cinds.ensures.valid c.args.cind c.index-as_slice-cind.result (rule-at (book_cinds c.self.inside.project.now.rules) c.as_slice.result.now c.args.cind c.index-as_slice-cind.result (c.as_slice.ensures ∙ c.cinds.ensures.cinds) (rw (← c.self.view_is) at c.requires.cind) c.index-as_slice-cind.is)).left c.index.result.now (c.index.ensures ∙ ap (λ (rule : Cind). get_or c.self.inside.project.now.stores.items rule.left c.index.result.now) (sym c.index-as_slice-cind.is))) (ids_of c.in-Some.tuple.now) is)

pub returns-in-Some-clause-orphans : goal.returns-in-Some-clause-orphans
returns-in-Some-clause-orphans g c =
    let project = c.self.inside.project.now in
    let is = found c.get.result c.in-Some.tuple (finmap.get c.index.result.now.rows c.args.row) c.get.ensures c.in-Some.is in
    let there = row-there project.rules project.limits project.pool (tables_of project) c.self.invariant.0.history.present c.index-as_slice-cind.result.left c.args.row (stored c.index.result.now) (store-read c.self.inside.project.now c.self.invariant.0 c.index-as_slice-cind.result.left (cind-valid c.self.inside.project.now.rules c.cinds.ensures.valid c.args.cind c.index-as_slice-cind.result (rule-at (book_cinds c.self.inside.project.now.rules) c.as_slice.result.now c.args.cind c.index-as_slice-cind.result (c.as_slice.ensures ∙ c.cinds.ensures.cinds) (rw (← c.self.view_is) at c.requires.cind) c.index-as_slice-cind.is)).left c.index.result.now (c.index.ensures ∙ ap (λ (rule : Cind). get_or c.self.inside.project.now.stores.items rule.left c.index.result.now) (sym c.index-as_slice-cind.is))) (ids_of c.in-Some.tuple.now) is in
    rw (← c.self.view_is) (ok_weaker c.orphans_of_row.result (λ lines. row-orphans project.rules project.pool (tables_of project) c.self.inside.index.now c.self.invariant.0.named c.self.invariant.1 c.len-len.ensures.distinct c.args.cind c.args.row (ids_of c.in-Some.tuple.now) lines c.index-as_slice-cind.result (rule-at (book_cinds c.self.inside.project.now.rules) c.as_slice.result.now c.args.cind c.index-as_slice-cind.result (c.as_slice.ensures ∙ c.cinds.ensures.cinds) (rw (← c.self.view_is) at c.requires.cind) c.index-as_slice-cind.is) there) c.orphans_of_row.ensures.orphans)

pub returns-in-None-clause-orphans : goal.returns-in-None-clause-orphans
returns-in-None-clause-orphans g c =
    let project = c.self.inside.project.now in
    let none : finmap.get c.index.result.now.rows c.args.row ≡ None = sym c.get.ensures ∙ ap ids_behind c.in-None.is in
    absurd (row-absent project.rules project.limits project.pool (tables_of project) c.self.invariant.0.history.present c.index-as_slice-cind.result.left c.args.row (stored c.index.result.now) (store-read c.self.inside.project.now c.self.invariant.0 c.index-as_slice-cind.result.left (cind-valid c.self.inside.project.now.rules c.cinds.ensures.valid c.args.cind c.index-as_slice-cind.result (rule-at (book_cinds c.self.inside.project.now.rules) c.as_slice.result.now c.args.cind c.index-as_slice-cind.result (c.as_slice.ensures ∙ c.cinds.ensures.cinds) (rw (← c.self.view_is) at c.requires.cind) c.index-as_slice-cind.is)).left c.index.result.now (c.index.ensures ∙ ap (λ (rule : Cind). get_or c.self.inside.project.now.stores.items rule.left c.index.result.now) (sym c.index-as_slice-cind.is))) none ((rw (← c.self.view_is) at c.requires.there) c.index-as_slice-cind.result (rule-at (book_cinds c.self.inside.project.now.rules) c.as_slice.result.now c.args.cind c.index-as_slice-cind.result (c.as_slice.ensures ∙ c.cinds.ensures.cinds) (rw (← c.self.view_is) at c.requires.cind) c.index-as_slice-cind.is)))

pub orphans_of_row-requires-clause-number : goal.orphans_of_row-requires-clause-number
orphans_of_row-requires-clause-number g c =
    let project = c.self.inside.project.now in
    cind-indexed project.rules project.pool (tables_of project) c.self.inside.index.now c.self.invariant.0.named c.self.invariant.1 c.args.cind (rw (← c.self.view_is) at c.requires.cind)

pub returns-in-Some-clause-probes : goal.returns-in-Some-clause-probes
returns-in-Some-clause-probes g c =
    let project = c.self.inside.project.now in
    let within = cind-indexed project.rules project.pool (tables_of project) c.self.inside.index.now c.self.invariant.0.named c.self.invariant.1 c.args.cind (rw (← c.self.view_is) at c.requires.cind) in
    rw (← c.self.view_is) (cind-rows-probed project.rules project.pool (tables_of project) c.self.inside.index.now c.self.invariant.0.named c.self.invariant.1 c.args.cind c.args.steps.now c.orphans_of_row.new.steps (rw (← c.self.view_is) at c.requires.cind) within c.orphans_of_row.ensures.probes)
