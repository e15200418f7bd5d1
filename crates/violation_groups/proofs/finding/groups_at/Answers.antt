use Rattle.std.proofs.Common.{◌≡◌, ℕ, List, [], get_or, map, Option, sym, subst, ◌∙◌, ap}
use Rattle.std.specs.Prelude.{All, filter_map}
use Rattle.std.specs.Option.{option_map_or}
use Rattle.std.proofs.lemmas.Option.{get_or_from_slice_get}
use Rattle.rule_model.specs.Books.{IsBook, book_deps}
use Rattle.rule_model.specs.declared.dep.Dep.{Dep}
use Rattle.bench_core.specs.Answers.{dep_violations, violations_at}
use Rattle.bench_core.specs.Bench.{BenchModel}
use Rattle.violation_groups.specs.ByIds.{IsKnownRow, row_named}
use Rattle.violation_groups.specs.Groups.{AreGroups}
use Rattle.violation_groups.specs.Listed.{listed_of}
use Rattle.violation_groups.proofs.Steps.{dep-there, if_ok}
use Rattle.violation_groups.proofs.finding.groups_at.Goals as goal

pub listed_rows-requires : goal.listed_rows-requires
listed_rows-requires g c =
    let rules = c.as_slice.ensures ∙ c.deps.ensures.deps ∙ ap book_deps c.rules.ensures.value in
    dep-there c.args.bench.now.rules c.args.bench.now.limits c.args.bench.now.history c.rules.ensures.valid (subst IsBook c.rules.ensures.value c.deps.ensures.valid) c.args.number c.index-as_slice-number.result c.requires
    (c.index-as_slice-number.is ∙ ap (λ (l : List Dep). get_or l c.args.number c.index-as_slice-number.result) rules)

pub groups_of-requires : goal.groups_of-requires
groups_of-requires g c = subst (λ texts. All (IsKnownRow texts) c.in_ok-rows.rows.items) (sym c.pool.ensures) c.in_ok-rows.ensures.known

pub returns-clause-groups : goal.returns-clause-groups
returns-clause-groups g c =
    let state = c.args.bench.now.history.present in
    let own = c.index-as_slice-number.result in
    let rules = c.as_slice.ensures ∙ c.deps.ensures.deps ∙ ap book_deps c.rules.ensures.value in
    if_ok c.groups_of.result c.groups_of.ensures (λ found are. λ rule at.
    let same : own ≡ rule = c.index-as_slice-number.is ∙ ap (λ (l : List Dep). get_or l c.args.number own) rules ∙ get_or_from_slice_get (book_deps c.args.bench.now.rules) c.args.number rule own at in
    let told = ap (λ (texts : List (List ℕ)). map (row_named texts) c.in_ok-rows.rows.items) c.pool.ensures ∙ c.in_ok-rows.ensures.rows
    ∙ ap (filter_map (listed_of state own)) (c.as_slice-2.ensures ∙ c.in_ok-found.ensures.violations ∙ ap (λ (b : BenchModel). violations_at b.rules b.history.present c.args.number) c.queries.ensures ∙ ap (λ (o : Option Dep). option_map_or (dep_violations state) o []) at)
    ∙ ap (λ (r : Dep). filter_map (listed_of state r) (dep_violations state rule)) same in
    subst (λ l. AreGroups l found) told are)
