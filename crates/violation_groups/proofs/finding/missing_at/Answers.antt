use Rattle.std.proofs.Common.{◌≡◌, ℕ, List, [], get_or, map, Option, sym, subst, ◌∙◌, ap}
use Rattle.std.specs.Prelude.{All, filter_map}
use Rattle.std.specs.Option.{option_map_or}
use Rattle.std.proofs.lemmas.Option.{get_or_from_slice_get}
use Rattle.rule_model.specs.Books.{IsBook, book_cinds}
use Rattle.rule_model.specs.declared.cind.Cind.{Cind}
use Rattle.bench_core.specs.Answers.{cind_orphans, orphans_at}
use Rattle.bench_core.specs.Bench.{BenchModel}
use Rattle.violation_groups.specs.ByIds.{IsKnownKeyed, keyed_named}
use Rattle.violation_groups.specs.Groups.{AreMissing}
use Rattle.violation_groups.specs.Listed.{listed_orphan_of}
use Rattle.violation_groups.proofs.Steps.{cind-there, if_ok}
use Rattle.violation_groups.proofs.finding.missing_at.Goals as goal

pub listed_orphans-requires : goal.listed_orphans-requires
listed_orphans-requires g c =
    let rules = c.as_slice.ensures ∙ c.cinds.ensures.cinds ∙ ap book_cinds c.rules.ensures.value in
    cind-there c.args.bench.now.rules c.args.bench.now.limits c.args.bench.now.history c.rules.ensures.valid (subst IsBook c.rules.ensures.value c.cinds.ensures.valid) c.args.number c.index-as_slice-number.result c.requires
    (c.index-as_slice-number.is ∙ ap (λ (l : List Cind). get_or l c.args.number c.index-as_slice-number.result) rules)

pub missing_of-requires : goal.missing_of-requires
missing_of-requires g c = subst (λ texts. All (IsKnownKeyed texts) c.in_ok-rows.rows.items) (sym c.pool.ensures) c.in_ok-rows.ensures.known

pub returns-clause-missing : goal.returns-clause-missing
returns-clause-missing g c =
    let state = c.args.bench.now.history.present in
    let own = c.index-as_slice-number.result in
    let rules = c.as_slice.ensures ∙ c.cinds.ensures.cinds ∙ ap book_cinds c.rules.ensures.value in
    if_ok c.missing_of.result c.missing_of.ensures (λ found are. λ rule at.
    let same : own ≡ rule = c.index-as_slice-number.is ∙ ap (λ (l : List Cind). get_or l c.args.number own) rules ∙ get_or_from_slice_get (book_cinds c.args.bench.now.rules) c.args.number rule own at in
    let told = ap (λ (texts : List (List ℕ)). map (keyed_named texts) c.in_ok-rows.rows.items) c.pool.ensures ∙ c.in_ok-rows.ensures.rows
    ∙ ap (filter_map (listed_orphan_of state own)) (c.as_slice-2.ensures ∙ c.in_ok-found.ensures.orphans ∙ ap (λ (b : BenchModel). orphans_at b.rules b.history.present c.args.number) c.queries.ensures ∙ ap (λ (o : Option Cind). option_map_or (cind_orphans state) o []) at)
    ∙ ap (λ (r : Cind). filter_map (listed_orphan_of state r) (cind_orphans state rule)) same in
    subst (λ l. AreMissing l found) told are)
