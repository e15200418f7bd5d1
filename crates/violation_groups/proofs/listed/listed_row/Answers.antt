use Rattle.std.proofs.Common.{◌≡◌, Some, None, sym, ◌∙◌, ap}
use Rattle.std.specs.Prelude.{option_map}
use Rattle.row_store.specs.Tuple.{ids_of}
use Rattle.bench_core.specs.Stored.{stored}
use Rattle.bench_core.proofs.Planned.{have-texts}
use Rattle.violation_groups.specs.ByIds.{sides_by_ids}
use Rattle.violation_groups.proofs.Listing.{listed-absent, listed-there, sides-known, sides_named}
use Rattle.violation_groups.proofs.listed.listed_row.Goals as goal

pub returns-in_default-clause-row : goal.returns-in_default-clause-row
returns-in_default-clause-row c =
    sym (listed-absent c.args.bench.now.history.present c.args.bench.now.texts c.args.dep.now c.store.result.now c.store.ensures.state c.args.k c.args.violation.now (sym c.in_default.ensures))

pub returns-in-Some-2-clause-row : goal.returns-in-Some-2-clause-row
returns-in-Some-2-clause-row c =
    let sides : Some (c.in-Some-2.x.items, c.in-Some-2.a) ≡ sides_by_ids (ids_of c.in-Some.tuple.now) c.args.dep.now.rule =
    ap (option_map (λ s. (s.0.items, s.1))) (sym c.in-Some-2.is) ∙ c.in_ok-x.ensures ∙ ap (λ ids. sides_by_ids ids c.args.dep.now.rule) c.as_slice.ensures.value in
    ap (option_map (sides_named c.args.bench.now.texts c.args.k c.args.violation.now.row)) sides
    ∙ sym (listed-there c.args.bench.now.history.present c.args.bench.now.texts c.args.dep.now c.store.result.now c.store.ensures.state c.args.k c.args.violation.now (ids_of c.in-Some.tuple.now) (sym c.in-Some.ensures))

pub returns-in-Some-2-clause-known : goal.returns-in-Some-2-clause-known
returns-in-Some-2-clause-known c =
    let sides : Some (c.in-Some-2.x.items, c.in-Some-2.a) ≡ sides_by_ids (ids_of c.in-Some.tuple.now) c.args.dep.now.rule =
    ap (option_map (λ s. (s.0.items, s.1))) (sym c.in-Some-2.is) ∙ c.in_ok-x.ensures ∙ ap (λ ids. sides_by_ids ids c.args.dep.now.rule) c.as_slice.ensures.value in
    sides-known c.args.bench.now.texts (ids_of c.in-Some.tuple.now) c.args.dep.now.rule.x c.args.dep.now.rule.a (c.in-Some-2.x.items, c.in-Some-2.a)
    (have-texts c.args.bench.now.texts (stored c.store.result.now) c.args.violation.now.row (ids_of c.in-Some.tuple.now) c.store.ensures.texts (sym c.in-Some.ensures)) (sym sides)

pub returns-in-None-clause-row : goal.returns-in-None-clause-row
returns-in-None-clause-row c =
    let sides : None ≡ sides_by_ids (ids_of c.in-Some.tuple.now) c.args.dep.now.rule =
    ap (option_map (λ s. (s.0.items, s.1))) (sym c.in-None.is) ∙ c.in_ok-x.ensures ∙ ap (λ ids. sides_by_ids ids c.args.dep.now.rule) c.as_slice.ensures.value in
    ap (option_map (sides_named c.args.bench.now.texts c.args.k c.args.violation.now.row)) sides
    ∙ sym (listed-there c.args.bench.now.history.present c.args.bench.now.texts c.args.dep.now c.store.result.now c.store.ensures.state c.args.k c.args.violation.now (ids_of c.in-Some.tuple.now) (sym c.in-Some.ensures))
