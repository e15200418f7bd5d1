use Rattle.std.proofs.Common.{◌≡◌, Some, None, sym, ◌∙◌, ap}
use Rattle.std.specs.Prelude.{option_map}
use Rattle.row_store.specs.Tuple.{ids_of}
use Rattle.cfd_semantics.specs.Tuple.{values_at}
use Rattle.cfd_semantics.proofs.Renamed.{values_at-known}
use Rattle.bench_core.specs.Stored.{stored}
use Rattle.bench_core.proofs.Planned.{have-texts}
use Rattle.violation_groups.specs.ByIds.{HasText}
use Rattle.violation_groups.proofs.Listing.{orphan-absent, orphan-there, orphan_named}
use Rattle.violation_groups.proofs.listed.listed_orphan.Goals as goal

pub returns-in_default-clause-row : goal.returns-in_default-clause-row
returns-in_default-clause-row c =
    sym (orphan-absent c.args.bench.now.history.present c.args.bench.now.texts c.args.cind.now c.store.result.now c.store.ensures.state c.args.k c.args.row (sym c.in_default.ensures))

pub returns-in-Some-2-clause-row : goal.returns-in-Some-2-clause-row
returns-in-Some-2-clause-row c =
    let key : Some c.in-Some-2.x.items ≡ values_at (ids_of c.in-Some.tuple.now) c.args.cind.now.rule.x =
    ap (option_map (λ v. v.items)) (sym c.in-Some-2.is) ∙ c.in_ok-x.ensures ∙ ap (λ ids. values_at ids c.as_slice-2.result.now) c.as_slice.ensures.value ∙ ap (values_at (ids_of c.in-Some.tuple.now)) c.as_slice-2.ensures in
    ap (option_map (orphan_named c.args.bench.now.texts c.args.k c.args.row)) key
    ∙ sym (orphan-there c.args.bench.now.history.present c.args.bench.now.texts c.args.cind.now c.store.result.now c.store.ensures.state c.args.k c.args.row (ids_of c.in-Some.tuple.now) (sym c.in-Some.ensures))

pub returns-in-Some-2-clause-known : goal.returns-in-Some-2-clause-known
returns-in-Some-2-clause-known c =
    let key : Some c.in-Some-2.x.items ≡ values_at (ids_of c.in-Some.tuple.now) c.args.cind.now.rule.x =
    ap (option_map (λ v. v.items)) (sym c.in-Some-2.is) ∙ c.in_ok-x.ensures ∙ ap (λ ids. values_at ids c.as_slice-2.result.now) c.as_slice.ensures.value ∙ ap (values_at (ids_of c.in-Some.tuple.now)) c.as_slice-2.ensures in
    values_at-known (HasText c.args.bench.now.texts) (ids_of c.in-Some.tuple.now) c.args.cind.now.rule.x c.in-Some-2.x.items
    (have-texts c.args.bench.now.texts (stored c.store.result.now) c.args.row (ids_of c.in-Some.tuple.now) c.store.ensures.texts (sym c.in-Some.ensures)) (sym key)

pub returns-in-None-clause-row : goal.returns-in-None-clause-row
returns-in-None-clause-row c =
    let key : None ≡ values_at (ids_of c.in-Some.tuple.now) c.args.cind.now.rule.x =
    ap (option_map (λ v. v.items)) (sym c.in-None.is) ∙ c.in_ok-x.ensures ∙ ap (λ ids. values_at ids c.as_slice-2.result.now) c.as_slice.ensures.value ∙ ap (values_at (ids_of c.in-Some.tuple.now)) c.as_slice-2.ensures in
    ap (option_map (orphan_named c.args.bench.now.texts c.args.k c.args.row)) key
    ∙ sym (orphan-there c.args.bench.now.history.present c.args.bench.now.texts c.args.cind.now c.store.result.now c.store.ensures.state c.args.k c.args.row (ids_of c.in-Some.tuple.now) (sym c.in-Some.ensures))
