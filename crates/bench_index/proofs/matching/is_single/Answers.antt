use Rattle.std.proofs.Common.{◌<◌, length, sym, subst}
use Rattle.std.proofs.lemmas.List.Elements.{All-tail}
use Rattle.row_store.specs.Tuple.{ids_of}
use Rattle.row_store.specs.Watch.{IsWide}
use Rattle.bench_index.proofs.matching.is_single.Goals as goal

pub matches_all-requires-clause-wide : goal.matches_all-requires-clause-wide
matches_all-requires-clause-wide c =
    let ids = ids_of c.args.tuple.now in
    let rule = c.args.rule.now in
    subst (λ x. IsWide x ids) (sym c.as_slice-2.ensures) (All-tail (λ attribute. attribute < length ids) rule.a rule.x c.requires.wide)
