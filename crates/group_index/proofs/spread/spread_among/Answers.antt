use Rattle.std.proofs.Common.{◌≡◌, ◌∙◌, sym, ap, rules, tests, not}
use Rattle.std.specs.Prelude.{nat_eq, option_copied}
use Rattle.std.specs.List.{list_any}
use Rattle.std.proofs.lemmas.Iterator.{YieldsList-from_slice}
use Rattle.std.proofs.lemmas.Iterator.Search.{any_from_yields_List}
use Rattle.group_index.specs.Pairs.{Pair}
use Rattle.group_index.proofs.SpreadFacts.{first_inside, mixed_among, alike_among}
use Rattle.group_index.proofs.spread.spread_among.Goals as goal

pub returns-then-any-clause-spread : goal.returns-then-any-clause-spread
returns-then-any-clause-spread c =
    let tells : c.any.result ≡ list_any (λ (p : Pair). not (nat_eq p.0 c.in-Some.field-0.now.0)) c.args.pairs.now =
    any_from_yields_List (λ (p : Pair). not (nat_eq p.0 c.in-Some.field-0.now.0)) _ _ _ c.any.ensures.ran (YieldsList-from_slice c.args.pairs.now (search rules)) (λ x b q k. search (rules, tests)) in
    mixed_among c.args.pairs.now c.in-Some.field-0.now (first_inside c.args.pairs.now c.in-Some.field-0.now (sym c.first.ensures.value ∙ ap option_copied c.in-Some.is)) (sym tells ∙ c.if-any.true)

pub returns-else-any-clause-spread : goal.returns-else-any-clause-spread
returns-else-any-clause-spread c =
    let tells : c.any.result ≡ list_any (λ (p : Pair). not (nat_eq p.0 c.in-Some.field-0.now.0)) c.args.pairs.now =
    any_from_yields_List (λ (p : Pair). not (nat_eq p.0 c.in-Some.field-0.now.0)) _ _ _ c.any.ensures.ran (YieldsList-from_slice c.args.pairs.now (search rules)) (λ x b q k. search (rules, tests)) in
    alike_among c.args.pairs.now c.in-Some.field-0.now (first_inside c.args.pairs.now c.in-Some.field-0.now (sym c.first.ensures.value ∙ ap option_copied c.in-Some.is)) (sym tells ∙ c.if-any.false)
