use Rattle.std.proofs.Common.{◌≡◌, List, [], ◌∷◌, length, ◌∙◌, sym, refl, ap, arith}
use Rattle.std.proofs.lemmas.Bool.{eqb-true, eq-eqb}
use Rattle.cert_check.proofs.tuples.satisfy.Goals as goal

none_of : {X : Type 0} (xs : List X) → length xs ≡ 0 → xs ≡ []
none_of [] zero = refl
none_of (x ∷ xs) zero = absurd (omega arith)

pub returns : goal.returns
returns c =
    let empty = c.is_empty.ensures in
    let slice = c.as_slice.ensures in
    let law = c.in_ok-found.ensures.law in (
      λ yes. law.0 (none_of c.in_ok-found.found (ap length (sym slice) ∙ eqb-true (length c.as_slice.result.now) 0 (sym empty ∙ yes))),
      λ satisfied. empty ∙ eq-eqb (length c.as_slice.result.now) 0 (ap length (slice ∙ law.1 satisfied)),
    )
