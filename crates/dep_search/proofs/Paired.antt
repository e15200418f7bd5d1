-- Pairs of rows, one more and fewer.
use Rattle.std.proofs.Common.{◌≡◌, ℕ, ◌+◌, ◌<◌, ◌≤◌, true, ◌&&◌, List, [], ◌∷◌, ◌++◌, length, refl, sym, ap, ◌∙◌, arith, ⊎_elim}
use Rattle.std.specs.Prelude.{nat_eq, slice_index}
use Rattle.std.proofs.lemmas.Bool.{and_from, or_left, or_right, cases_eq, cases_lt, eq-eqb}
use Rattle.std.proofs.lemmas.List.Folds.{list_any-append}
use Rattle.dep_search.specs.Classes.{IsFrom}
use Rattle.dep_search.specs.Pairs.{AreKept, is_among}
use Rattle.dep_search.specs.declared.pairs.Pair.{Pair}

-- what is among pairs is among more
pub kept_more : (pairs : List Pair) (pair : Pair) → AreKept pairs (pairs ++ pair ∷ [])
kept_more pairs pair = λ r s e.
    list_any-append (λ (pair : Pair). nat_eq pair.one r && nat_eq pair.other s) pairs (pair ∷ [])
    ∙ or_left _ _ e

pub kept_twice : (one two three : List Pair) → AreKept one two → AreKept two three → AreKept one three
kept_twice one two three f g = λ r s e. g r s (f r s e)

-- the last pair is among them
pub last_among : (pairs : List Pair) (r s : ℕ) → is_among (pairs ++ record { one = r; other = s } ∷ []) r s ≡ true
last_among pairs r s =
    list_any-append (λ (pair : Pair). nat_eq pair.one r && nat_eq pair.other s) pairs (record { one = r; other = s } ∷ [])
    ∙ or_right _ _ (or_left _ _ (and_from _ _ (eq-eqb r r refl) (eq-eqb s s refl)))

-- the pairs of a place with those before the next one of its class
pub behind_more : (leaders : List ℕ) (pairs : List Pair) (r s next : ℕ) → IsFrom leaders (slice_index leaders s) (s + 1) next
    → slice_index leaders s ≡ slice_index leaders r
    → ((t : ℕ) → r < t → t < s → t < length leaders → slice_index leaders t ≡ slice_index leaders r → is_among pairs r t ≡ true)
    → (t : ℕ) → r < t → t < next → t < length leaders → slice_index leaders t ≡ slice_index leaders r
    → is_among (pairs ++ record { one = r; other = s } ∷ []) r t ≡ true
behind_more leaders pairs r s next from same before t rt tn tl e =
    ⊎_elim (λ (lt : t < s). kept_more pairs (record { one = r; other = s }) r t (before t rt lt tl e))
    (λ (le : s ≤ t).
    ⊎_elim (λ (here : t ≡ s). ap (λ t. is_among (pairs ++ record { one = r; other = s } ∷ []) r t) here ∙ last_among pairs r s)
    (λ (ne : t ≡ s → ⊥). absurd (from.none t (omega (arith, le, ne)) tn (e ∙ sym same)))
    (cases_eq t s))
    (cases_lt t s)
