-- What is found of an attribute outside X.
use Rattle.std.proofs.Common.{◌≡◌, ℕ, ◌||◌, false, List, [], ◌∷◌, ◌++◌, refl, sym}
use Rattle.std.specs.Prelude.{nat_eq}
use Rattle.std.specs.List.{list_any}
use Rattle.dep_search.specs.Rows.{Row}
use Rattle.dep_search.specs.Found.{found_at, plain_at, constants_at}
use Rattle.std.proofs.lemmas.Bool.{cond-false, eq-eqb, eqb-true}
use Rattle.dep_search.proofs.Counted.{same_bool}

-- what is found where A isn't in X
pub found_outside : (rows : List Row) (support side : ℕ) (x : List ℕ) (a : ℕ) → list_any (nat_eq a) x ≡ false
    → found_at rows support side x a ≡ plain_at rows side x a ++ constants_at rows support side x a
unfolding found_at
found_outside rows support side x a e = cond-false _ _ _ e

-- a number among others, the one test or the other way round
pub any_flipped : (a : ℕ) (x : List ℕ) → list_any (λ y. nat_eq y a) x ≡ list_any (nat_eq a) x
any_flipped a [] = refl
any_flipped a (y ∷ x) =
    let here : nat_eq y a ≡ nat_eq a y = same_bool _ _ (λ e. eq-eqb a y (sym (eqb-true y a e))) (λ e. eq-eqb y a (sym (eqb-true a y e))) in
    let there = any_flipped a x in
    λ i. here i || there i
