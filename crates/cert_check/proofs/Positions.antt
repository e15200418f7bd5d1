-- The first place of a list that passes a test.
use Rattle.std.proofs.Common.{inl, inr, ◌≡◌, ℕ, zero, suc, ◌+◌, ◌<◌, ◌≤◌, Bool, true, false, cond, not, List, [], ◌∷◌, ◌++◌, length, Some, refl, sym, ap, ◌∙◌, arith}
use Rattle.std.specs.Prelude.{map, slice_get}
use Rattle.std.specs.List.{position_or_len}
use Rattle.std.specs.Str.{bytes_eq}
use Rattle.std.proofs.lemmas.Bool.{cases_Bool, eq-eqb, ne_eqb}
use Rattle.std.proofs.lemmas.List.Folds.{prefix_len-append}
use Rattle.std.proofs.lemmas.List.Sums.{prefix_len-le-length}
use Rattle.std.proofs.lemmas.Slice.Eq.{bytes_eq-Decides}

pub place_within : {X : Type 0} (p : X → Bool) (xs : List X) → position_or_len p xs ≤ length xs
place_within p xs = prefix_len-le-length (λ x. not (p x)) xs

flipped : (b : Bool) (m n : ℕ) → cond (not b) m n ≡ cond b n m
flipped true m n = refl
flipped false m n = refl

pub place-cons : {X : Type 0} (p : X → Bool) (x : X) (xs : List X) → position_or_len p (x ∷ xs) ≡ cond (p x) 0 (1 + position_or_len p xs)
place-cons p x xs = flipped (p x) (1 + position_or_len p xs) 0

pub place-here : {X : Type 0} (p : X → Bool) (x : X) (xs : List X) → p x ≡ true → position_or_len p (x ∷ xs) ≡ 0
place-here p x xs passes = place-cons p x xs ∙ ap (λ (b : Bool). cond b 0 (1 + position_or_len p xs)) passes

pub place-later : {X : Type 0} (p : X → Bool) (x : X) (xs : List X) → p x ≡ false → position_or_len p (x ∷ xs) ≡ 1 + position_or_len p xs
place-later p x xs fails = place-cons p x xs ∙ ap (λ (b : Bool). cond b 0 (1 + position_or_len p xs)) fails

-- in two lists, one after the other
pub place-left : {X : Type 0} (p : X → Bool) (xs ys : List X) → position_or_len p xs < length xs → position_or_len p (xs ++ ys) ≡ position_or_len p xs
place-left p xs ys within =
    prefix_len-append (λ x. not (p x)) xs ys
    ∙ ap (λ (b : Bool). cond b (length xs + position_or_len p ys) (position_or_len p xs)) (ne_eqb (position_or_len p xs) (length xs) (λ same. omega arith))

pub place-right : {X : Type 0} (p : X → Bool) (xs ys : List X) → length xs ≤ position_or_len p xs → position_or_len p (xs ++ ys) ≡ length xs + position_or_len p ys
place-right p xs ys past =
    prefix_len-append (λ x. not (p x)) xs ys
    ∙ ap (λ (b : Bool). cond b (length xs + position_or_len p ys) (position_or_len p xs)) (eq-eqb (position_or_len p xs) (length xs) (omega (arith, place_within p xs)))

pub place-map : {X Y : Type 0} (p : Y → Bool) (f : X → Y) (xs : List X) → position_or_len p (map f xs) ≡ position_or_len (λ x. p (f x)) xs
place-map p f [] = refl
place-map p f (x ∷ xs) = ap (λ n. cond (not (p (f x))) (1 + n) 0) (place-map p f xs)

pub place-none : {X : Type 0} (xs : List X) → position_or_len (λ (x : X). false) xs ≡ length xs
place-none [] = refl
place-none (x ∷ xs) = let rest = place-none xs in omega arith

-- ---- texts

other_text : (text value : List ℕ) → ¬ (value ≡ text) → bytes_eq text value ≡ false
other_text text value differ = elim (cases_Bool (bytes_eq text value)) [
  | inl same ↦ absurd (differ (sym ((bytes_eq-Decides text value).0 same)))
  | inr not_same ↦ not_same
]

pub no_text_place : (text : List ℕ) (values : List (List ℕ)) → ((k : ℕ) → slice_get values k ≡ Some text → ⊥) → position_or_len (bytes_eq text) values ≡ length values
no_text_place text [] absent = refl
no_text_place text (value ∷ values) absent =
    let other = other_text text value (λ same. absent 0 (ap Some same)) in
    let rest = no_text_place text values (λ k there. absent (suc k) there) in
    place-later (bytes_eq text) value values other ∙ omega arith

pub text_place : (text : List ℕ) (values : List (List ℕ)) (at : ℕ) → slice_get values at ≡ Some text → ((k : ℕ) → slice_get values k ≡ Some text → at ≡ k) → position_or_len (bytes_eq text) values ≡ at
text_place text [] at there only = absurd cc
text_place text (value ∷ values) zero there only =
    let value-is : value ≡ text = cc in
    place-here (bytes_eq text) value values ((bytes_eq-Decides text value).1 (sym value-is))
text_place text (value ∷ values) (suc at) there only =
    let other = other_text text value (λ same. let suc-is = only 0 (ap Some same) in omega arith) in
    let rest = text_place text values at there (λ k also. let suc-is = only (suc k) also in omega arith) in
    place-later (bytes_eq text) value values other ∙ omega arith
