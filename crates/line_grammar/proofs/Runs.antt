-- The longest front of a list whose items pass a test, found as the place of the first that doesn't.
use Rattle.std.proofs.Common.{◌≡◌, ℕ, ◌+◌, ◌≤◌, Bool, true, false, cond, List, [], ◌∷◌, length, take, Option, Some, None, refl, ap, ◌∙◌, arith, ltb}
use Rattle.std.specs.Prelude.{not, position, unwrap_or}
use Rattle.std.specs.List.{prefix_len, position_or_len}
use Rattle.std.proofs.Common.{min}
use Rattle.std.proofs.Math.Nat.{min_comm}
use Rattle.std.proofs.lemmas.List.{take_min}
use Rattle.std.proofs.lemmas.Bool.Decides.{nat_tests}

not_not : (b : Bool) → not (not b) ≡ b
not_not true = refl
not_not false = refl

next_len : (b c : Bool) (m n : ℕ) → b ≡ c → m ≡ n → cond b (1 + m) 0 ≡ cond c (1 + n) 0
next_len b c m n same le = cc

prefix_len-not_not : (p : ℕ → Bool) (xs : List ℕ) → prefix_len (λ x. not (not (p x))) xs ≡ prefix_len p xs
prefix_len-not_not p [] = refl
prefix_len-not_not p (x ∷ xs) = next_len (not (not (p x))) (p x) _ _ (not_not (p x)) (prefix_len-not_not p xs)

pub prefix_len-le : (p : ℕ → Bool) (xs : List ℕ) → prefix_len p xs ≤ length xs
prefix_len-le p [] = omega arith
prefix_len-le p (x ∷ xs) = elim (p x) as (λ b. cond b (1 + prefix_len p xs) 0 ≤ length (x ∷ xs)) [ true ↦ omega (arith, prefix_len-le p xs) | false ↦ omega arith ]

chosen : (n len : ℕ) → n ≤ len → unwrap_or (cond (ltb n len) (Some n) None) len ≡ n
chosen n len le = grind (arith, nat_tests)

pub unwrap_or-position : (p : ℕ → Bool) (xs : List ℕ) → unwrap_or (position (λ x. not (p x)) xs) (length xs) ≡ prefix_len p xs
unwrap_or-position p xs = chosen _ _ (prefix_len-le (λ x. not (not (p x))) xs) ∙ prefix_len-not_not p xs

-- the length of the longest front among the first n, as a reader finds it in a slice of at most n
pub prefix_len-found : (p : ℕ → Bool) (xs : List ℕ) (n m r : ℕ) (found : Option ℕ) → m ≡ min (length xs) n → found ≡ position (λ x. not (p x)) (take m xs) → r ≡ unwrap_or found (length (take m xs)) → r ≡ prefix_len p (take n xs)
prefix_len-found p xs n m r found cut first given =
    let shorter : take m xs ≡ take n xs = rw (cut, min_comm (length xs) n) (take_min n xs) in
    given ∙ rw (first, shorter) (unwrap_or-position p (take n xs))

pub unwrap_or-position_or_len : (p : ℕ → Bool) (xs : List ℕ) (found : Option ℕ) (r : ℕ) → found ≡ position p xs → r ≡ unwrap_or found (length xs) → r ≡ position_or_len p xs
unwrap_or-position_or_len p xs found r first given = given ∙ ap (λ (o : Option ℕ). unwrap_or o (length xs)) first ∙ chosen _ _ (prefix_len-le (λ x. not (p x)) xs)
