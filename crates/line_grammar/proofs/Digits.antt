-- What decimal digits stand for.
use Rattle.std.proofs.Common.{◌≡◌, ℕ, zero, suc, ◌+◌, ◌^◌, ◌<◌, ◌≤◌, true, List, [], ◌∷◌, length, get_or, take, arith, lit<}
use Rattle.std.specs.Char.{is_ascii_digit, digit_value}
use Rattle.std.specs.List.{prefix_len}
use Rattle.std.specs.Str.Parse.{digits_value, AllDigits}
use Rattle.std.proofs.Math.Nat.{pow-le-pow_right}
use Rattle.std.proofs.lemmas.Bool.{cond_both}
use Rattle.std.proofs.lemmas.Bool.Decides.{nat_tests}
use Rattle.std.proofs.lemmas.Int.Digits.{digits_value-lt}
use Rattle.std.proofs.lemmas.List.{length-take}

pub digit_from_value : (c : ℕ) → digit_value c < 10 → digit_value c + 48 ≡ c
digit_from_value c small = grind (arith, nat_tests)

pub digit_value-digit : (c : ℕ) → digit_value c < 10 → is_ascii_digit c ≡ true
digit_value-digit c small = grind (arith, nat_tests)

digit_value-small : (c : ℕ) → is_ascii_digit c ≡ true → digit_value c < 10
digit_value-small c digit = grind (arith, nat_tests)

AllDigits-take : (cs : List ℕ) (n : ℕ) → AllDigits 10 cs → AllDigits 10 (take n cs)
AllDigits-take cs zero all = tt
AllDigits-take [] (suc n) all = tt
AllDigits-take (c ∷ cs) (suc n) all = (all.0, AllDigits-take cs n all.1)

pub AllDigits-get_or : (cs : List ℕ) (i : ℕ) → AllDigits 10 cs → i < length cs → digit_value (get_or cs i 0) < 10
AllDigits-get_or [] i all lt = absurd (omega arith)
AllDigits-get_or (c ∷ cs) zero all lt = all.0
AllDigits-get_or (c ∷ cs) (suc i) all lt = AllDigits-get_or cs i all.1 (omega arith)

-- twelve digits stand for less than 10 ^ 12
pub digits_value-short : (ds : List ℕ) → AllDigits 10 ds → length ds ≤ 12 → digits_value 10 ds < 1000000000000
digits_value-short ds all few =
    let power : 10 ^ length ds ≤ 10 ^ 12 = pow-le-pow_right (lit< tt) few in
    omega (arith, digits_value-lt 10 ds all, power)

pub digits_value-bound : (cs : List ℕ) (i : ℕ) → AllDigits 10 cs → length cs ≤ 12 → digits_value 10 (take i cs) < 1000000000000
digits_value-bound cs i all few = digits_value-short (take i cs) (AllDigits-take cs i all) (rw (length-take i cs) (omega arith))

one_plus : (n : ℕ) → 1 + n ≡ suc n
one_plus n = omega arith

-- the digits at the front are digits
pub AllDigits-front : (n : ℕ) (bytes : List ℕ) → AllDigits 10 (take (prefix_len is_ascii_digit (take n bytes)) bytes)
AllDigits-front zero bytes = tt
AllDigits-front (suc n) [] = tt
AllDigits-front (suc n) (b ∷ bytes) =
    cond_both (is_ascii_digit b) (1 + prefix_len is_ascii_digit (take n bytes)) 0 (λ k. AllDigits 10 (take k (b ∷ bytes)))
    (λ digit. rw (one_plus (prefix_len is_ascii_digit (take n bytes))) (digit_value-small b digit, AllDigits-front n bytes))
    (λ other. tt)
