-- Words that are numbers.
use Rattle.std.proofs.Common.{◌≡◌, ◌≢◌, ℕ, ◌<◌, ◌≤◌, ◌^◌, Bool, true, false, List, [], ◌∷◌, length, Option, None, refl, arith, get_or, lit<}
use Rattle.std.specs.Prelude.{◌==◌, ◌&&◌, nat_le, not, if◌then◌else◌}
use Rattle.std.specs.Char.{digit_value, is_ascii_digit}
use Rattle.std.specs.List.{list_all}
use Rattle.std.specs.Str.Parse.{AllDigits, IsNumeral, digits_value, without_leading_plus}
use Rattle.std.proofs.lemmas.Bool.Decides.{nat_tests}
use Rattle.call_words.specs.Words.{is_number, number_within}

both : (a b : Bool) → (a && b) ≡ true → (a ≡ true) × (b ≡ true)
both true b h = (refl, h)
both false b h = absurd (cc)

digit_small : (b : ℕ) → is_ascii_digit b ≡ true → digit_value b < 10
digit_small b digit = grind (arith, nat_tests)

no_plus : (b : ℕ) → is_ascii_digit b ≡ true → (b == 43) ≡ false
no_plus b digit = grind (arith, nat_tests)

digits_all : (word : List ℕ) → list_all is_ascii_digit word ≡ true → AllDigits 10 word
digits_all [] all = tt
digits_all (b ∷ bytes) all = let p = both (is_ascii_digit b) (list_all is_ascii_digit bytes) all in (digit_small b p.0, digits_all bytes p.1)

-- a word of two digits or more that doesn't begin with `0`
pub long_number : (word : List ℕ) → 2 ≤ length word → get_or word 0 0 ≢ 48 → is_number word ≡ list_all is_ascii_digit word
long_number [] long first = absurd (omega (arith, long))
long_number (b ∷ []) long first = absurd (omega (arith, long))
long_number (b ∷ c ∷ bytes) long first = let other : (b == 48) ≡ false = grind (arith, nat_tests) in rw other refl

-- a number is one digit or more, and begins with none but a digit
record Spells (word : List ℕ) : Type 0 where
  numeral : IsNumeral 10 word
  no_sign : without_leading_plus word ≡ word

spells : (word : List ℕ) → is_number word ≡ true → Spells word
spells [] number = absurd (cc)
spells (b ∷ []) number = record { numeral = (lit< tt, (digit_small b number, tt)); no_sign = rw (no_plus b number) refl }
spells (b ∷ c ∷ bytes) number =
    let p = both (not (b == 48)) (list_all is_ascii_digit (b ∷ c ∷ bytes)) number in
    let q = both (is_ascii_digit b) (list_all is_ascii_digit (c ∷ bytes)) p.1 in
    record { numeral = (omega arith, digits_all (b ∷ c ∷ bytes) p.1); no_sign = rw (no_plus b q.0) refl }

too_high : (number : Bool) (least most value : ℕ) → most < value → (if number && (nat_le least value && nat_le value most) then Option.Some value else None) ≡ None
too_high number least most value high = grind (arith, nat_tests)

-- a number that isn't read as one of 64 bits is above them
pub not_read : (least most : ℕ) (word : List ℕ) → is_number word ≡ true → most < 2 ^ 64 → ¬ (IsNumeral 10 (without_leading_plus word) × (digits_value 10 (without_leading_plus word) < 2 ^ 64)) → number_within least most word ≡ None
not_read least most word number few unread =
    let s = spells word number in
    let unread' : ¬ (IsNumeral 10 word × (digits_value 10 word < 2 ^ 64)) = rw s.no_sign at unread in
    too_high (is_number word) least most (digits_value 10 word) (grind (arith, unread', s.numeral, few))
