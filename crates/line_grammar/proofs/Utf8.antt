-- UTF-8 bytes cut and joined at a byte below 128.
use Rattle.std.proofs.Common.{◌≡◌, ℕ, zero, suc, ◌+◌, ◌<◌, Bool, true, List, [], ◌∷◌, ◌++◌, length, get_or, take, drop, refl, ap, sym, ◌∙◌, subst, arith, length-append, add-one, lit<}
use Rattle.std.specs.List.{prefix_len}
use Rattle.std.specs.Str.{IsUtf8, IsAscii, is_utf8}
use Rattle.std.specs.Char.{is_ascii_digit}
use Rattle.std.specs.Prelude.{Result, Ok, Err, MatchResult, IsOk, is_ok}
use Rattle.std.proofs.lemmas.Bool.{cond_both, false_from_ne_true}
use Rattle.std.proofs.lemmas.Bool.Decides.{nat_tests}
use Rattle.text_lists.specs.Names.{is_name_byte}
use Rattle.std.proofs.lemmas.Str.{IsUtf8-append, IsUtf8-take, IsUtf8-drop, IsUtf8-nil, IsCharBoundary-before_ascii, IsCharBoundary-after_ascii, IsUtf8-from_ascii, is_utf8-from_IsUtf8, IsUtf8-from_is_utf8}

ascii_at : (front rest : List ℕ) (b : ℕ) → b < 128 → get_or (front ++ b ∷ rest) (length front) 0 < 128
ascii_at [] rest b small = small
ascii_at (x ∷ front) rest b small = ascii_at front rest b small

pub take_front : (front rest : List ℕ) → take (length front) (front ++ rest) ≡ front
take_front [] rest = refl
take_front (x ∷ front) rest = ap (λ (xs : List ℕ). x ∷ xs) (take_front front rest)

drop_front : (front rest : List ℕ) (b : ℕ) → drop (suc (length front)) (front ++ b ∷ rest) ≡ rest
drop_front [] rest b = refl
drop_front (x ∷ front) rest b = drop_front front rest b

-- what stands before such a byte, and what stands after it
pub IsUtf8-parts : (front rest : List ℕ) (b : ℕ) → b < 128 → IsUtf8 (front ++ b ∷ rest) → IsUtf8 front × IsUtf8 rest
IsUtf8-parts front rest b small whole =
    let inside : length front < length (front ++ b ∷ rest) = omega (arith, length-append front (b ∷ rest)) in
    let all = front ++ b ∷ rest in
    let low = ascii_at front rest b small in
    let before = IsUtf8-take all (length front) whole (IsCharBoundary-before_ascii all (length front) inside low) in
    let after = IsUtf8-drop all (length front + 1) whole (IsCharBoundary-after_ascii all (length front) whole inside low) in
    (subst IsUtf8 (take_front front (b ∷ rest)) before, subst IsUtf8 (drop_front front rest b) (rw (← add-one (length front)) after))

IsAscii-byte : (b : ℕ) → b < 128 → IsAscii (b ∷ [])
IsAscii-byte b small zero = small
IsAscii-byte b small (suc i) = lit< tt

pub IsUtf8-byte : (b : ℕ) → b < 128 → IsUtf8 (b ∷ [])
IsUtf8-byte b small = IsUtf8-from_ascii (b ∷ []) (IsAscii-byte b small)

pub IsUtf8-cons : (b : ℕ) (rest : List ℕ) → b < 128 → IsUtf8 rest → IsUtf8 (b ∷ rest)
IsUtf8-cons b rest small after = IsUtf8-append (b ∷ []) rest (IsUtf8-byte b small) after

pub IsUtf8-tail : (b : ℕ) (rest : List ℕ) → b < 128 → IsUtf8 (b ∷ rest) → IsUtf8 rest
IsUtf8-tail b rest small whole = (IsUtf8-parts [] rest b small whole).1

one_plus : (n : ℕ) → 1 + n ≡ suc n
one_plus n = omega arith

-- a front of bytes below 128, and what follows it
pub IsUtf8-run : (p : ℕ → Bool) → ((b : ℕ) → p b ≡ true → b < 128) → (n : ℕ) (bytes : List ℕ) → IsUtf8 (take (prefix_len p (take n bytes)) bytes)
IsUtf8-run p low zero bytes = IsUtf8-nil
IsUtf8-run p low (suc n) [] = IsUtf8-nil
IsUtf8-run p low (suc n) (b ∷ bytes) =
    cond_both (p b) (1 + prefix_len p (take n bytes)) 0 (λ k. IsUtf8 (take k (b ∷ bytes)))
    (λ passes. rw (one_plus (prefix_len p (take n bytes))) (IsUtf8-cons b _ (low b passes) (IsUtf8-run p low n bytes)))
    (λ fails. IsUtf8-nil)

pub IsUtf8-after_run : (p : ℕ → Bool) → ((b : ℕ) → p b ≡ true → b < 128) → (n : ℕ) (bytes : List ℕ) → IsUtf8 bytes → IsUtf8 (drop (prefix_len p (take n bytes)) bytes)
IsUtf8-after_run p low zero bytes whole = whole
IsUtf8-after_run p low (suc n) [] whole = whole
IsUtf8-after_run p low (suc n) (b ∷ bytes) whole =
    cond_both (p b) (1 + prefix_len p (take n bytes)) 0 (λ k. IsUtf8 (drop k (b ∷ bytes)))
    (λ passes. rw (one_plus (prefix_len p (take n bytes))) (IsUtf8-after_run p low n bytes (IsUtf8-tail b bytes (low b passes) whole)))
    (λ fails. whole)

pub is_name_byte-ascii : (b : ℕ) → is_name_byte b ≡ true → b < 128
is_name_byte-ascii b e = grind (arith, nat_tests)

pub is_ascii_digit-ascii : (b : ℕ) → is_ascii_digit b ≡ true → b < 128
is_ascii_digit-ascii b e = grind (arith, nat_tests)

-- what `from_utf8` says of bytes that are UTF-8
pub IsOk-from_utf8 : {T E : Type 0} (P : T → Type 0) (Q : E → Type 0) (bytes : List ℕ) (r : Result T E) → MatchResult r P (λ e. ¬ (IsUtf8 bytes) × Q e) → IsUtf8 bytes → IsOk r
IsOk-from_utf8 P Q bytes (Ok x) h utf8 = refl
IsOk-from_utf8 P Q bytes (Err e) h utf8 = absurd (h.0 utf8)

pub is_utf8-from_utf8 : {T E : Type 0} (P : T → Type 0) (Q : E → Type 0) (bytes : List ℕ) (r : Result T E) (b : Bool) → MatchResult r (λ s. P s × IsUtf8 bytes) (λ e. ¬ (IsUtf8 bytes) × Q e) → b ≡ is_ok r → b ≡ is_utf8 bytes
is_utf8-from_utf8 P Q bytes (Ok x) b h e = e ∙ sym (is_utf8-from_IsUtf8 bytes h.1)
is_utf8-from_utf8 P Q bytes (Err x) b h e = e ∙ sym (false_from_ne_true (is_utf8 bytes) (λ t. h.0 (IsUtf8-from_is_utf8 bytes t)))
