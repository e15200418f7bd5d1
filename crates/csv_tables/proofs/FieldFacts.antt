-- Fields by their place, and texts by their bytes.
use Rattle.std.specs.Prelude.{option_map, position, IsSome}
use Rattle.std.specs.List.{list_all, position_or_len}
use Rattle.std.specs.Str.{IsUtf8, is_utf8}
use Rattle.std.proofs.Common.{◌≡◌, ◌<◌, ◌≤◌, ◌∷◌, [], ℕ, zero, suc, List, Bool, Option, Some, None, Bor, length, get_or, take, ltb, refl, sym, ◌∙◌, true, false, inl, inr, arith, get_or-take, length-take}
use Rattle.std.proofs.lemmas.Bool.{cases_Bool, false≢true, le-ltb, lt-ltb}
use Rattle.std.proofs.lemmas.List.Folds.{list_all_at}
use Rattle.std.proofs.lemmas.List.Sums.{position_or_len_is}
use Rattle.std.proofs.lemmas.Str.{IsUtf8-from_is_utf8}
use Rattle.csv.specs.Records.{field_at}

pub field_at-get_or : (fields : List (List ℕ)) (i : ℕ) → i < length fields → field_at fields i ≡ Some (get_or fields i [])
unfolding field_at
field_at-get_or [] i h = absurd (omega arith)
field_at-get_or (f ∷ rest) zero h = refl
field_at-get_or (f ∷ rest) (suc i) h = field_at-get_or rest i (omega arith)

-- a reference of which it is known what it points to is there
pub lent-there : (o : Option (Bor (List ℕ))) (x : List ℕ) → option_map (λ (s : Bor (List ℕ)). s.now) o ≡ Some x → IsSome o
lent-there None x e = cc e
lent-there (Some s) x e = refl

-- bytes that are no text do not pass the test
pub is_utf8-false : (bytes : List ℕ) → ¬ IsUtf8 bytes → is_utf8 bytes ≡ false
is_utf8-false bytes h = elim (cases_Bool (is_utf8 bytes)) [
  | inl text ↦ absurd (h (IsUtf8-from_is_utf8 bytes text))
  | inr other ↦ other
]

-- each field of a record whose fields are UTF-8
pub is_utf8-at : (fields : List (List ℕ)) (i : ℕ) → i < length fields → list_all is_utf8 fields ≡ true → is_utf8 (get_or fields i []) ≡ true
is_utf8-at fields i inside all = elim (cases_Bool (is_utf8 (get_or fields i []))) [
  | inl text ↦ text
  | inr other ↦ absurd (false≢true (sym (list_all_at is_utf8 fields i [] inside other) ∙ all))
]

position-from : {X : Type 0} (p : X → Bool) (xs : List X) (i : ℕ) → position_or_len p xs ≡ i → i < length xs → position p xs ≡ Some i
position-from p xs i e h = rw (e, lt-ltb i (length xs) h) refl

-- the first place at which a list passes a test
pub position-at : {X : Type 0} (p : X → Bool) (xs : List X) (i : ℕ) (d : X) → i < length xs
    → ((k : ℕ) → k < i → p (get_or xs k d) ≡ false) → p (get_or xs i d) ≡ true → position p xs ≡ Some i
position-at p xs i d h before here =
    position-from p xs i (position_or_len_is p xs i d (omega arith) before (λ _. here)) h

pub position-none : {X : Type 0} (p : X → Bool) (xs : List X) (d : X)
    → ((k : ℕ) → k < length xs → p (get_or xs k d) ≡ false) → position p xs ≡ None
position-none p xs d none =
    let all = position_or_len_is p xs (length xs) d (omega arith) none (λ lt. absurd (omega arith)) in
    let same : ltb (length xs) (length xs) ≡ false = le-ltb (length xs) (length xs) (omega arith) in rw (all, same) refl

-- the same among the first places of a list
pub position-at-take : {X : Type 0} (p : X → Bool) (xs : List X) (n i : ℕ) (d : X) → n ≤ length xs → i < n
    → ((k : ℕ) → k < i → p (get_or xs k d) ≡ false) → p (get_or xs i d) ≡ true → position p (take n xs) ≡ Some i
position-at-take p xs n i d fits h before here =
    position-at p (take n xs) i d (simp length-take (omega arith)) (λ k lt. rw (get_or-take n xs k d (omega arith)) (before k lt)) (rw (get_or-take n xs i d h) here)

pub position-none-take : {X : Type 0} (p : X → Bool) (xs : List X) (n : ℕ) (d : X) → n ≤ length xs
    → ((k : ℕ) → k < n → p (get_or xs k d) ≡ false) → position p (take n xs) ≡ None
position-none-take p xs n d fits none =
    let long : length (take n xs) ≡ n = simp length-take (omega arith) in
    position-none p (take n xs) d (λ k lt. let below : k < n = omega (arith, long) in rw (get_or-take n xs k d below) (none k below))
