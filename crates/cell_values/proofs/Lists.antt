-- Facts about lists that any crate could use.
use Rattle.std.proofs.Common.{◌≡◌, ℕ, zero, suc, ◌+◌, ◌<◌, Bool, true, false, cond, ◌||◌, List, [], ◌∷◌, length, Some, None, refl, ap, ◌∙◌, arith}
use Rattle.std.specs.Prelude.{Contains, map, find}
use Rattle.std.specs.List.{All, AllZip, flat_map, list_any, range_with_len, zip}
use Rattle.cfd_semantics.proofs.Members.{contains-here, contains-there}
use Rattle.std.specs.Option.{option_map}
use Rattle.std.proofs.lemmas.List.Elements.{All-nil, All-cons, All-append}

-- a test of what a list is mapped to
pub list_any-map : {X Y : Type 0} (p : Y → Bool) (f : X → Y) (xs : List X) → list_any p (map f xs) ≡ list_any (λ x. p (f x)) xs
list_any-map p f [] = refl
list_any-map p f (x ∷ xs) = ap (λ b. p (f x) || b) (list_any-map p f xs)

find_map_at : {X Y : Type 0} (p : Y → Bool) (f : X → Y) (x : X) (xs : List X) (b : Bool) → find p (map f xs) ≡ option_map f (find (λ y. p (f y)) xs)
    → cond b (Some (f x)) (find p (map f xs)) ≡ option_map f (cond b (Some x) (find (λ y. p (f y)) xs))
find_map_at p f x xs true rest = refl
find_map_at p f x xs false rest = rest

pub find-map : {X Y : Type 0} (p : Y → Bool) (f : X → Y) (xs : List X) → find p (map f xs) ≡ option_map f (find (λ x. p (f x)) xs)
find-map p f [] = refl
find-map p f (x ∷ xs) = find_map_at p f x xs (p (f x)) (find-map p f xs)

-- the first of the numbers from a on that passes
pub find_range_first : (p : ℕ → Bool) (a n k : ℕ) → k < n → p (a + k) ≡ true → ((j : ℕ) → j < k → p (a + j) ≡ false) → find p (range_with_len a n) ≡ Some (a + k)
find_range_first p a zero k lt passes before = absurd (omega arith)
find_range_first p a (suc n) zero lt passes before =
    let here : a + 0 ≡ a = omega arith in
    let test : p a ≡ true = rw here at passes in
    rw (test, here) refl
find_range_first p a (suc n) (suc k) lt passes before =
    let here : a + 0 ≡ a = omega arith in
    let test : p a ≡ false = rw here at (before 0 (omega arith)) in
    let next : a + suc k ≡ a + 1 + k = omega arith in
    rw (test, next) (find_range_first p (a + 1) n k (omega arith) (rw next at passes) (λ j less. let step : a + 1 + j ≡ a + suc j = omega arith in rw step (before (suc j) (omega arith))))

pub find_range_none : (p : ℕ → Bool) (a n : ℕ) → ((j : ℕ) → j < n → p (a + j) ≡ false) → find p (range_with_len a n) ≡ None
find_range_none p a zero all = refl
find_range_none p a (suc n) all =
    let here : a + 0 ≡ a = omega arith in
    let test : p a ≡ false = rw here at (all 0 (omega arith)) in
    rw test (find_range_none p (a + 1) n (λ j less. let step : a + 1 + j ≡ a + suc j = omega arith in rw step (all (suc j) (omega arith))))

-- the same from 0 on
pub find_first : (p : ℕ → Bool) (n k : ℕ) → k < n → p k ≡ true → ((j : ℕ) → j < k → p j ≡ false) → find p (range_with_len 0 n) ≡ Some k
find_first p n k lt passes before =
    let here : 0 + k ≡ k = omega arith in
    find_range_first p 0 n k lt (rw here passes) (λ j less. let same : 0 + j ≡ j = omega arith in rw same (before j less)) ∙ ap Some here

pub find_none : (p : ℕ → Bool) (n : ℕ) → ((j : ℕ) → j < n → p j ≡ false) → find p (range_with_len 0 n) ≡ None
find_none p n all = find_range_none p 0 n (λ j less. let same : 0 + j ≡ j = omega arith in rw same (all j less))

-- a list that has ended ends the pairs
pub zip_left_ended : {X Y : Type 0} (xs : List X) (ys : List Y) → length xs ≡ 0 → zip xs ys ≡ []
zip_left_ended [] ys none = refl
zip_left_ended (x ∷ xs) ys none = absurd (omega arith)

pub zip_right_ended : {X Y : Type 0} (xs : List X) (ys : List Y) → length ys ≡ 0 → zip xs ys ≡ []
zip_right_ended [] ys none = refl
zip_right_ended (x ∷ xs) [] none = refl
zip_right_ended (x ∷ xs) (y ∷ ys) none = absurd (omega arith)

-- lists of two types that are related place by place
pub AllZip-long : {X Y : Type 0} (R : X → Y → Type 0) (xs : List X) (ys : List Y) → AllZip R xs ys → length xs ≡ length ys
AllZip-long R [] [] all = refl
AllZip-long R [] (y ∷ ys) all = absurd all
AllZip-long R (x ∷ xs) [] all = absurd all
AllZip-long R (x ∷ xs) (y ∷ ys) all = ap suc (AllZip-long R xs ys all.1)

-- what holds of each part, or of each image, holds of all
pub all_flat_map : {X Y : Type 0} (P : Y → Type 0) (f : X → List Y) (xs : List X) → ((x : X) → Contains xs x → All P (f x)) → All P (flat_map f xs)
all_flat_map P f [] each = All-nil P
all_flat_map P f (x ∷ xs) each = All-append P (f x) (flat_map f xs) (each x (contains-here x xs)) (all_flat_map P f xs (λ y there. each y (contains-there y x xs there)))

pub all_map : {X Y : Type 0} (P : Y → Type 0) (f : X → Y) (xs : List X) → ((x : X) → Contains xs x → P (f x)) → All P (map f xs)
all_map P f [] each = All-nil P
all_map P f (x ∷ xs) each = All-cons P (f x) (map f xs) (each x (contains-here x xs)) (all_map P f xs (λ y there. each y (contains-there y x xs there)))

pub one_item : {X : Type 0} (P : X → Type 0) (x : X) → P x → All P (x ∷ [])
one_item P x fact = All-cons P x [] fact (All-nil P)
