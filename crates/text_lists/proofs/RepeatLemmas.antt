-- What stands twice is found, and nothing is found where the items are distinct.
use Rattle.std.proofs.Common.{inl, inr, ◌≡◌, ◌≢◌, ℕ, suc, ◌+◌, ◌<◌, ◌≤◌, Bool, true, false, cond, ◌||◌, List, [], ◌∷◌, ◌++◌, length, get_or, take, drop, Option, Some, None, refl, ap, sym, ◌∙◌, subst, append_assoc, arith, length-append, drop-cons}
use Rattle.std.specs.Prelude.{Contains}
use Rattle.std.specs.List.{AllByRecursion}
use Rattle.std.specs.Str.{bytes_eq}
use Rattle.std.proofs.Math.Seq.{get_or-append_seam, take-append_seam}
use Rattle.std.proofs.lemmas.Bool.{cases_Bool, cond-true, cond-false, cond_both, or_parts, false≢true}
use Rattle.std.proofs.lemmas.List.{append-nil, take_more, get_or-take, drop_all, length-take}
use Rattle.std.proofs.lemmas.List.Folds.{list_any-append}
use Rattle.std.proofs.lemmas.List.Elements.{All-from_recursion}
use Rattle.std.proofs.lemmas.List.Quantifiers.{all_pairs_push}
use Rattle.std.proofs.lemmas.Option.{slice_get-get_or, slice_get_within, get_or_from_slice_get}
use Rattle.std.proofs.lemmas.Slice.Eq.{bytes_eq-Decides}
use Rattle.text_lists.specs.Repeats.{AreDistinct, is_among, repeated_after, first_repeated, IsFirstRepeated}

-- ---- the law, over any test that decides equality

pub record Tells {X : Type 0} (eq : X → X → Bool) : Type 0 where
  pub same : (x y : X) → eq x y ≡ true → x ≡ y
  pub yes : (x y : X) → x ≡ y → eq x y ≡ true

Contains-among : {X : Type 0} (eq : X → X → Bool) → Tells eq → (xs : List X) (x : X) → is_among eq xs x ≡ true → Contains xs x
Contains-among eq tells [] x e = absurd (false≢true e)
Contains-among eq tells (y ∷ xs) x e =
    elim (cases_Bool (eq y x)) [
      | inl same ↦ (0, omega arith, tells.same y x same)
      | inr other ↦ (let found = Contains-among eq tells xs x (sym (ap (λ b. b || is_among eq xs x) other) ∙ e) in (suc found.0, omega (arith, found.1), found.2))
    ]

none_among : {X : Type 0} (eq : X → X → Bool) → Tells eq → (xs : List X) (x : X) → is_among eq xs x ≡ false → AllByRecursion (λ y. y ≢ x) xs
none_among eq tells [] x e = tt
none_among eq tells (y ∷ xs) x e =
    let parts = or_parts (eq y x) (is_among eq xs x) e in
    (λ same. false≢true (sym parts.0 ∙ tells.yes y x same), none_among eq tells xs x parts.1)

pub AreDistinct-nil : {X : Type 0} → AreDistinct {X = X} []
AreDistinct-nil i j d lt inside = absurd (omega arith)

pub AreDistinct-push : {X : Type 0} (xs : List X) (x : X) → AreDistinct xs → AllByRecursion (λ y. y ≢ x) xs → AreDistinct (xs ++ x ∷ [])
AreDistinct-push xs x distinct others = all_pairs_push (λ a b. a ≢ b) xs x distinct (All-from_recursion (λ y. y ≢ x) xs others)

IsFirstRepeated-after : {X : Type 0} (eq : X → X → Bool) → Tells eq → (before xs : List X) → AreDistinct before → IsFirstRepeated (before ++ xs) (repeated_after eq before xs)
IsFirstRepeated-after eq tells before [] once = rw (append-nil before) once
IsFirstRepeated-after eq tells before (x ∷ xs) once =
    cond_both (is_among eq before x) (Some x) (repeated_after eq (before ++ x ∷ []) xs) (IsFirstRepeated (before ++ x ∷ xs))
    (λ found. record {
      place = length before;
      there = slice_get-get_or (before ++ x ∷ xs) (length before) x (omega (arith, length-append before (x ∷ xs))) ∙ ap Some (get_or-append_seam before x xs x);
      twice = rw (take-append_seam before (x ∷ xs)) (Contains-among eq tells before x found);
      once = rw (take-append_seam before (x ∷ xs)) once;
    })
    (λ new. subst (λ whole. IsFirstRepeated whole (repeated_after eq (before ++ x ∷ []) xs)) (append_assoc before (x ∷ []) xs)
    (IsFirstRepeated-after eq tells (before ++ x ∷ []) xs (AreDistinct-push before x once (none_among eq tells before x new))))

pub first_repeated-is : {X : Type 0} (eq : X → X → Bool) → Tells eq → (xs : List X) → IsFirstRepeated xs (first_repeated eq xs)
first_repeated-is eq tells xs = IsFirstRepeated-after eq tells [] xs AreDistinct-nil

not_repeated : {X : Type 0} (xs : List X) (found : Option X) → AreDistinct xs → IsFirstRepeated xs found → found ≡ None
not_repeated xs None distinct is = refl
not_repeated xs (Some x) distinct is =
    let inside = slice_get_within xs is.place x is.there in
    let front : is.twice.0 < is.place = omega (arith, is.twice.1, length-take is.place xs) in
    absurd (distinct is.twice.0 is.place x front inside (sym (get_or-take is.place xs is.twice.0 x front) ∙ is.twice.2 ∙ sym (get_or_from_slice_get xs is.place x x is.there)))

-- in distinct items none is found
pub first_repeated-none : {X : Type 0} (eq : X → X → Bool) → Tells eq → (xs : List X) → AreDistinct xs → first_repeated eq xs ≡ None
first_repeated-none eq tells xs distinct = not_repeated xs (first_repeated eq xs) distinct (first_repeated-is eq tells xs)

pub AreDistinct-from_none : {X : Type 0} (eq : X → X → Bool) → Tells eq → (xs : List X) → first_repeated eq xs ≡ None → AreDistinct xs
AreDistinct-from_none eq tells xs none = subst (IsFirstRepeated xs) none (first_repeated-is eq tells xs)

-- ---- texts, one after the other

pub bytes_eq-tells : Tells bytes_eq
bytes_eq-tells = record { same = λ xs ys. (bytes_eq-Decides xs ys).0; yes = λ xs ys. (bytes_eq-Decides xs ys).1 }

pub found_next : (texts : List (List ℕ)) (i : ℕ) (text : List ℕ) (all : Option (List ℕ)) → i < length texts → text ≡ get_or texts i text → all ≡ repeated_after bytes_eq (take i texts) (drop i texts) → is_among bytes_eq (take i texts) text ≡ true → all ≡ Some text
found_next texts i text all inside is left found =
    left ∙ ap (repeated_after bytes_eq (take i texts)) (drop-cons texts i text inside ∙ ap (λ t. t ∷ drop (suc i) texts) (sym is)) ∙ cond-true (is_among bytes_eq (take i texts) text) _ _ found

pub new_next : (texts : List (List ℕ)) (i : ℕ) (text : List ℕ) (all : Option (List ℕ)) → i < length texts → text ≡ get_or texts i text → all ≡ repeated_after bytes_eq (take i texts) (drop i texts) → is_among bytes_eq (take i texts) text ≡ false
    → all ≡ repeated_after bytes_eq (take (i + 1) texts) (drop (i + 1) texts)
new_next texts i text all inside is left new =
    let more : take (i + 1) texts ≡ take i texts ++ text ∷ [] = take_more texts i text inside ∙ ap (λ t. take i texts ++ t ∷ []) (sym is) in
    let next : i + 1 ≡ suc i = omega arith in
    left ∙ ap (repeated_after bytes_eq (take i texts)) (drop-cons texts i text inside ∙ ap (λ t. t ∷ drop (suc i) texts) (sym is)) ∙ cond-false (is_among bytes_eq (take i texts) text) _ _ new
    ∙ rw (more, next) refl

pub none_left : (texts : List (List ℕ)) (i : ℕ) (all : Option (List ℕ)) → length texts ≤ i → all ≡ repeated_after bytes_eq (take i texts) (drop i texts) → all ≡ None
none_left texts i all ended left = left ∙ ap (repeated_after bytes_eq (take i texts)) (drop_all i texts ended)

chosen : (b c : Bool) → cond b true c ≡ (c || (b || false))
chosen true true = refl
chosen true false = refl
chosen false true = refl
chosen false false = refl

pub is_among-more : (texts : List (List ℕ)) (i : ℕ) (text q : List ℕ) → i < length texts → text ≡ get_or texts i text → cond (bytes_eq text q) true (is_among bytes_eq (take i texts) q) ≡ is_among bytes_eq (take (i + 1) texts) q
is_among-more texts i text q inside is =
    let more : take (i + 1) texts ≡ take i texts ++ text ∷ [] = take_more texts i text inside ∙ ap (λ t. take i texts ++ t ∷ []) (sym is) in
    chosen (bytes_eq text q) (is_among bytes_eq (take i texts) q) ∙ sym (ap (λ ts. is_among bytes_eq ts q) more ∙ list_any-append (λ t. bytes_eq t q) (take i texts) (text ∷ []))
