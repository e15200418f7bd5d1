-- A walk that changes a list item by item: what was passed is related item by item to what it was, and
-- what lies ahead is as it was.
use Rattle.std.proofs.Common.{◌≡◌, ℕ, suc, ◌+◌, ◌<◌, ◌≤◌, List, [], ◌∷◌, ◌++◌, length, refl, get_or, set, take, drop, sym, ap, subst, ◌∙◌, arith, drop-cons, add-one}
use Rattle.std.specs.Prelude.{All, sum_by}
use Rattle.std.specs.List.{AllZip, AllByRecursion as ByRecursion}
use Rattle.std.proofs.lemmas.List.{take_all, take_more_set, drop-set-lt, drop-drop, drop-set, get_or-drop}
use Rattle.std.proofs.lemmas.List.Sums.{sum_by-cons}
use Rattle.std.proofs.lemmas.List.Elements.{all_zip_more, All-from_recursion, recursion_from_All}

no_further : (i : ℕ) → i ≡ i + 0
no_further i = omega arith

module _ {X : Type 0} where
  first_ahead : (xs : List X) (i : ℕ) (d : X) → get_or xs i d ≡ get_or (drop i xs) 0 d
  first_ahead xs i d = ap (λ k. get_or xs k d) (no_further i) ∙ sym (get_or-drop i xs 0 d)

  -- the item that the walk comes to is the one that was there
  pub item_ahead : (was now : List X) (i : ℕ) (d : X) → drop i now ≡ drop i was → get_or now i d ≡ get_or was i d
  item_ahead was now i d ahead = first_ahead now i d ∙ ap (λ xs. get_or xs 0 d) ahead ∙ sym (first_ahead was i d)

  pub ahead_more : (was now : List X) (i : ℕ) (y : X) → drop i now ≡ drop i was → drop (i + 1) (set now i y) ≡ drop (i + 1) was
  ahead_more was now i y ahead = drop-set-lt (i + 1) now i y (omega arith) ∙ sym (drop-drop 1 i now) ∙ ap (drop 1) ahead ∙ drop-drop 1 i was

  pub zip_more : (R : X → X → Type 0) (was now : List X) (i : ℕ) (x y : X) → drop i now ≡ drop i was → i < length now → length now ≡ length was
      → x ≡ get_or now i x → AllZip R (take i was) (take i now) → R (get_or now i x) y → AllZip R (take (i + 1) was) (take (i + 1) (set now i y))
  zip_more R was now i x y ahead h same is done step =
      subst (λ ys. AllZip R (take (i + 1) was) ys) (sym (take_more_set now i y h))
      (all_zip_more R was (take i now) i x y (omega arith) (is ∙ item_ahead was now i x ahead) done (subst (λ z. R z y) (sym is) step))

  pub zip_whole : (R : X → X → Type 0) (was now : List X) (i : ℕ) → length was ≤ i → length now ≡ length was → AllZip R (take i was) (take i now) → AllZip R was now
  zip_whole R was now i h same done =
      subst (λ xs. AllZip R xs now) (take_all i was h) (subst (λ ys. AllZip R (take i was) ys) (take_all i now (omega arith)) done)

  pub zip_same : (R : X → X → Type 0) → ((x : X) → R x x) → (xs : List X) → AllZip R xs xs
  zip_same R itself [] = tt
  zip_same R itself (x ∷ xs) = (itself x, zip_same R itself xs)

  pub zip_append : (R : X → X → Type 0) (xs ys us vs : List X) → AllZip R xs ys → AllZip R us vs → AllZip R (xs ++ us) (ys ++ vs)
  zip_append R [] [] us vs front back = back
  zip_append R [] (y ∷ ys) us vs front back = absurd front
  zip_append R (x ∷ xs) [] us vs front back = absurd front
  zip_append R (x ∷ xs) (y ∷ ys) us vs front back = (front.0, zip_append R xs ys us vs front.1 back)

  -- what holds of each item before a step, and what the step does to each, give what holds of each after it
  pub all_after : (P Q : X → Type 0) (R : X → X → Type 0) → ((x y : X) → P x → R x y → Q y) → (xs ys : List X) → ByRecursion P xs → AllZip R xs ys → ByRecursion Q ys
  all_after P Q R step [] [] all zip = tt
  all_after P Q R step [] (y ∷ ys) all zip = absurd zip
  all_after P Q R step (x ∷ xs) [] all zip = absurd zip
  all_after P Q R step (x ∷ xs) (y ∷ ys) all zip = (step x y all.0 zip.0, all_after P Q R step xs ys all.1 zip.1)

  -- two steps, one after the other
  pub zip_then : (P : X → Type 0) (R Q S : X → X → Type 0) → ((x y z : X) → P x → R x y → Q y z → S x z) → (xs ys zs : List X) → ByRecursion P xs → AllZip R xs ys → AllZip Q ys zs → AllZip S xs zs
  zip_then P R Q S both [] [] [] all one two = tt
  zip_then P R Q S both [] [] (z ∷ zs) all one two = absurd two
  zip_then P R Q S both [] (y ∷ ys) zs all one two = absurd one
  zip_then P R Q S both (x ∷ xs) [] zs all one two = absurd one
  zip_then P R Q S both (x ∷ xs) (y ∷ ys) [] all one two = absurd two
  zip_then P R Q S both (x ∷ xs) (y ∷ ys) (z ∷ zs) all one two = (both x y z all.0 one.0 two.0, zip_then P R Q S both xs ys zs all.1 one.1 two.1)

  -- the same by places
  pub all_through : (P Q : X → Type 0) (R : X → X → Type 0) → ((x y : X) → P x → R x y → Q y) → (xs ys : List X) → All P xs → AllZip R xs ys → All Q ys
  all_through P Q R step xs ys all zip = All-from_recursion Q ys (all_after P Q R step xs ys (recursion_from_All P xs all) zip)

  pub sum_kept : (f : X → ℕ) (R : X → X → Type 0) → ((x y : X) → R x y → f y ≡ f x) → (xs ys : List X) → AllZip R xs ys → sum_by f ys ≡ sum_by f xs
  sum_kept f R kept [] [] zip = refl
  sum_kept f R kept [] (y ∷ ys) zip = absurd zip
  sum_kept f R kept (x ∷ xs) [] zip = absurd zip
  sum_kept f R kept (x ∷ xs) (y ∷ ys) zip = sum_by-cons f y ys ∙ ap (λ n. n + sum_by f ys) (kept x y zip.0) ∙ ap (λ n. f x + n) (sum_kept f R kept xs ys zip.1) ∙ sym (sum_by-cons f x xs)

  -- at the item that the walk stops at, and ahead of it
  pub zip_rest : (R : X → X → Type 0) → ((x : X) → R x x) → (was now : List X) (i : ℕ) (d y : X) → drop i now ≡ drop i was → i < length now
      → R (get_or now i d) y → AllZip R (drop i was) (drop i (set now i y))
  zip_rest R itself was now i d y ahead h step =
      subst (λ xs. AllZip R xs (drop i (set now i y))) (sym (drop-cons now i d h) ∙ ahead)
      (subst (λ ys. AllZip R (get_or now i d ∷ drop (suc i) now) ys) (sym (drop-set now i y h ∙ ap (λ k. y ∷ drop k now) (add-one i))) (step, zip_same R itself (drop (suc i) now)))
