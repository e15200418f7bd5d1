-- What holds of all items of a list.
use Rattle.std.proofs.Common.{◌≡◌, ◌↔◌, ◌||◌, Bool, true, false, cond, List, [], ◌∷◌, ◌++◌, map, refl, true≢false}
use Rattle.std.specs.List.{All, filter, list_any}
use Rattle.std.proofs.lemmas.List.Elements.{All-append, All-cons, All-head, All-nil, All-tail, All-weaker}

pub next : {A B C : Type 0} → A ↔ B → B ↔ C → A ↔ C
next one other = ((λ a. other.0 (one.0 a)), (λ c. one.1 (other.1 c)))

module _ {X : Type 0} (P Q : X → Type 0) (each : (x : X) → P x ↔ Q x) where
  pub all_same : (xs : List X) → All P xs ↔ All Q xs
  all_same xs = (All-weaker P Q (λ x. (each x).0) xs, All-weaker Q P (λ x. (each x).1) xs)

module _ {X Y : Type 0} (P : Y → Type 0) (f : X → Y) where
  pub all_mapped : (xs : List X) → All P (map f xs) ↔ All (λ x. P (f x)) xs
  all_mapped [] = ((λ _. All-nil (λ x. P (f x))), (λ _. All-nil P))
  all_mapped (x ∷ xs) =
      let rest = all_mapped xs in (
        (λ all. All-cons (λ x. P (f x)) x xs (All-head P (f x) (map f xs) all) (rest.0 (All-tail P (f x) (map f xs) all))),
        (λ all. All-cons P (f x) (map f xs) (All-head (λ x. P (f x)) x xs all) (rest.1 (All-tail (λ x. P (f x)) x xs all))),
      )

neither : (a b : Bool) → (a || b) ≡ false ↔ (a ≡ false) × (b ≡ false)
neither true b = ((λ is. absurd (true≢false is)), (λ is. absurd (true≢false is.0)))
neither false b = ((λ is. (refl, is)), (λ is. is.1))

module _ {X : Type 0} (test : X → Bool) where
  pub none_passes : (xs : List X) → list_any test xs ≡ false ↔ All (λ x. test x ≡ false) xs
  none_passes [] = ((λ _. All-nil (λ x. test x ≡ false)), (λ _. refl))
  none_passes (x ∷ xs) =
      let both = neither (test x) (list_any test xs) in
      let rest = none_passes xs in (
        (λ none. All-cons (λ x. test x ≡ false) x xs (both.0 none).0 (rest.0 (both.0 none).1)),
        (λ all. both.1 (All-head (λ x. test x ≡ false) x xs all, rest.1 (All-tail (λ x. test x ≡ false) x xs all))),
      )

module _ {X : Type 0} (P : X → Type 0) where
  pub all_appended : (xs ys : List X) → All P (xs ++ ys) ↔ All P xs × All P ys
  all_appended xs ys = (parts xs, (λ both. All-append P xs ys both.0 both.1))
    where
      parts : (xs : List X) → All P (xs ++ ys) → All P xs × All P ys
      parts [] all = (All-nil P, all)
      parts (x ∷ xs) all =
          let rest = parts xs (All-tail P x (xs ++ ys) all) in
          (All-cons P x xs (All-head P x (xs ++ ys) all) rest.0, rest.1)

module _ {X : Type 0} (test : X → Bool) where
  left_out : (b : Bool) (x : X) (rest : List X) → cond b (x ∷ rest) rest ≡ [] ↔ (b ≡ false) × (rest ≡ [])
  left_out true x rest = ((λ none. absurd (cc)), (λ both. absurd (true≢false both.0)))
  left_out false x rest = ((λ none. (refl, none)), (λ both. both.1))

  pub none_is_left : (xs : List X) → filter test xs ≡ [] ↔ All (λ x. test x ≡ false) xs
  none_is_left [] = ((λ _. All-nil (λ x. test x ≡ false)), (λ _. refl))
  none_is_left (x ∷ xs) =
      let both = left_out (test x) x (filter test xs) in
      let rest = none_is_left xs in (
        (λ none. All-cons (λ x. test x ≡ false) x xs (both.0 none).0 (rest.0 (both.0 none).1)),
        (λ all. both.1 (All-head (λ x. test x ≡ false) x xs all, rest.1 (All-tail (λ x. test x ≡ false) x xs all))),
      )
