-- An arrangement under other names.
use Rattle.std.proofs.Common.{◌≡◌, ℕ, zero, suc, ◌<◌, true, false, cond, List, [], ◌∷◌, length, map, filter, get_or, refl, sym, ap, subst, ◌∙◌, arith}
use Rattle.std.specs.Prelude.{◌==◌}
use Rattle.std.specs.List.{AllPairs}
use Rattle.std.proofs.lemmas.List.{length-map}
use Rattle.key_groups.specs.Arranged.{IsArranged}

module _ {X Y : Type 0} (InOrder : ℕ → ℕ → Type 0) (size : X → ℕ) (other_size : Y → ℕ) (name : X → Y) (same : (x : X) → other_size (name x) ≡ size x) where
  size-at : (xs : List X) (i : ℕ) (x : X) (y : Y) → i < length xs → other_size (get_or (map name xs) i y) ≡ size (get_or xs i x)
  size-at [] i x y within = absurd (omega arith)
  size-at (z ∷ zs) zero x y within = same z
  size-at (z ∷ zs) (suc i) x y within = size-at zs i x y (omega arith)

  of_size : (n : ℕ) (xs : List X) → filter (λ y. other_size y == n) (map name xs) ≡ map name (filter (λ x. size x == n) xs)
  of_size n [] = refl
  of_size n (x ∷ xs) =
      let rest = of_size n xs in
      ap (λ m. cond (m == n) (name x ∷ filter (λ y. other_size y == n) (map name xs)) (filter (λ y. other_size y == n) (map name xs))) (same x)
      ∙ ap (λ l. cond (size x == n) (name x ∷ l) l) rest
      ∙ elim (size x == n) as (λ c. cond c (name x ∷ map name (filter (λ x. size x == n) xs)) (map name (filter (λ x. size x == n) xs)) ≡ map name (cond c (x ∷ filter (λ x. size x == n) xs) (filter (λ x. size x == n) xs))) [
        | true ↦ refl
        | false ↦ refl
      ]

  pairs-renamed : (xs : List X) → AllPairs (λ item later. InOrder (size item) (size later)) xs → AllPairs (λ item later. InOrder (other_size item) (other_size later)) (map name xs)
  pairs-renamed [] pairs i j y before within = absurd (omega arith)
  pairs-renamed (x ∷ xs) pairs i j y before within =
      let in_j : j < length (x ∷ xs) = omega (arith, within, length-map (x ∷ xs) name) in
      let in_i : i < length (x ∷ xs) = omega (arith, before, in_j) in
      subst (λ n. InOrder n (other_size (get_or (map name (x ∷ xs)) j y))) (sym (size-at (x ∷ xs) i x y in_i))
      (subst (λ n. InOrder (size (get_or (x ∷ xs) i x)) n) (sym (size-at (x ∷ xs) j x y in_j)) (pairs i j x before in_j))

  pub arranged-renamed : (before after : List X) → IsArranged InOrder size before after → IsArranged InOrder other_size (map name before) (map name after)
  arranged-renamed before after is = record {
    ordered = pairs-renamed after is.ordered;
    each = λ n. of_size n after ∙ ap (map name) (is.each n) ∙ sym (of_size n before);
  }
