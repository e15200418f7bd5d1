-- An arrangement has as much in it as what was arranged.
use Rattle.std.proofs.Common.{◌≡◌, ℕ, zero, suc, ◌+◌, ◌<◌, Bool, true, false, cond, ◌&&◌, ◌||◌, List, [], ◌∷◌, filter, refl, sym, ap, ◌∙◌, arith, true≢false}
use Rattle.std.specs.Prelude.{◌==◌, nat_lt, sum_by}
use Rattle.std.proofs.lemmas.Bool.Decides.{nat_tests}
use Rattle.std.proofs.lemmas.List.Sums.{sum_by-cons}
use Rattle.key_groups.specs.Arranged.{IsArranged}

module _ {X : Type 0} (size : X → ℕ) where
  more : (b c : Bool) (x : X) (la lb lc : List X) → (b && c) ≡ false → sum_by size la ≡ sum_by size lb + sum_by size lc
      → sum_by size (cond (b || c) (x ∷ la) la) ≡ sum_by size (cond b (x ∷ lb) lb) + sum_by size (cond c (x ∷ lc) lc)
  more true true x la lb lc apart is = absurd (true≢false apart)
  more true false x la lb lc apart is = let own : sum_by size (x ∷ la) ≡ sum_by size (x ∷ lb) + sum_by size lc = omega (arith, is, sum_by-cons size x la, sum_by-cons size x lb) in own
  more false true x la lb lc apart is = let own : sum_by size (x ∷ la) ≡ sum_by size lb + sum_by size (x ∷ lc) = omega (arith, is, sum_by-cons size x la, sum_by-cons size x lc) in own
  more false false x la lb lc apart is = is

  is-less : (m n : ℕ) → nat_lt m (suc n) ≡ (nat_lt m n || (m == n))
  is-less m n = grind (arith, nat_tests)

  not-both : (m n : ℕ) → (nat_lt m n && (m == n)) ≡ false
  not-both m n = grind (arith, nat_tests)

  one-size-more : (n : ℕ) (xs : List X) → sum_by size (filter (λ x. nat_lt (size x) (suc n)) xs) ≡ sum_by size (filter (λ x. nat_lt (size x) n) xs) + sum_by size (filter (λ x. size x == n) xs)
  one-size-more n [] = refl
  one-size-more n (x ∷ xs) =
      let rest = one-size-more n xs in
      ap (λ b. sum_by size (cond b (x ∷ filter (λ x. nat_lt (size x) (suc n)) xs) (filter (λ x. nat_lt (size x) (suc n)) xs))) (is-less (size x) n)
      ∙ more (nat_lt (size x) n) (size x == n) x (filter (λ x. nat_lt (size x) (suc n)) xs) (filter (λ x. nat_lt (size x) n) xs) (filter (λ x. size x == n) xs) (not-both (size x) n) rest

  none-below-zero : (xs : List X) → filter (λ x. nat_lt (size x) 0) xs ≡ []
  none-below-zero [] = refl
  none-below-zero (x ∷ xs) = let isnt : nat_lt (size x) 0 ≡ false = grind (arith, nat_tests) in ap (λ b. cond b (x ∷ filter (λ x. nat_lt (size x) 0) xs) (filter (λ x. nat_lt (size x) 0) xs)) isnt ∙ none-below-zero xs

  same-below : (xs ys : List X) → ((n : ℕ) → filter (λ x. size x == n) ys ≡ filter (λ x. size x == n) xs) → (n : ℕ)
      → sum_by size (filter (λ x. nat_lt (size x) n) ys) ≡ sum_by size (filter (λ x. nat_lt (size x) n) xs)
  same-below xs ys each zero = ap (sum_by size) (none-below-zero ys ∙ sym (none-below-zero xs))
  same-below xs ys each (suc n) =
      let rest = same-below xs ys each n in
      let here = ap (sum_by size) (each n) in
      omega (arith, one-size-more n ys, one-size-more n xs, rest, here)

  all-below : (n : ℕ) (xs : List X) → sum_by size xs < n → sum_by size (filter (λ x. nat_lt (size x) n) xs) ≡ sum_by size xs
  all-below n [] under = refl
  all-below n (x ∷ xs) under =
      let parts = sum_by-cons size x xs in
      let rest = all-below n xs (omega (arith, under, parts)) in
      let low : size x < n = omega (arith, under, parts) in
      let is : nat_lt (size x) n ≡ true = grind (arith, nat_tests, low) in
      let own : sum_by size (x ∷ filter (λ x. nat_lt (size x) n) xs) ≡ sum_by size (x ∷ xs) = omega (arith, rest, parts, sum_by-cons size x (filter (λ x. nat_lt (size x) n) xs)) in
      ap (λ b. sum_by size (cond b (x ∷ filter (λ x. nat_lt (size x) n) xs) (filter (λ x. nat_lt (size x) n) xs))) is ∙ own

  pub arranged-total : (InOrder : ℕ → ℕ → Type 0) (before after : List X) → IsArranged InOrder size before after → sum_by size after ≡ sum_by size before
  arranged-total InOrder before after is =
      let n = suc (sum_by size before + sum_by size after) in
      sym (all-below n after (omega arith)) ∙ same-below before after is.each n ∙ all-below n before (omega arith)
