-- What a stable sort by sizes leaves.
use Rattle.std.proofs.Common.{◌≡◌, ℕ, ◌≤◌, Bool, true, false, not, ◌&&◌, List, [], ◌∷◌, filter, refl, sym, ap, subst, ◌∙◌, arith}
use Rattle.std.specs.Prelude.{◌==◌, All, nat_lt}
use Rattle.std.specs.Ordering.{is_lt, nat_cmp}
use Rattle.std.specs.List.Sorted.{IsSortedBy, IsStableBy, ties}
use Rattle.std.specs.Cmp.{nat_cmp_total}
use Rattle.std.proofs.lemmas.Bool.Decides.{nat_tests}
use Rattle.std.proofs.lemmas.List.Elements.{All-head, filter_agree, filter_passes}
use Rattle.std.proofs.lemmas.List.Sorted.{IsStrictWeakOrder-flip, ranks_by, sorted_far}
use Rattle.std.proofs.Common.{Result, Ok, Err, OnOk}
use Rattle.key_groups.specs.Arranged.{IsLargestFirst, IsRarestFirst}

-- what holds where a call succeeds
pub on_ok_both : {A E P Q : Type 0} (r : Result A E) → OnOk r P → (P → Q) → OnOk r Q
on_ok_both (Ok v) p so = so p
on_ok_both (Err e) p so = tt

-- what isn't below is at most as large
not_below : (a b : ℕ) → is_lt (nat_cmp b a) ≡ false → a ≤ b
not_below a b e = by (nat_lt b a) refl
  where
    by : (t : Bool) → nat_lt b a ≡ t → a ≤ b
    by true h = grind (arith, nat_tests)
    by false h = grind (arith, nat_tests)

tie : (a b : ℕ) → (not (is_lt (nat_cmp a b)) && not (is_lt (nat_cmp b a))) ≡ (b == a)
tie a b = grind (arith, nat_tests)

tie_back : (a b : ℕ) → (not (is_lt (nat_cmp b a)) && not (is_lt (nat_cmp a b))) ≡ (b == a)
tie_back a b = grind (arith, nat_tests)

module _ {X : Type 0} (size : X → ℕ) where
  passing : (zs : List X) (n : ℕ) (z : X) (rest : List X) → filter (λ y. size y == n) zs ≡ z ∷ rest → size z ≡ n
  passing zs n z rest e =
      let head : (size z == n) ≡ true = All-head (λ y. (size y == n) ≡ true) z rest (subst (All (λ y. (size y == n) ≡ true)) e (filter_passes (λ y. size y == n) zs)) in
      grind (arith, nat_tests)

  -- what stays in order among those of an item's size stays so among those of any size
  each_size : (same : X → X → Bool) → ((x y : X) → same x y ≡ (size y == size x)) → (xs ys : List X) → ((x : X) → filter (same x) ys ≡ filter (same x) xs)
      → (n : ℕ) → filter (λ y. size y == n) ys ≡ filter (λ y. size y == n) xs
  each_size same is xs ys stable n = by (filter (λ y. size y == n) ys) (filter (λ y. size y == n) xs) refl refl
    where
      at : (x : X) → size x ≡ n → filter (λ y. size y == n) ys ≡ filter (λ y. size y == n) xs
      at x e =
          let alike : (y : X) → (size y == n) ≡ same x y = λ y. ap (λ m. size y == m) (sym e) ∙ sym (is x y) in
          filter_agree (λ y. size y == n) (same x) alike ys ∙ stable x ∙ sym (filter_agree (λ y. size y == n) (same x) alike xs)

      by : (l r : List X) → filter (λ y. size y == n) ys ≡ l → filter (λ y. size y == n) xs ≡ r → filter (λ y. size y == n) ys ≡ filter (λ y. size y == n) xs
      by (y ∷ l) r e f = at y (passing ys n y l e)
      by [] (x ∷ r) e f = at x (passing xs n x r f)
      by [] [] e f = e ∙ sym f

  pub rarest : (xs ys : List X) → IsSortedBy (λ x y. is_lt (nat_cmp (size x) (size y))) ys → IsStableBy (λ x y. is_lt (nat_cmp (size x) (size y))) xs ys → IsRarestFirst size xs ys
  rarest xs ys up stable = record {
    ordered = λ i j d before within. not_below _ _ (sorted_far (λ x y. is_lt (nat_cmp (size x) (size y))) (ranks_by nat_cmp_total size) ys up i j d (omega arith) within);
    each = each_size (ties (λ x y. is_lt (nat_cmp (size x) (size y)))) (λ x y. tie (size x) (size y)) xs ys stable;
  }

  pub largest : (xs ys : List X) → IsSortedBy (λ x y. is_lt (nat_cmp (size y) (size x))) ys → IsStableBy (λ x y. is_lt (nat_cmp (size y) (size x))) xs ys → IsLargestFirst size xs ys
  largest xs ys up stable = record {
    ordered = λ i j d before within. not_below _ _ (sorted_far (λ x y. is_lt (nat_cmp (size y) (size x))) (IsStrictWeakOrder-flip (λ x y. is_lt (nat_cmp (size x) (size y))) (ranks_by nat_cmp_total size)) ys up i j d (omega arith) within);
    each = each_size (ties (λ x y. is_lt (nat_cmp (size y) (size x)))) (λ x y. tie_back (size x) (size y)) xs ys stable;
  }
