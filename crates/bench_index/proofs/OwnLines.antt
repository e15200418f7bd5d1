-- Of a list by rising rows, what is one row's own.
use Rattle.std.proofs.Common.{◌≡◌, ℕ, ◌+◌, ◌<◌, Bool, true, false, cond, List, [], ◌∷◌, ◌++◌, map, filter, Option, Some, None, refl, ap, ◌∙◌, subst, inl, inr, arith}
use Rattle.std.specs.Prelude.{◌==◌}
use Rattle.std.specs.Option.{option_to_list}
use Rattle.std.specs.List.{All, Contains, filter_map, cons_option, enumerate_from, flat_map}
use Rattle.std.proofs.lemmas.Bool.Decides.{nat_tests}
use Rattle.std.proofs.lemmas.List.Elements.{filter-append, All-head, All-tail, All-contains}
use Rattle.cfd_semantics.specs.EntrySets.{IsRising}
use Rattle.cfd_semantics.specs.Numbered.{numbered}
use Rattle.cfd_semantics.proofs.Members.{contains_nothing, contains_cases}
use Rattle.cfd_semantics.proofs.Sets.{rising-head, rising-tail}

-- ---- a test of what stands behind the numbers

module _ {X : Type 0} (p : X → Bool) where
  filter-paired : (n : ℕ) (xs : List X) → filter (λ (one : ℕ × X). p one.1) (map (λ x. (n, x)) xs) ≡ map (λ x. (n, x)) (filter p xs)
  filter-paired n [] = refl
  filter-paired n (x ∷ xs) = by (p x) (filter-paired n xs)
    where
      by : (b : Bool) → filter (λ (one : ℕ × X). p one.1) (map (λ x. (n, x)) xs) ≡ map (λ x. (n, x)) (filter p xs)
          → cond b ((n, x) ∷ filter (λ (one : ℕ × X). p one.1) (map (λ x. (n, x)) xs)) (filter (λ (one : ℕ × X). p one.1) (map (λ x. (n, x)) xs)) ≡ map (λ x. (n, x)) (cond b (x ∷ filter p xs) (filter p xs))
      by true rest = ap (λ more. (n, x) ∷ more) rest
      by false rest = rest

module _ {T X : Type 0} (p : X → Bool) where
  abbrev from : (T → List X) → ℕ → List T → List (ℕ × X)
  from gives n items = flat_map (λ (item : ℕ × T). map (λ given. (item.0, given)) (gives item.1)) (enumerate_from n items)

  filter_from : (gives : T → List X) (n : ℕ) (items : List T) → filter (λ (one : ℕ × X). p one.1) (from gives n items) ≡ from (λ item. filter p (gives item)) n items
  filter_from gives n [] = refl
  filter_from gives n (item ∷ items) =
      filter-append (λ (one : ℕ × X). p one.1) (map (λ given. (n, given)) (gives item)) (from gives (n + 1) items)
      ∙ ap (λ front. front ++ filter (λ (one : ℕ × X). p one.1) (from gives (n + 1) items)) (filter-paired p n (gives item))
      ∙ ap (λ rest. map (λ given. (n, given)) (filter p (gives item)) ++ rest) (filter_from gives (n + 1) items)

  -- passes what each item gives
  pub filter-numbered : (gives : T → List X) (items : List T) → filter (λ (one : ℕ × X). p one.1) (numbered gives items) ≡ numbered (λ item. filter p (gives item)) items
  filter-numbered gives items = filter_from gives 0 items

-- ---- by rising rows

other_number : (m n : ℕ) → m < n → (n == m) ≡ false
other_number m n less = grind (arith, nat_tests)

lower_number : (m n : ℕ) → m < n → (m == n) ≡ false
lower_number m n less = grind (arith, nat_tests)

same_number : (m n : ℕ) → m ≡ n → (m == n) ≡ true
same_number m n is = grind (arith, nat_tests)

module _ {E F : Type 0} (row_of : E → ℕ) (other_of : F → ℕ) (h : E → Option F) (named : (e : E) (f : F) → h e ≡ Some f → other_of f ≡ row_of e) (row : ℕ) where
  abbrev own : List F → List F
  own fs = filter (λ f. other_of f == row) fs

  none_above : (es : List E) → All (λ e. row < row_of e) es → own (filter_map h es) ≡ []
  none_above [] above = refl
  none_above (e ∷ es) above = by (h e) refl (none_above es (All-tail (λ e. row < row_of e) e es above))
    where
      by : (o : Option F) → h e ≡ o → own (filter_map h es) ≡ [] → own (cons_option o (filter_map h es)) ≡ []
      by None is rest = rest
      by (Some f) is rest =
          let at = named e f is in
          let high : row < row_of e = All-head (λ e. row < row_of e) e es above in
          let other : (other_of f == row) ≡ false = other_number row (other_of f) (omega (arith, at, high)) in
          rw other rest

  -- what the row's member gives is all of it
  pub own_only : (es : List E) → IsRising row_of es → (e : E) → Contains es e → row_of e ≡ row → own (filter_map h es) ≡ option_to_list (h e)
  own_only [] rising e inside is = absurd (contains_nothing e inside)
  own_only (x ∷ xs) rising e inside is = elim (contains_cases e x xs inside) [
    | inl same ↦ subst (λ y. own (filter_map h (x ∷ xs)) ≡ option_to_list (h y)) same (here (h x) refl (ap row_of same ∙ is))
    | inr later ↦ past (h x) refl (let low : row_of x < row_of e = All-contains (λ f. row_of x < row_of f) xs e (rising-head row_of x xs rising) later in omega (arith, low, is)) (own_only xs (rising-tail row_of x xs rising) e later is)
  ]
    where
      here : (o : Option F) → h x ≡ o → row_of x ≡ row → own (cons_option o (filter_map h xs)) ≡ option_to_list o
      here None gives at = none_above xs (subst (λ n. All (λ e. n < row_of e) xs) at (rising-head row_of x xs rising))
      here (Some f) gives at =
          let own_one : (other_of f == row) ≡ true = same_number (other_of f) row (named x f gives ∙ at) in
          rw own_one (ap (λ rest. f ∷ rest) (none_above xs (subst (λ n. All (λ e. n < row_of e) xs) at (rising-head row_of x xs rising))))

      past : (o : Option F) → h x ≡ o → row_of x < row → own (filter_map h xs) ≡ option_to_list (h e) → own (cons_option o (filter_map h xs)) ≡ option_to_list (h e)
      past None gives low rest = rest
      past (Some f) gives low rest =
          let at = named x f gives in
          let other : (other_of f == row) ≡ false = lower_number (other_of f) row (omega (arith, at, low)) in
          rw other rest

-- ---- a map of what passes is what some members give

pub given_where : {E F : Type 0} (p : E → Bool) (f : E → F) (es : List E) → map f (filter p es) ≡ filter_map (λ e. cond (p e) (Some (f e)) None) es
given_where p f [] = refl
given_where {E} {F} p f (e ∷ es) = by (p e) (given_where p f es)
  where
    by : (b : Bool) → map f (filter p es) ≡ filter_map (λ e. cond (p e) (Some (f e)) None) es
        → map f (cond b (e ∷ filter p es) (filter p es)) ≡ cons_option (cond b (Some (f e)) None) (filter_map (λ e. cond (p e) (Some (f e)) None) es)
    by true rest = ap (λ more. f e ∷ more) rest
    by false rest = rest
