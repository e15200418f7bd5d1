-- What changes of one pair make of a marked map: which pairs pass a test, and which are marked.
use Rattle.std.proofs.Common.{◌≡◌, ◌≢◌, ℕ, zero, suc, ◌<◌, ◌≤◌, ◌⊎◌, Bool, true, false, not, ◌&&◌, ◌||◌, List, [], ◌∷◌, ◌++◌, length, get_or, swap, slice_get, Some, refl, sym, ap, ◌∙◌, inl, inr, arith}
use Rattle.std.specs.List.{list_any, Contains}
use Rattle.std.proofs.lemmas.Bool.{cases_lt, cases_eq}
use Rattle.std.proofs.lemmas.Option.{none-some, same_Some, slice_get-get_or, slice_get_within}
use Rattle.marked_map.specs.MarkedMap.{MarkedPairs, IsMarked, IsUnmarked, KeepsOthers}
use Rattle.marked_map.specs.Lending.{with_value}
use Rattle.marked_map.proofs.MarkedMapLemmas.{slice_get-swap_to, slice_get-swap_from, slice_get-swap_else}
use Rattle.cfd_semantics.proofs.InclusionLaw.{found_by_any, any_from_found}

-- ---- members and places

pub at_from_contains : {X : Type 0} (xs : List X) (x : X) → Contains xs x → (i : ℕ) × (slice_get xs i ≡ Some x)
at_from_contains xs x (i, within, is) = (i, slice_get-get_or xs i x within ∙ ap (λ y. Some y) is)

pub contains_from_at : {X : Type 0} (xs : List X) (x : X) (i : ℕ) → slice_get xs i ≡ Some x → Contains xs x
contains_from_at xs x i at =
    let within = slice_get_within xs i x at in
    (i, within, same_Some (get_or xs i x) x (sym (slice_get-get_or xs i x within) ∙ at))

pub any_at : {X : Type 0} (f : X → Bool) (xs : List X) (x : X) (i : ℕ) → slice_get xs i ≡ Some x → f x ≡ true → list_any f xs ≡ true
any_at f xs x i at is = any_from_found f xs x (contains_from_at xs x i at) is

pub found_at : {X : Type 0} (f : X → Bool) (xs : List X) → list_any f xs ≡ true → (x : X) × (i : ℕ) × (slice_get xs i ≡ Some x) × (f x ≡ true)
found_at f xs some =
    let found = found_by_any f xs some in
    let at = at_from_contains xs found.0 found.1 in
    (found.0, at.0, at.1, found.2)

-- two tests of which each implies the other
pub same_truth : (a b : Bool) → (a ≡ true → b ≡ true) → (b ≡ true → a ≡ true) → a ≡ b
same_truth true b to from = sym (to refl)
same_truth false true to from = from refl
same_truth false false to from = refl

pub never : (a : Bool) → (a ≡ true → ⊥) → a ≡ false
never true not_true = absurd (not_true refl)
never false not_true = refl

pub clash : (a : Bool) → a ≡ true → a ≡ false → ⊥
clash a one other = cc

pub none_pass : {X : Type 0} (f : X → Bool) (xs : List X) → ((x : X) (i : ℕ) → slice_get xs i ≡ Some x → f x ≡ false) → list_any f xs ≡ false
none_pass f xs none = never (list_any f xs) (λ some. let found = found_at f xs some in clash (f found.0) found.3 (none found.0 found.1 found.2))

-- the same pass in two lists where whatever passes is in both
pub same_pass : {X : Type 0} (f : X → Bool) (xs ys : List X) → ((x : X) → f x ≡ true → Contains xs x → Contains ys x) → ((x : X) → f x ≡ true → Contains ys x → Contains xs x) → list_any f xs ≡ list_any f ys
same_pass f xs ys to from =
    same_truth (list_any f xs) (list_any f ys)
    (λ some. let found = found_by_any f xs some in any_from_found f ys found.0 (to found.0 found.2 found.1) found.2)
    (λ some. let found = found_by_any f ys some in any_from_found f xs found.0 (from found.0 found.2 found.1) found.2)

-- ---- two places change

pub swapped_pass : {X : Type 0} (f : X → Bool) (xs : List X) (a b : ℕ) → a < length xs → b < length xs → list_any f (swap xs a b) ≡ list_any f xs
swapped_pass {X} f xs a b in_a in_b = same_pass f (swap xs a b) xs (λ x is inside. back x inside) (λ x is inside. forth x inside)
  where
    forth : (x : X) → Contains xs x → Contains (swap xs a b) x
    forth x inside =
        let at = at_from_contains xs x inside in
        elim (cases_eq at.0 a) [
          | inl e ↦ contains_from_at (swap xs a b) x b (slice_get-swap_to xs a b in_a in_b ∙ ap (slice_get xs) (sym e) ∙ at.1)
          | inr not_a ↦ elim (cases_eq at.0 b) [
            | inl e ↦ contains_from_at (swap xs a b) x a (slice_get-swap_from xs a b in_a in_b ∙ ap (slice_get xs) (sym e) ∙ at.1)
            | inr not_b ↦ contains_from_at (swap xs a b) x at.0 (slice_get-swap_else xs a b at.0 in_a in_b not_a not_b ∙ at.1)
          ]
        ]

    back : (x : X) → Contains (swap xs a b) x → Contains xs x
    back x inside =
        let at = at_from_contains (swap xs a b) x inside in
        elim (cases_eq at.0 b) [
          | inl e ↦ contains_from_at xs x a (sym (slice_get-swap_to xs a b in_a in_b) ∙ ap (slice_get (swap xs a b)) (sym e) ∙ at.1)
          | inr not_b ↦ elim (cases_eq at.0 a) [
            | inl e ↦ contains_from_at xs x b (sym (slice_get-swap_from xs a b in_a in_b) ∙ ap (slice_get (swap xs a b)) (sym e) ∙ at.1)
            | inr not_a ↦ contains_from_at xs x at.0 (sym (slice_get-swap_else xs a b at.0 in_a in_b not_a not_b) ∙ at.1)
          ]
        ]

-- where no item stands twice, the one that stood at a is at b alone
pub swapped_apart : {X : Type 0} (xs : List X) (a b : ℕ) → a < length xs → b < length xs → ((i j : ℕ) (x : X) → slice_get xs i ≡ Some x → slice_get xs j ≡ Some x → i ≡ j)
    → (i : ℕ) (x : X) → i ≢ b → slice_get (swap xs a b) i ≡ Some x → slice_get xs a ≢ Some x
swapped_apart xs a b in_a in_b once i x not_b at was = elim (cases_eq i a) [
  | inl e ↦
      let there : slice_get xs b ≡ Some x = sym (slice_get-swap_from xs a b in_a in_b) ∙ ap (slice_get (swap xs a b)) (sym e) ∙ at in
      not_b (e ∙ once a b x was there)
  | inr not_a ↦ not_a (once i a x (sym (slice_get-swap_else xs a b i in_a in_b not_a not_b) ∙ at) was)
]

-- ---- one value changes

-- the pairs with w as the value at a place
abbrev pub set_value_at : {K V : Type 0} → List (K × V) → ℕ → V → List (K × V)
set_value_at es place w = (with_value (record { pairs = es; marked = 0 }) place w).pairs

or_last : (a b t : Bool) → ((a || t) || b) ≡ ((a || b) || t)
or_last true b t = refl
or_last false true true = refl
or_last false true false = refl
or_last false false true = refl
or_last false false false = refl

module _ {K V : Type 0} where
  pub set_here : (es : List (K × V)) (place : ℕ) (k : K) (v w : V) → slice_get es place ≡ Some (k, v) → slice_get (set_value_at es place w) place ≡ Some (k, w)
  set_here [] place k v w at = absurd (none-some (k, v) at)
  set_here (e ∷ es) zero k v w at =
      let same : e.0 ≡ k = ap (λ (p : K × V). p.0) (same_Some e (k, v) at) in
      ap (λ key. Some (key, w)) same
  set_here (e ∷ es) (suc place) k v w at = set_here es place k v w at

  pub set_beside : (es : List (K × V)) (place i : ℕ) (w : V) → i ≢ place → slice_get (set_value_at es place w) i ≡ slice_get es i
  set_beside [] place i w apart = refl
  set_beside (e ∷ es) zero zero w apart = absurd (apart refl)
  set_beside (e ∷ es) zero (suc i) w apart = refl
  set_beside (e ∷ es) (suc place) zero w apart = refl
  set_beside (e ∷ es) (suc place) (suc i) w apart = set_beside es place i w (λ same. apart (ap (λ n. suc n) same))

  pub set_length : (es : List (K × V)) (place : ℕ) (w : V) → length (set_value_at es place w) ≡ length es
  set_length [] place w = refl
  set_length (e ∷ es) zero w = refl
  set_length (e ∷ es) (suc place) w = ap (λ n. suc n) (set_length es place w)

  pub set_more : (f : K × V → Bool) (es : List (K × V)) (place : ℕ) (k : K) (v w : V) (t : Bool) → slice_get es place ≡ Some (k, v) → f (k, w) ≡ (f (k, v) || t) → list_any f (set_value_at es place w) ≡ (list_any f es || t)
  set_more f [] place k v w t at more = absurd (none-some (k, v) at)
  set_more f (e ∷ es) zero k v w t at more =
      let same : e ≡ (k, v) = same_Some e (k, v) at in
      ap (λ key. f (key, w) || list_any f es) (ap (λ (p : K × V). p.0) same) ∙ ap (λ b. b || list_any f es) (more ∙ ap (λ p. f p || t) (sym same)) ∙ or_last (f e) (list_any f es) t
  set_more f (e ∷ es) (suc place) k v w t at more = ap (λ b. f e || b) (set_more f es place k v w t at more) ∙ assoc (f e) (list_any f es) t
    where
      assoc : (a b c : Bool) → (a || (b || c)) ≡ ((a || b) || c)
      assoc true b c = refl
      assoc false b c = refl

  pub set_same : (f : K × V → Bool) (es : List (K × V)) (place : ℕ) (k : K) (v w : V) → slice_get es place ≡ Some (k, v) → f (k, w) ≡ f (k, v) → list_any f (set_value_at es place w) ≡ list_any f es
  set_same f es place k v w at same = set_more f es place k v w false at (same ∙ or_false (f (k, v))) ∙ sym (or_false (list_any f es))
    where
      or_false : (b : Bool) → b ≡ (b || false)
      or_false true = refl
      or_false false = refl

  pub set_less : (f : K × V → Bool) (es : List (K × V)) (place : ℕ) (k : K) (v w : V) (t : Bool) → slice_get es place ≡ Some (k, v) → f (k, w) ≡ (f (k, v) && not t)
      → ((i : ℕ) (x : K × V) → i ≢ place → slice_get es i ≡ Some x → t ≡ true → f x ≡ false) → list_any f (set_value_at es place w) ≡ (list_any f es && not t)
  set_less f es place k v w true at less others =
      none_pass f (set_value_at es place w) (λ x i there. elim (cases_eq i place) [
        | inl e ↦
            let is : (k, w) ≡ x = same_Some (k, w) x (sym (set_here es place k v w at) ∙ ap (slice_get (set_value_at es place w)) (sym e) ∙ there) in
            ap f (sym is) ∙ less ∙ and_false (f (k, v))
        | inr apart ↦ others i x apart (sym (set_beside es place i w apart) ∙ there) refl
      ]) ∙ sym (and_false (list_any f es))
    where
      and_false : (b : Bool) → (b && false) ≡ false
      and_false true = refl
      and_false false = refl
  set_less f es place k v w false at less others = set_same f es place k v w at (less ∙ and_true (f (k, v))) ∙ sym (and_true (list_any f es))
    where
      and_true : (b : Bool) → (b && true) ≡ b
      and_true true = refl
      and_true false = refl

-- ---- one more comes in last

pub push_more : {X : Type 0} (f : X → Bool) (xs : List X) (x : X) → list_any f (xs ++ x ∷ []) ≡ (list_any f xs || f x)
push_more f [] x = or_false (f x)
  where
    or_false : (b : Bool) → (b || false) ≡ b
    or_false true = refl
    or_false false = refl
push_more f (y ∷ ys) x = ap (λ b. f y || b) (push_more f ys x) ∙ assoc (f y) (list_any f ys) (f x)
  where
    assoc : (a b c : Bool) → (a || (b || c)) ≡ ((a || b) || c)
    assoc true b c = refl
    assoc false b c = refl

pub push_last : {X : Type 0} (xs : List X) (x : X) → slice_get (xs ++ x ∷ []) (length xs) ≡ Some x
push_last [] x = refl
push_last (y ∷ ys) x = push_last ys x

pub push_beside : {X : Type 0} (xs : List X) (x : X) (i : ℕ) → i ≢ length xs → slice_get (xs ++ x ∷ []) i ≡ slice_get xs i
push_beside [] x zero apart = absurd (apart refl)
push_beside [] x (suc i) apart = refl
push_beside (y ∷ ys) x zero apart = refl
push_beside (y ∷ ys) x (suc i) apart = push_beside ys x i (λ same. apart (ap (λ n. suc n) same))

-- ---- marks

module _ {K V : Type 0} (D : K × V → Bool) where
  -- the marked pairs are exactly those that pass
  pub record MarksRight (m : MarkedPairs K V) : Type 0 where
    pub marked : (pair : K × V) → IsMarked m pair → D pair ≡ true
    pub unmarked : (pair : K × V) → IsUnmarked m pair → D pair ≡ false

  -- but for the pair at a place
  pub record MarksRightBut (place : ℕ) (m : MarkedPairs K V) : Type 0 where
    pub marked : (pair : K × V) → slice_get m.pairs place ≢ Some pair → IsMarked m pair → D pair ≡ true
    pub unmarked : (pair : K × V) → slice_get m.pairs place ≢ Some pair → IsUnmarked m pair → D pair ≡ false

  -- once the pair has the mark that it should have, at a new place, all have
  pub settled : (old new : MarkedPairs K V) (place at : ℕ) (it : K × V) → slice_get new.pairs at ≡ Some it → ((i : ℕ) (x : K × V) → i ≢ at → slice_get new.pairs i ≡ Some x → slice_get old.pairs place ≢ Some x)
      → KeepsOthers old place new → ((at < new.marked) × (D it ≡ true)) ⊎ ((new.marked ≤ at) × (D it ≡ false)) → MarksRightBut place old → MarksRight new
  settled old new place at it here apart keeps right others = record {
    marked = λ pair (i, low, there). elim (cases_eq i at) [
      | inl e ↦
          let is : it ≡ pair = same_Some it pair (sym here ∙ ap (slice_get new.pairs) (sym e) ∙ there) in
          elim right [ inl both ↦ ap D (sym is) ∙ both.1 | inr both ↦ absurd (let high = both.0 in omega (arith, e, low, high)) ]
      | inr n ↦ let other = apart i pair n there in others.marked pair other ((keeps.marked pair other).1 (i, low, there))
    ];
    unmarked = λ pair (i, high, there). elim (cases_eq i at) [
      | inl e ↦
          let is : it ≡ pair = same_Some it pair (sym here ∙ ap (slice_get new.pairs) (sym e) ∙ there) in
          elim right [ inl both ↦ absurd (let low = both.0 in omega (arith, e, low, high)) | inr both ↦ ap D (sym is) ∙ both.1 ]
      | inr n ↦ let other = apart i pair n there in others.unmarked pair other ((keeps.unmarked pair other).1 (i, high, there))
    ];
  }

  -- a pair that gets another value may have any mark
  pub set_but : (m : MarkedPairs K V) (place : ℕ) (k : K) (v w : V) → slice_get m.pairs place ≡ Some (k, v) → MarksRight m → MarksRightBut place (record { pairs = set_value_at m.pairs place w; marked = m.marked })
  set_but m place k v w at right = record {
    marked = λ pair other (i, low, there). right.marked pair (i, low, was pair other i there);
    unmarked = λ pair other (i, high, there). right.unmarked pair (i, high, was pair other i there);
  }
    where
      was : (pair : K × V) → slice_get (set_value_at m.pairs place w) place ≢ Some pair → (i : ℕ) → slice_get (set_value_at m.pairs place w) i ≡ Some pair → slice_get m.pairs i ≡ Some pair
      was pair other i there = sym (set_beside m.pairs place i w (λ e. other (ap (slice_get (set_value_at m.pairs place w)) (sym e) ∙ there))) ∙ there

  -- and one that gets a value that passes alike has the right mark
  pub set_right : (m : MarkedPairs K V) (place : ℕ) (k : K) (v w : V) → slice_get m.pairs place ≡ Some (k, v) → D (k, w) ≡ D (k, v) → MarksRight m → MarksRight (record { pairs = set_value_at m.pairs place w; marked = m.marked })
  set_right m place k v w at same right = record {
    marked = λ pair (i, low, there). elim (cases_eq i place) [
      | inl e ↦ ap D (sym (is pair i e there)) ∙ same ∙ right.marked (k, v) (i, low, ap (slice_get m.pairs) e ∙ at)
      | inr n ↦ right.marked pair (i, low, sym (set_beside m.pairs place i w n) ∙ there)
    ];
    unmarked = λ pair (i, high, there). elim (cases_eq i place) [
      | inl e ↦ ap D (sym (is pair i e there)) ∙ same ∙ right.unmarked (k, v) (i, high, ap (slice_get m.pairs) e ∙ at)
      | inr n ↦ right.unmarked pair (i, high, sym (set_beside m.pairs place i w n) ∙ there)
    ];
  }
    where
      is : (pair : K × V) (i : ℕ) → i ≡ place → slice_get (set_value_at m.pairs place w) i ≡ Some pair → (k, w) ≡ pair
      is pair i e there = same_Some (k, w) pair (sym (set_here m.pairs place k v w at) ∙ ap (slice_get (set_value_at m.pairs place w)) (sym e) ∙ there)

  pub right_but : (m : MarkedPairs K V) (place : ℕ) → MarksRight m → MarksRightBut place m
  right_but m place right = record { marked = λ pair other is. right.marked pair is; unmarked = λ pair other is. right.unmarked pair is }

  pub push_but : (m : MarkedPairs K V) (x : K × V) → MarksRight m → MarksRightBut (length m.pairs) (record { pairs = m.pairs ++ x ∷ []; marked = m.marked })
  push_but m x right = record {
    marked = λ pair other (i, low, there). right.marked pair (i, low, was pair other i there);
    unmarked = λ pair other (i, high, there). right.unmarked pair (i, high, was pair other i there);
  }
    where
      was : (pair : K × V) → slice_get (m.pairs ++ x ∷ []) (length m.pairs) ≢ Some pair → (i : ℕ) → slice_get (m.pairs ++ x ∷ []) i ≡ Some pair → slice_get m.pairs i ≡ Some pair
      was pair other i there = sym (push_beside m.pairs x i (λ e. other (ap (slice_get (m.pairs ++ x ∷ [])) (sym e) ∙ there))) ∙ there

  -- the pair at the place is gone, and all others are there
  pub removed_right : (old new : MarkedPairs K V) (place : ℕ) → ((i : ℕ) (x : K × V) → slice_get new.pairs i ≡ Some x → slice_get old.pairs place ≢ Some x) → KeepsOthers old place new → MarksRightBut place old → MarksRight new
  removed_right old new place gone keeps others = record {
    marked = λ pair (i, low, there). let other = gone i pair there in others.marked pair other ((keeps.marked pair other).1 (i, low, there));
    unmarked = λ pair (i, high, there). let other = gone i pair there in others.unmarked pair other ((keeps.unmarked pair other).1 (i, high, there));
  }

-- the same pass once a pair is gone that didn't
pub removed_pass : {K V : Type 0} (f : K × V → Bool) (old new : MarkedPairs K V) (place : ℕ) (it : K × V) → slice_get old.pairs place ≡ Some it → f it ≡ false → KeepsOthers old place new → list_any f new.pairs ≡ list_any f old.pairs
removed_pass {K} {V} f old new place it at fails keeps = same_pass f new.pairs old.pairs back forth
  where
    other : (x : K × V) → f x ≡ true → slice_get old.pairs place ≢ Some x
    other x is there = clash (f it) (ap f (same_Some it x (sym at ∙ there)) ∙ is) fails

    back : (x : K × V) → f x ≡ true → Contains new.pairs x → Contains old.pairs x
    back x is inside =
        let there = at_from_contains new.pairs x inside in
        elim (cases_lt there.0 new.marked) [
          | inl low ↦ let was = (keeps.marked x (other x is)).1 (there.0, low, there.1) in contains_from_at old.pairs x was.0 was.2
          | inr high ↦ let was = (keeps.unmarked x (other x is)).1 (there.0, high, there.1) in contains_from_at old.pairs x was.0 was.2
        ]

    forth : (x : K × V) → f x ≡ true → Contains old.pairs x → Contains new.pairs x
    forth x is inside =
        let there = at_from_contains old.pairs x inside in
        elim (cases_lt there.0 old.marked) [
          | inl low ↦ let now = (keeps.marked x (other x is)).0 (there.0, low, there.1) in contains_from_at new.pairs x now.0 now.2
          | inr high ↦ let now = (keeps.unmarked x (other x is)).0 (there.0, high, there.1) in contains_from_at new.pairs x now.0 now.2
        ]
