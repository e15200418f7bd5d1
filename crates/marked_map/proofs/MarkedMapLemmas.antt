-- What moves of pairs leave at each place, and what look-ups say of the keys.
use Rattle.std.proofs.Common.{◌≡◌, ◌≢◌, ℕ, zero, suc, ◌+◌, ◌-◌, ◌<◌, ◌≤◌, ◌⊎◌, Bool, true, false, cond, nat_lt, List, [], ◌∷◌, ◌++◌, length, get_or, set, swap, swap_remove, slice_get, position, Option, Some, None, refl, sym, ap, ◌∙◌, subst, inl, inr, arith, lt-ltb, true≢false, IsSome, IfSome, IfNone, Result, Ok, Err, IfOk, OnOk, OnErr, length-append}
use borrow.Author.Tests.{ltb-true}
use Rattle.std.specs.List.{position_or_len, IsDistinct, AllByRecursion}
use Rattle.std.specs.Map.{keys_of, lookup}
use Rattle.std.specs.Cmp.{IsEquivalence}
use Rattle.std.proofs.lemmas.Bool.{cases_lt, cases_eq}
use Rattle.std.proofs.lemmas.List.{length-set, length-take-le, get_or-set_same, get_or-set_other, get_or-take}
use Rattle.std.proofs.lemmas.List.Edits.{swapped_from_swap, length-swap}
use Rattle.std.proofs.lemmas.Option.{cond_some, none-some, same_Some, slice_get-get_or, slice_get_past, slice_get_within}
use Rattle.marked_map.specs.MarkedMap.{MarkedPairs, with_mark, without_mark, without_pair, KeepsOthers, HasKey, IsAbsent, Enters}

-- ---- a swap, place by place
module _ {X : Type 0} where
  -- what stood at a stands at b
  pub slice_get-swap_to : (xs : List X) (a b : ℕ) → a < length xs → b < length xs → slice_get (swap xs a b) b ≡ slice_get xs a
  slice_get-swap_to [] a b in_a in_b = absurd (omega arith)
  slice_get-swap_to (x ∷ xs) a b in_a in_b =
      let moved = swapped_from_swap (x ∷ xs) (swap (x ∷ xs) a b) a b x in_a in_b refl in
      slice_get-get_or (swap (x ∷ xs) a b) b x (omega (arith, length-swap (x ∷ xs) a b)) ∙ ap Some moved.1
      ∙ sym (slice_get-get_or (x ∷ xs) a x in_a)

  -- what stood at b stands at a
  pub slice_get-swap_from : (xs : List X) (a b : ℕ) → a < length xs → b < length xs → slice_get (swap xs a b) a ≡ slice_get xs b
  slice_get-swap_from [] a b in_a in_b = absurd (omega arith)
  slice_get-swap_from (x ∷ xs) a b in_a in_b =
      let moved = swapped_from_swap (x ∷ xs) (swap (x ∷ xs) a b) a b x in_a in_b refl in
      slice_get-get_or (swap (x ∷ xs) a b) a x (omega (arith, length-swap (x ∷ xs) a b)) ∙ ap Some moved.0
      ∙ sym (slice_get-get_or (x ∷ xs) b x in_b)

  -- all else stays
  pub slice_get-swap_else : (xs : List X) (a b i : ℕ) → a < length xs → b < length xs → i ≢ a → i ≢ b → slice_get (swap xs a b) i ≡ slice_get xs i
  slice_get-swap_else [] a b i in_a in_b not_a not_b = absurd (omega arith)
  slice_get-swap_else (x ∷ xs) a b i in_a in_b not_a not_b =
      let moved = swapped_from_swap (x ∷ xs) (swap (x ∷ xs) a b) a b x in_a in_b refl in
      elim (cases_lt i (length (x ∷ xs))) [
        | inl in_i ↦
            slice_get-get_or (swap (x ∷ xs) a b) i x (omega (arith, in_i, length-swap (x ∷ xs) a b)) ∙ ap Some (moved.2 i not_a not_b)
            ∙ sym (slice_get-get_or (x ∷ xs) i x in_i)
        | inr past ↦
            slice_get_past (swap (x ∷ xs) a b) i (omega (arith, past, length-swap (x ∷ xs) a b)) ∙ sym (slice_get_past (x ∷ xs) i past)
      ]

  -- ---- a removal that the last one fills, place by place
  pub length-swap_remove : (xs : List X) (a : ℕ) (d : X) → a < length xs → length (swap_remove xs a d) + 1 ≡ length xs
  length-swap_remove xs a d in_a =
      let last = length xs - 1 in
      let filled = set xs a (get_or xs last d) in
      omega (arith, in_a, length-set xs a (get_or xs last d), length-take-le last filled (omega (arith, length-set xs a (get_or xs last d))))

  -- the last one stands at the place
  pub slice_get-swap_remove_at : (xs : List X) (a : ℕ) (d : X) → a + 1 < length xs → slice_get (swap_remove xs a d) a ≡ slice_get xs (length xs - 1)
  slice_get-swap_remove_at xs a d in_a =
      let last = length xs - 1 in
      slice_get-get_or (swap_remove xs a d) a d (omega (arith, in_a, length-swap_remove xs a d (omega arith)))
      ∙ ap Some (get_or-take last (set xs a (get_or xs last d)) a d (omega arith) ∙ get_or-set_same xs a (get_or xs last d) d (omega arith))
      ∙ sym (slice_get-get_or xs last d (omega arith))

  -- all else stays
  pub slice_get-swap_remove_else : (xs : List X) (a i : ℕ) (d : X) → a < length xs → i ≢ a → i + 1 < length xs → slice_get (swap_remove xs a d) i ≡ slice_get xs i
  slice_get-swap_remove_else xs a i d in_a not_a in_i =
      let last = length xs - 1 in
      slice_get-get_or (swap_remove xs a d) i d (omega (arith, in_i, length-swap_remove xs a d in_a))
      ∙ ap Some (get_or-take last (set xs a (get_or xs last d)) i d (omega arith) ∙ get_or-set_other xs a i (get_or xs last d) d not_a)
      ∙ sym (slice_get-get_or xs i d (omega arith))

-- ---- where the others go, when the one at a changes places with the one at b
module _ {X : Type 0} (xs : List X) (a b : ℕ) (in_a : a < length xs) (in_b : b < length xs) (x : X) (other : slice_get xs a ≢ Some x) where
  pub swap_forth : (i : ℕ) → slice_get xs i ≡ Some x → (i ≢ a) × (((i ≡ b) × (slice_get (swap xs a b) a ≡ Some x)) ⊎ ((i ≢ b) × (slice_get (swap xs a b) i ≡ Some x)))
  swap_forth i has =
      let not_a : i ≢ a = λ e. other (ap (slice_get xs) (sym e) ∙ has) in (
        not_a,
        elim (cases_eq i b) [
          | inl e ↦ inl (e, slice_get-swap_from xs a b in_a in_b ∙ ap (slice_get xs) (sym e) ∙ has)
          | inr n ↦ inr (n, slice_get-swap_else xs a b i in_a in_b not_a n ∙ has)
        ],
      )

  pub swap_back : (i : ℕ) → slice_get (swap xs a b) i ≡ Some x → (i ≢ b) × (((i ≡ a) × (slice_get xs b ≡ Some x)) ⊎ ((i ≢ a) × (slice_get xs i ≡ Some x)))
  swap_back i has =
      let not_b : i ≢ b = λ e. other (sym (slice_get-swap_to xs a b in_a in_b) ∙ ap (slice_get (swap xs a b)) (sym e) ∙ has) in (
        not_b,
        elim (cases_eq i a) [
          | inl e ↦ inl (e, sym (slice_get-swap_from xs a b in_a in_b) ∙ ap (slice_get (swap xs a b)) (sym e) ∙ has)
          | inr n ↦ inr (n, sym (slice_get-swap_else xs a b i in_a in_b n not_b) ∙ has)
        ],
      )

-- ---- and when the last one takes the place of the one at a
module _ {X : Type 0} (xs : List X) (a : ℕ) (d : X) (in_a : a < length xs) (x : X) (other : slice_get xs a ≢ Some x) where
  pub removed_forth : (i : ℕ) → slice_get xs i ≡ Some x → (i ≢ a) × (((i + 1 ≡ length xs) × (slice_get (swap_remove xs a d) a ≡ Some x)) ⊎ (slice_get (swap_remove xs a d) i ≡ Some x))
  removed_forth i has =
      let not_a : i ≢ a = λ e. other (ap (slice_get xs) (sym e) ∙ has) in
      let in_i : i < length xs = slice_get_within xs i x has in (
        not_a,
        elim (cases_eq (i + 1) (length xs)) [
          | inl e ↦
              let last : length xs - 1 ≡ i = omega (arith, e) in
              inl (e, slice_get-swap_remove_at xs a d (omega (arith, e, not_a)) ∙ ap (slice_get xs) last ∙ has)
          | inr n ↦ inr (slice_get-swap_remove_else xs a i d in_a not_a (omega (arith, n)) ∙ has)
        ],
      )

  pub removed_back : (i : ℕ) → slice_get (swap_remove xs a d) i ≡ Some x → ((i ≡ a) × (slice_get xs (length xs - 1) ≡ Some x)) ⊎ ((i ≢ a) × (slice_get xs i ≡ Some x))
  removed_back i has =
      let in_i : i + 1 < length xs = omega (arith, slice_get_within (swap_remove xs a d) i x has, length-swap_remove xs a d in_a) in
      elim (cases_eq i a) [
        | inl e ↦ inl (e, sym (slice_get-swap_remove_at xs a d (omega (arith, e))) ∙ ap (slice_get (swap_remove xs a d)) (sym e) ∙ has)
        | inr n ↦ inr (n, sym (slice_get-swap_remove_else xs a i d in_a n in_i) ∙ has)
      ]

-- ---- the other pairs
module _ {K V : Type 0} where
  -- two moves, of one pair
  pub KeepsOthers-then : (old mid new : MarkedPairs K V) (place between : ℕ) → slice_get mid.pairs between ≡ slice_get old.pairs place
      → KeepsOthers old place mid → KeepsOthers mid between new → KeepsOthers old place new
  KeepsOthers-then old mid new place between same first second = record {
    marked = λ pair other. let still = λ (e : slice_get mid.pairs between ≡ Some pair). other (sym same ∙ e) in
        (λ h. (second.marked pair still).0 ((first.marked pair other).0 h), λ h. (first.marked pair other).1 ((second.marked pair still).1 h));
    unmarked = λ pair other. let still = λ (e : slice_get mid.pairs between ≡ Some pair). other (sym same ∙ e) in
        (λ h. (second.unmarked pair still).0 ((first.unmarked pair other).0 h), λ h. (first.unmarked pair other).1 ((second.unmarked pair still).1 h));
  }

  -- after a change in which nothing moves
  pub KeepsOthers-same : (old : MarkedPairs K V) (place : ℕ) → KeepsOthers old place old
  KeepsOthers-same old place = record { marked = λ pair other. (λ h. h, λ h. h); unmarked = λ pair other. (λ h. h, λ h. h) }

  module _ (m : MarkedPairs K V) (place : ℕ) (within : place < length m.pairs) where
    pub KeepsOthers-with_mark : m.marked ≤ place → KeepsOthers m place (with_mark m place)
    KeepsOthers-with_mark unmarked = record {
      marked = λ pair other. let forth = swap_forth m.pairs place m.marked within (omega arith) pair other in
          let back = swap_back m.pairs place m.marked within (omega arith) pair other in (
            λ h. elim ((forth h.0 h.2).1) [ inl e ↦ (place, absurd (omega (arith, h.1, e.0)), e.1) | inr n ↦ (h.0, omega (arith, h.1), n.1) ],
            λ h. let b = back h.0 h.2 in elim b.1 [ inl e ↦ absurd (omega (arith, h.1, b.0, e.0)) | inr n ↦ (h.0, omega (arith, h.1, b.0), n.1) ],
          );
      unmarked = λ pair other. let forth = swap_forth m.pairs place m.marked within (omega arith) pair other in
          let back = swap_back m.pairs place m.marked within (omega arith) pair other in (
            λ h. let f = forth h.0 h.2 in elim f.1 [ inl e ↦ (place, omega (arith, f.0, e.0), e.1) | inr n ↦ (h.0, omega (arith, h.1, n.0), n.1) ],
            λ h. elim ((back h.0 h.2).1) [ inl e ↦ (m.marked, omega arith, e.1) | inr n ↦ (h.0, omega (arith, h.1), n.1) ],
          );
    }

    pub KeepsOthers-without_mark : place < m.marked → m.marked ≤ length m.pairs → KeepsOthers m place (without_mark m place)
    KeepsOthers-without_mark marked fits = record {
      marked = λ pair other. let forth = swap_forth m.pairs place (m.marked - 1) within (omega arith) pair other in
          let back = swap_back m.pairs place (m.marked - 1) within (omega arith) pair other in (
            λ h. let f = forth h.0 h.2 in elim f.1 [ inl e ↦ (place, omega (arith, f.0, e.0, h.1), e.1) | inr n ↦ (h.0, omega (arith, h.1, n.0), n.1) ],
            λ h. elim ((back h.0 h.2).1) [ inl e ↦ (m.marked - 1, omega arith, e.1) | inr n ↦ (h.0, omega (arith, h.1), n.1) ],
          );
      unmarked = λ pair other. let forth = swap_forth m.pairs place (m.marked - 1) within (omega arith) pair other in
          let back = swap_back m.pairs place (m.marked - 1) within (omega arith) pair other in (
            λ h. elim ((forth h.0 h.2).1) [ inl e ↦ absurd (omega (arith, h.1, e.0)) | inr n ↦ (h.0, omega (arith, h.1), n.1) ],
            λ h. let b = back h.0 h.2 in elim b.1 [ inl e ↦ absurd (omega (arith, h.1, e.0, b.0)) | inr n ↦ (h.0, omega (arith, h.1, b.0), n.1) ],
          );
    }

    pub KeepsOthers-without_pair : (taken : K × V) → m.marked ≤ place → KeepsOthers m place (without_pair m place taken)
    KeepsOthers-without_pair taken unmarked = record {
      marked = λ pair other. let forth = removed_forth m.pairs place taken within pair other in
          let back = removed_back m.pairs place taken within pair other in (
            λ h. elim ((forth h.0 h.2).1) [ inl e ↦ absurd (omega (arith, h.1, e.0)) | inr n ↦ (h.0, h.1, n) ],
            λ h. elim (back h.0 h.2) [ inl e ↦ absurd (omega (arith, h.1, e.0)) | inr n ↦ (h.0, h.1, n.1) ],
          );
      unmarked = λ pair other. let forth = removed_forth m.pairs place taken within pair other in
          let back = removed_back m.pairs place taken within pair other in (
            λ h. elim ((forth h.0 h.2).1) [ inl e ↦ (place, unmarked, e.1) | inr n ↦ (h.0, h.1, n) ],
            λ h. elim (back h.0 h.2) [ inl e ↦ (length m.pairs - 1, omega arith, e.1) | inr n ↦ (h.0, h.1, n.1) ],
          );
    }

-- ---- look-ups
module _ {K : Type 0} (same : K → K → Bool) (laws : IsEquivalence same) where
  apart : (key : K) (keys : List K) (place : ℕ) (stored : K) → AllByRecursion (λ k. same key k ≡ false) keys → slice_get keys place ≡ Some stored → same key stored ≡ false
  apart key [] place stored h at = absurd (none-some stored at)
  apart key (k ∷ ks) zero stored h at = ap (same key) (sym (same_Some k stored at)) ∙ h.0
  apart key (k ∷ ks) (suc place) stored h at = apart key ks place stored h.1 at

  -- equal keys stand at one place
  pub one_place : (keys : List K) → IsDistinct same keys → (place other : ℕ) (key stored : K) → slice_get keys place ≡ Some key → slice_get keys other ≡ Some stored
      → same key stored ≡ true → place ≡ other
  unfolding IsDistinct
  one_place [] d place other key stored p q e = absurd (none-some key p)
  one_place (k ∷ ks) d zero zero key stored p q e = refl
  one_place (k ∷ ks) d zero (suc other) key stored p q e =
      absurd (true≢false (sym e ∙ ap (λ x. same x stored) (sym (same_Some k key p)) ∙ apart k ks other stored d.0 q))
  one_place (k ∷ ks) d (suc place) zero key stored p q e =
      absurd (true≢false (sym e ∙ laws.symm key stored ∙ ap (λ x. same x key) (sym (same_Some k stored q)) ∙ apart k ks place key d.0 p))
  one_place (k ∷ ks) d (suc place) (suc other) key stored p q e = ap suc (one_place ks d.1 place other key stored p q e)

module _ {K : Type 0} (t : K → Bool) where
  place-first : (k : K) (ks : List K) → t k ≡ true → position_or_len t (k ∷ ks) ≡ 0
  place-first k ks e = rw e refl

  place-later : (k : K) (ks : List K) → t k ≡ false → position_or_len t (k ∷ ks) ≡ suc (position_or_len t ks)
  place-later k ks e = rw e (omega arith)

  -- a key at the place passes
  abbrev Passes : List K → ℕ → Type 0
  Passes keys place = (stored : K) × (slice_get keys place ≡ Some stored) × (t stored ≡ true)

  -- no key passes
  abbrev pub NonePasses : List K → Type 0
  NonePasses keys = (place : ℕ) (stored : K) → slice_get keys place ≡ Some stored → t stored ≡ false

  Passes-place : (keys : List K) → position_or_len t keys < length keys → Passes keys (position_or_len t keys)
  Passes-place [] below = absurd (omega arith)
  Passes-place (k ∷ ks) below = by (t k) refl (Passes-place ks)
    where
      by : (b : Bool) → t k ≡ b → (position_or_len t ks < length ks → Passes ks (position_or_len t ks)) → Passes (k ∷ ks) (position_or_len t (k ∷ ks))
      by true e rest = rw (place-first k ks e) (k, refl, e)
      by false e rest = rw (place-later k ks e) (rest (omega (arith, below, place-later k ks e)))

  NonePasses-place : (keys : List K) → length keys ≤ position_or_len t keys → NonePasses keys
  NonePasses-place [] past place stored at = absurd (none-some stored at)
  NonePasses-place (k ∷ ks) past place stored at = by (t k) refl (NonePasses-place ks) place at
    where
      by : (b : Bool) → t k ≡ b → (length ks ≤ position_or_len t ks → NonePasses ks) → (i : ℕ) → slice_get (k ∷ ks) i ≡ Some stored → t stored ≡ false
      by true e rest i h = absurd (omega (arith, past, place-first k ks e))
      by false e rest zero h = ap t (sym (same_Some k stored h)) ∙ e
      by false e rest (suc i) h = rest (omega (arith, past, place-later k ks e)) i stored h

  -- what `position` answers
  pub position-Passes : (keys : List K) (answer : Option ℕ) → answer ≡ position t keys → IfSome answer (λ place. (stored : K) × (slice_get keys place ≡ Some stored) × (t stored ≡ true))
  position-Passes keys None is = tt
  position-Passes keys (Some place) is =
      let at = cond_some (nat_lt (position_or_len t keys) (length keys)) (position_or_len t keys) place (sym is) in
      subst (Passes keys) at.1 (Passes-place keys (ltb-true _ _ at.0))

  pub position-NonePasses : (keys : List K) (answer : Option ℕ) → answer ≡ position t keys → IfNone answer (NonePasses keys)
  position-NonePasses keys (Some place) is = tt
  position-NonePasses keys None is =
      elim (cases_lt (position_or_len t keys) (length keys)) [
        | inl below ↦ absurd (none-some (position_or_len t keys) (is ∙ ap (λ b. cond b (Some (position_or_len t keys)) None) (lt-ltb _ _ below)))
        | inr past ↦ NonePasses-place keys past
      ]

  module _ {V : Type 0} where
    -- what a look-up's answer says of the keys
    pub lookup-place : (es : List (K × V)) → lookup t es ≡ None → position_or_len t (keys_of es) ≡ length es
    lookup-place [] none = refl
    lookup-place (e ∷ es) none = by (t e.0) refl (lookup-place es)
      where
        by : (b : Bool) → t e.0 ≡ b → (lookup t es ≡ None → position_or_len t (keys_of es) ≡ length es) → position_or_len t (keys_of (e ∷ es)) ≡ length (e ∷ es)
        by true h rest = absurd (none-some e.1 (sym none ∙ ap (λ b. cond b (Some e.1) (lookup t es)) h))
        by false h rest = place-later e.0 (keys_of es) h ∙ ap suc (rest (sym (ap (λ b. cond b (Some e.1) (lookup t es)) h) ∙ none))

    length-keys : (es : List (K × V)) → length (keys_of es) ≡ length es
    length-keys [] = refl
    length-keys (e ∷ es) = ap suc (length-keys es)

    pub lookup-NonePasses : (es : List (K × V)) → lookup t es ≡ None → NonePasses (keys_of es)
    lookup-NonePasses es none = NonePasses-place (keys_of es) (omega (arith, lookup-place es none, length-keys es))

    -- a key that is found is at its first place
    lookup-Passes : (es : List (K × V)) (value : V) → lookup t es ≡ Some value → Passes (keys_of es) (position_or_len t (keys_of es))
    lookup-Passes [] value some = absurd (none-some value some)
    lookup-Passes (e ∷ es) value some = by (t e.0) refl (lookup-Passes es value)
      where
        by : (b : Bool) → t e.0 ≡ b → (lookup t es ≡ Some value → Passes (keys_of es) (position_or_len t (keys_of es))) → Passes (keys_of (e ∷ es)) (position_or_len t (keys_of (e ∷ es)))
        by true h rest = rw (place-first e.0 (keys_of es) h) (e.0, refl, h)
        by false h rest = rw (place-later e.0 (keys_of es) h) (rest (sym (ap (λ b. cond b (Some e.1) (lookup t es)) h) ∙ some))

-- what entering a key does to the map, from what it does to the entries
module _ {K V : Type 0} (same : K → K → Bool) (m : MarkedPairs K V) (key : K) (fresh : V) (place : ℕ) (new : List (K × V))
    (first : place ≡ position_or_len (same key) (keys_of m.pairs))
    (found : IsSome (lookup (same key) m.pairs) → new ≡ m.pairs)
    (pushed : lookup (same key) m.pairs ≡ None → new ≡ m.pairs ++ (key, fresh) ∷ []) where
  pub Enters-place : Enters same m key fresh place (record { pairs = new; marked = m.marked })
  Enters-place = by (lookup (same key) m.pairs) refl
    where
      by : (answer : Option V) → lookup (same key) m.pairs ≡ answer → Enters same m key fresh place (record { pairs = new; marked = m.marked })
      by (Some value) e =
          inl (
            subst (HasKey same m key) (sym first) (lookup-Passes (same key) m.pairs value e),
            ap (λ (pairs : List (K × V)). record m { pairs = pairs }) (found (subst IsSome (sym e) refl)),
          )
      by None e =
          inr (
            lookup-NonePasses (same key) m.pairs e,
            first ∙ lookup-place (same key) m.pairs e,
            ap (λ (pairs : List (K × V)). record m { pairs = pairs }) (pushed e),
          )

-- an entered key stands in the map
pub Enters-within : {K V : Type 0} (same : K → K → Bool) (old new : MarkedPairs K V) (key : K) (fresh : V) (place : ℕ) → Enters same old key fresh place new → place < length new.pairs
Enters-within same old new key fresh place (inl h) =
    omega (arith, slice_get_within (keys_of old.pairs) place h.0.0 h.0.1, length-keys (same key) old.pairs, ap (λ m. length m.pairs) h.1)
Enters-within same old new key fresh place (inr h) =
    omega (arith, h.1, ap (λ m. length m.pairs) h.2, length-append old.pairs ((key, fresh) ∷ []))

-- ---- the same of a map that is seen by its parts, as the calls leave it
module _ {K V : Type 0} (old : MarkedPairs K V) (place marked : ℕ) (before after : List (K × V)) where
  -- after is before, with a pair moved
  pub KeepsOthers-mark : record { pairs = before; marked = marked } ≡ old → place < length old.pairs → marked ≤ place → after ≡ swap before place marked
      → KeepsOthers old place (record { pairs = after; marked = marked + 1 })
  KeepsOthers-mark seen within unmarked moved =
      let parts : MarkedPairs K V = record { pairs = before; marked = marked } in
      let inside : place < length before = omega (arith, within, ap (λ m. length m.pairs) seen) in
      let whole : KeepsOthers parts place (record { pairs = after; marked = marked + 1 }) = rw moved (KeepsOthers-with_mark parts place inside unmarked) in
      subst (λ m. KeepsOthers m place (record { pairs = after; marked = marked + 1 })) seen whole

  pub KeepsOthers-unmark : record { pairs = before; marked = marked } ≡ old → place < marked → marked ≤ length before → after ≡ swap before place (marked - 1)
      → KeepsOthers old place (record { pairs = after; marked = marked - 1 })
  KeepsOthers-unmark seen low fits moved =
      let parts : MarkedPairs K V = record { pairs = before; marked = marked } in
      let whole : KeepsOthers parts place (record { pairs = after; marked = marked - 1 }) = rw moved (KeepsOthers-without_mark parts place (omega arith) low fits) in
      subst (λ m. KeepsOthers m place (record { pairs = after; marked = marked - 1 })) seen whole

  pub KeepsOthers-remove : (taken : K × V) → record { pairs = before; marked = marked } ≡ old → place < length old.pairs → marked ≤ place → after ≡ swap_remove before place taken
      → KeepsOthers old place (record { pairs = after; marked = marked })
  KeepsOthers-remove taken seen within unmarked moved =
      let parts : MarkedPairs K V = record { pairs = before; marked = marked } in
      let inside : place < length before = omega (arith, within, ap (λ m. length m.pairs) seen) in
      let whole : KeepsOthers parts place (record { pairs = after; marked = marked }) = rw moved (KeepsOthers-without_pair parts place inside taken unmarked) in
      subst (λ m. KeepsOthers m place (record { pairs = after; marked = marked })) seen whole

-- ---- the same of a key that was entered
module _ {K V E : Type 0} (same : K → K → Bool) (old : MarkedPairs K V) (key : K) (fresh : V) (marked : ℕ) (before after : List (K × V))
    (seen : record { pairs = before; marked = marked } ≡ old) where
  pub Enters-answer : (answer : Result ℕ E) → IfOk answer (λ place. place ≡ position_or_len (same key) (keys_of before))
      → OnOk answer (IsSome (lookup (same key) before) → after ≡ before) → OnOk answer (lookup (same key) before ≡ None → after ≡ before ++ (key, fresh) ∷ [])
      → IfOk answer (λ place. Enters same old key fresh place (record { pairs = after; marked = marked }))
  Enters-answer (Err e) first found pushed = tt
  Enters-answer (Ok place) first found pushed =
      let parts : MarkedPairs K V = record { pairs = before; marked = marked } in
      subst (λ m. Enters same m key fresh place (record { pairs = after; marked = marked })) seen (Enters-place same parts key fresh place after first found pushed)

  pub IsAbsent-answer : (answer : Result ℕ E) → OnErr answer (lookup (same key) before ≡ None) → OnErr answer (IsAbsent same old key)
  IsAbsent-answer (Ok place) none = tt
  IsAbsent-answer (Err e) none = subst (λ m. IsAbsent same m key) seen (lookup-NonePasses (same key) before none)

  pub within-answer : (answer : Result ℕ E) → IfOk answer (λ place. Enters same old key fresh place (record { pairs = after; marked = marked })) → IfOk answer (λ place. place < length after)
  within-answer (Err e) entered = tt
  within-answer (Ok place) entered = Enters-within same old (record { pairs = after; marked = marked }) key fresh place entered
