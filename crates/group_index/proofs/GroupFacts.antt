-- The entries of the groups, place by place, and what a change of one group makes of them.
use Rattle.std.proofs.Common.{◌≡◌, ◌≢◌, ℕ, zero, suc, ◌<◌, ◌⊎◌, Bool, true, false, not, ◌&&◌, ◌||◌, List, [], ◌∷◌, ◌++◌, map, length, slice_get, Option, Some, None, refl, sym, ap, ◌∙◌, subst, inl, inr, arith}
use Rattle.std.specs.Prelude.{◌==◌, nat_eq, IsSomeAnd}
use Rattle.std.specs.List.{list_any}
use Rattle.std.specs.Map.{keys_of, values_of}
use Rattle.std.specs.Str.{bytes_eq}
use Rattle.std.proofs.lemmas.Bool.{cases_eq}
use Rattle.std.proofs.lemmas.Bool.Decides.{nat_tests}
use Rattle.std.proofs.lemmas.List.Folds.{list_any-append}
use Rattle.std.proofs.lemmas.Option.{none-some, same_Some}
use Rattle.std.proofs.lemmas.Slice.Eq.{bytes_eq-Decides}
use Rattle.smallvec.specs.SmallVec.{SmallVec}
use Rattle.marked_map.specs.Lending.{with_value}
use Rattle.marked_map.specs.MarkedMap.{HasKey, HaveDistinctKeys, Enters}
use Rattle.cfd_semantics.specs.Violation.{Entry}
use Rattle.group_index.specs.declared.group.Group.{Group}
use Rattle.group_index.specs.declared.group.Group.TheVariants.{One}
use Rattle.group_index.specs.GroupSet.{is_entry}
use Rattle.group_index.specs.Pairs.{Pair, pairs_of, is_pair, has_pair, IsPut, IsTaken, HaveTheSame}
use Rattle.group_index.specs.Groups.{KeyedGroup, KeyedGroups, entries_at, entries_in, is_in, HasKeyAt}

-- the keys' own `==`
abbrev pub same_key : SmallVec ℕ → SmallVec ℕ → Bool
same_key x y = bytes_eq x.items y.items

pub equal_ids : (xs ys : List ℕ) → bytes_eq xs ys ≡ true → xs ≡ ys
equal_ids xs ys e = (bytes_eq-Decides xs ys).0 e

pub same_ids : (xs ys : List ℕ) → xs ≡ ys → bytes_eq xs ys ≡ true
same_ids xs ys e = (bytes_eq-Decides xs ys).1 e

-- ---- tests

pub same_test : (a b : Bool) → (a ≡ true → b ≡ true) → (b ≡ true → a ≡ true) → a ≡ b
same_test true true to from = refl
same_test true false to from = sym (to refl)
same_test false true to from = from refl
same_test false false to from = refl

pub both_true : (a b : Bool) → (a && b) ≡ true → (a ≡ true) × (b ≡ true)
both_true true true h = (refl, refl)
both_true true false h = absurd (cc)
both_true false b h = absurd (cc)

pub both_so : (a b : Bool) → a ≡ true → b ≡ true → (a && b) ≡ true
both_so a b one other = rw (one, other) refl

pub one_true : (a b : Bool) → (a || b) ≡ true → (a ≡ true) ⊎ (b ≡ true)
one_true true b h = inl refl
one_true false b h = inr h

pub left_so : (a b : Bool) → a ≡ true → (a || b) ≡ true
left_so a b is = ap (λ c. c || b) is

pub right_so : (a b : Bool) → b ≡ true → (a || b) ≡ true
right_so true b is = refl
right_so false b is = is

pub clash : (b : Bool) → b ≡ true → b ≡ false → ⊥
clash b one other = cc

pub isnt : (b : Bool) → (b ≡ true → ⊥) → b ≡ false
isnt true never = absurd (never refl)
isnt false never = refl

pub not_true : (b : Bool) → not b ≡ true → b ≡ false
not_true true h = absurd (cc)
not_true false h = refl

-- ---- the entries of one group

-- whether the group has the entry, by its key and its pairs
abbrev pub holds_at : KeyedGroup → Entry ℕ → Bool
holds_at at e = bytes_eq at.0.items e.x && has_pair (pairs_of at.1) (e.a, e.row)

in_pairs : (key : List ℕ) (pairs : List Pair) (e : Entry ℕ) → list_any (λ own. is_entry own e) (map (λ pair. record { x = key; a = pair.0; row = pair.1 }) pairs) ≡ (bytes_eq key e.x && has_pair pairs (e.a, e.row))
in_pairs key [] e = sym (nothing (bytes_eq key e.x))
  where
    nothing : (b : Bool) → (b && false) ≡ false
    nothing true = refl
    nothing false = refl
in_pairs key (p ∷ ps) e =
    ap (λ b. (bytes_eq key e.x && nat_eq p.0 e.a && (p.1 == e.row)) || b) (in_pairs key ps e)
    ∙ parts (bytes_eq key e.x) (nat_eq p.0 e.a) (p.1 == e.row) (e.a == p.0) (e.row == p.1) (has_pair ps (e.a, e.row)) (grind (arith, nat_tests)) (grind (arith, nat_tests))
  where
    parts : (s a r b q h : Bool) → a ≡ b → r ≡ q → ((s && a && r) || (s && h)) ≡ (s && ((b && q) || h))
    parts true a r b q h one other = rw (one, other) refl
    parts false a r b q h one other = refl

in_group : (at : KeyedGroup) (e : Entry ℕ) → list_any (λ own. is_entry own e) (entries_at at) ≡ holds_at at e
in_group at e = in_pairs at.0.items (pairs_of at.1) e

-- ---- the entries of all groups, by their places

pub record StandsIn (groups : List KeyedGroup) (e : Entry ℕ) : Type 0 where
  pub place : ℕ
  pub group : KeyedGroup
  pub at : slice_get groups place ≡ Some group
  pub holds : holds_at group e ≡ true

pub found_in : (groups : List KeyedGroup) (e : Entry ℕ) → is_in groups e ≡ true → StandsIn groups e
found_in [] e is = absurd (cc)
found_in (g ∷ gs) e is = elim (one_true (list_any (λ own. is_entry own e) (entries_at g)) (is_in gs e) (sym (list_any-append (λ own. is_entry own e) (entries_at g) (entries_in gs)) ∙ is)) [
  | inl here ↦ record { place = 0; group = g; at = refl; holds = sym (in_group g e) ∙ here }
  | inr later ↦ let rest = found_in gs e later in record { place = suc rest.place; group = rest.group; at = rest.at; holds = rest.holds }
]

pub is_in_from : (groups : List KeyedGroup) (e : Entry ℕ) (place : ℕ) (group : KeyedGroup) → slice_get groups place ≡ Some group → holds_at group e ≡ true → is_in groups e ≡ true
is_in_from [] e place group at holds = absurd (none-some group at)
is_in_from (g ∷ gs) e zero group at holds =
    list_any-append (λ own. is_entry own e) (entries_at g) (entries_in gs) ∙ left_so (list_any (λ own. is_entry own e) (entries_at g)) (is_in gs e) (in_group g e ∙ ap (λ h. holds_at h e) (same_Some g group at) ∙ holds)
is_in_from (g ∷ gs) e (suc place) group at holds =
    list_any-append (λ own. is_entry own e) (entries_at g) (entries_in gs) ∙ right_so (list_any (λ own. is_entry own e) (entries_at g)) (is_in gs e) (is_in_from gs e place group at holds)

-- ---- one group with another value

-- the pairs with another value at a place, as the map has them
abbrev pub set_value_at : {K V : Type 0} → List (K × V) → ℕ → V → List (K × V)
set_value_at ps i w = (with_value (record { pairs = ps; marked = 0 }) i w).pairs

-- at each place something stands
pub stands_at : {X : Type 0} (xs : List X) (i : ℕ) → i < length xs → (x : X) × (slice_get xs i ≡ Some x)
stands_at [] i within = absurd (omega arith)
stands_at (x ∷ xs) zero within = (x, refl)
stands_at (x ∷ xs) (suc i) within = stands_at xs i (omega arith)

module _ {K V : Type 0} where
  pub pair_at : (ps : List (K × V)) (i : ℕ) (k : K) (v : V) → slice_get (keys_of ps) i ≡ Some k → slice_get (values_of ps) i ≡ Some v → slice_get ps i ≡ Some (k, v)
  pair_at [] i k v key value = absurd (none-some k key)
  pair_at (p ∷ ps) zero k v key value = let one = same_Some p.0 k key in let other = same_Some p.1 v value in λ j. Some (one j, other j)
  pair_at (p ∷ ps) (suc i) k v key value = pair_at ps i k v key value

  -- a value that stands at a place has a key
  pub value_stands : (ps : List (K × V)) (i : ℕ) (v : V) → slice_get (values_of ps) i ≡ Some v → (k : K) × (slice_get ps i ≡ Some (k, v))
  value_stands [] i v value = absurd (none-some v value)
  value_stands (p ∷ ps) zero v value = let own = same_Some p.1 v value in (p.0, λ j. Some (p.0, own j))
  value_stands (p ∷ ps) (suc i) v value = value_stands ps i v value

  pub no_key : (ps : List (K × V)) (i : ℕ) (k : K) → slice_get ps i ≡ None → slice_get (keys_of ps) i ≡ Some k → ⊥
  no_key [] i k none key = none-some k key
  no_key (p ∷ ps) zero k none key = none-some p (sym none)
  no_key (p ∷ ps) (suc i) k none key = no_key ps i k none key

  pub key_at : (ps : List (K × V)) (i : ℕ) (p : K × V) → slice_get ps i ≡ Some p → slice_get (keys_of ps) i ≡ Some p.0
  key_at [] i p at = absurd (none-some p at)
  key_at (q ∷ qs) zero p at = ap (λ (r : K × V). Some r.0) (same_Some q p at)
  key_at (q ∷ qs) (suc i) p at = key_at qs i p at

  pub value_at : (ps : List (K × V)) (i : ℕ) (p : K × V) → slice_get ps i ≡ Some p → slice_get (values_of ps) i ≡ Some p.1
  value_at [] i p at = absurd (none-some p at)
  value_at (q ∷ qs) zero p at = ap (λ (r : K × V). Some r.1) (same_Some q p at)
  value_at (q ∷ qs) (suc i) p at = value_at qs i p at

  pub set_here : (ps : List (K × V)) (i : ℕ) (k : K) (v w : V) → slice_get ps i ≡ Some (k, v) → slice_get (set_value_at ps i w) i ≡ Some (k, w)
  set_here [] i k v w at = absurd (none-some (k, v) at)
  set_here (p ∷ ps) zero k v w at = ap (λ (r : K × V). Some (r.0, w)) (same_Some p (k, v) at)
  set_here (p ∷ ps) (suc i) k v w at = set_here ps i k v w at

  pub set_elsewhere : (ps : List (K × V)) (i j : ℕ) (w : V) → j ≢ i → slice_get (set_value_at ps i w) j ≡ slice_get ps j
  set_elsewhere [] i j w apart = refl
  set_elsewhere (p ∷ ps) zero zero w apart = absurd (apart refl)
  set_elsewhere (p ∷ ps) zero (suc j) w apart = refl
  set_elsewhere (p ∷ ps) (suc i) zero w apart = refl
  set_elsewhere (p ∷ ps) (suc i) (suc j) w apart = set_elsewhere ps i j w (λ same. apart (ap suc same))

  pub set_as_long : (ps : List (K × V)) (i : ℕ) (w : V) → length (set_value_at ps i w) ≡ length ps
  set_as_long [] i w = refl
  set_as_long (p ∷ ps) zero w = refl
  set_as_long (p ∷ ps) (suc i) w = ap suc (set_as_long ps i w)

  pub pushed_last : (ps : List (K × V)) (p : K × V) → slice_get (ps ++ p ∷ []) (length ps) ≡ Some p
  pushed_last [] p = refl
  pushed_last (q ∷ qs) p = pushed_last qs p

  pub pushed_before : (ps : List (K × V)) (p : K × V) (i : ℕ) → i < length ps → slice_get (ps ++ p ∷ []) i ≡ slice_get ps i
  pushed_before [] p i within = absurd (omega arith)
  pushed_before (q ∷ qs) p zero within = refl
  pushed_before (q ∷ qs) p (suc i) within = pushed_before qs p i (omega arith)

-- the key at a place is the one that stands there
pub key_from : (groups : KeyedGroups) (place : ℕ) (x : List ℕ) (at : KeyedGroup) → HasKeyAt groups place x → slice_get groups.pairs place ≡ Some at → at.0.items ≡ x
key_from groups place x at has there = subst (λ o. IsSomeAnd o (λ (g : KeyedGroup). g.0.items ≡ x)) there has

-- ---- an entry and a pair

pair_of : Entry ℕ → Pair
pair_of e = (e.a, e.row)

-- an entry of the key with the pair is the entry
pub is_entry_from : (entry e : Entry ℕ) (key : List ℕ) → key ≡ entry.x → bytes_eq key e.x ≡ true → is_pair (e.a, e.row) (entry.a, entry.row) ≡ true → is_entry entry e ≡ true
is_entry_from entry e key is same pair =
    let both = both_true (e.a == entry.a) (e.row == entry.row) pair in
    let a : nat_eq entry.a e.a ≡ true = grind (arith, nat_tests, both.0) in
    let row : (entry.row == e.row) ≡ true = grind (arith, nat_tests, both.1) in
    rw (sym (ap (λ k. bytes_eq k e.x) is) ∙ same, a, row) refl

pub record IsEntryBy (entry e : Entry ℕ) : Type 0 where
  pub x : entry.x ≡ e.x
  pub pair : is_pair (e.a, e.row) (entry.a, entry.row) ≡ true

pub is_entry_parts : (entry e : Entry ℕ) → is_entry entry e ≡ true → IsEntryBy entry e
is_entry_parts entry e is =
    let first = both_true (bytes_eq entry.x e.x && nat_eq entry.a e.a) (entry.row == e.row) is in
    let second = both_true (bytes_eq entry.x e.x) (nat_eq entry.a e.a) first.0 in
    let a : (e.a == entry.a) ≡ true = grind (arith, nat_tests, second.1) in
    let row : (e.row == entry.row) ≡ true = grind (arith, nat_tests, first.1) in
    record { x = equal_ids entry.x e.x second.0; pair = both_so (e.a == entry.a) (e.row == entry.row) a row }

-- ---- a pair is put into the group at a place

module _ (pairs : List KeyedGroup) (place : ℕ) (key : SmallVec ℕ) (v w : Group) (entry : Entry ℕ) (at : slice_get pairs place ≡ Some (key, v)) (is : key.items ≡ entry.x) where
  pub content_put : IsPut (pairs_of v) (pairs_of w) (entry.a, entry.row) → (e : Entry ℕ) → is_in (set_value_at pairs place w) e ≡ (is_in pairs e || is_entry entry e)
  content_put put e = same_test (is_in (set_value_at pairs place w) e) (is_in pairs e || is_entry entry e) to from
    where
      to : is_in (set_value_at pairs place w) e ≡ true → (is_in pairs e || is_entry entry e) ≡ true
      to inside =
          let it = found_in (set_value_at pairs place w) e inside in
          elim (cases_eq it.place place) [
            | inr apart ↦ left_so (is_in pairs e) (is_entry entry e) (is_in_from pairs e it.place it.group (sym (set_elsewhere pairs place it.place w apart) ∙ it.at) it.holds)
            | inl same ↦
                let group : (key, w) ≡ it.group = same_Some (key, w) it.group (sym (set_here pairs place key v w at) ∙ ap (slice_get (set_value_at pairs place w)) (sym same) ∙ it.at) in
                let both = both_true (bytes_eq key.items e.x) (has_pair (pairs_of w) (e.a, e.row)) (ap (λ g. holds_at g e) group ∙ it.holds) in
                elim (one_true (is_pair (e.a, e.row) (entry.a, entry.row)) (has_pair (pairs_of v) (e.a, e.row)) (sym (put (e.a, e.row)) ∙ both.1)) [
                  | inl new ↦ right_so (is_in pairs e) (is_entry entry e) (is_entry_from entry e key.items is both.0 new)
                  | inr old ↦ left_so (is_in pairs e) (is_entry entry e) (is_in_from pairs e place (key, v) at (both_so (bytes_eq key.items e.x) (has_pair (pairs_of v) (e.a, e.row)) both.0 old))
                ]
          ]

      here : bytes_eq key.items e.x ≡ true → (is_pair (e.a, e.row) (entry.a, entry.row) || has_pair (pairs_of v) (e.a, e.row)) ≡ true → is_in (set_value_at pairs place w) e ≡ true
      here same has = is_in_from (set_value_at pairs place w) e place (key, w) (set_here pairs place key v w at) (both_so (bytes_eq key.items e.x) (has_pair (pairs_of w) (e.a, e.row)) same (put (e.a, e.row) ∙ has))

      from : (is_in pairs e || is_entry entry e) ≡ true → is_in (set_value_at pairs place w) e ≡ true
      from either = elim (one_true (is_in pairs e) (is_entry entry e) either) [
        | inr new ↦
            let parts = is_entry_parts entry e new in
            here (same_ids key.items e.x (is ∙ parts.x)) (left_so (is_pair (e.a, e.row) (entry.a, entry.row)) (has_pair (pairs_of v) (e.a, e.row)) parts.pair)
        | inl old ↦
            let it = found_in pairs e old in
            elim (cases_eq it.place place) [
              | inr apart ↦ is_in_from (set_value_at pairs place w) e it.place it.group (set_elsewhere pairs place it.place w apart ∙ it.at) it.holds
              | inl same ↦
                  let group : (key, v) ≡ it.group = same_Some (key, v) it.group (sym at ∙ ap (slice_get pairs) (sym same) ∙ it.at) in
                  let both = both_true (bytes_eq key.items e.x) (has_pair (pairs_of v) (e.a, e.row)) (ap (λ g. holds_at g e) group ∙ it.holds) in
                  here both.0 (right_so (is_pair (e.a, e.row) (entry.a, entry.row)) (has_pair (pairs_of v) (e.a, e.row)) both.1)
            ]
      ]

  -- the group at the place has what it had
  pub content_same : HaveTheSame (pairs_of v) (pairs_of w) → (e : Entry ℕ) → is_in (set_value_at pairs place w) e ≡ is_in pairs e
  content_same have e = same_test (is_in (set_value_at pairs place w) e) (is_in pairs e) to from
    where
      to : is_in (set_value_at pairs place w) e ≡ true → is_in pairs e ≡ true
      to inside =
          let it = found_in (set_value_at pairs place w) e inside in
          elim (cases_eq it.place place) [
            | inr apart ↦ is_in_from pairs e it.place it.group (sym (set_elsewhere pairs place it.place w apart) ∙ it.at) it.holds
            | inl same ↦
                let group : (key, w) ≡ it.group = same_Some (key, w) it.group (sym (set_here pairs place key v w at) ∙ ap (slice_get (set_value_at pairs place w)) (sym same) ∙ it.at) in
                is_in_from pairs e place (key, v) at (ap (λ b. bytes_eq key.items e.x && b) (sym (have (e.a, e.row))) ∙ ap (λ g. holds_at g e) group ∙ it.holds)
          ]

      from : is_in pairs e ≡ true → is_in (set_value_at pairs place w) e ≡ true
      from old =
          let it = found_in pairs e old in
          elim (cases_eq it.place place) [
            | inr apart ↦ is_in_from (set_value_at pairs place w) e it.place it.group (set_elsewhere pairs place it.place w apart ∙ it.at) it.holds
            | inl same ↦
                let group : (key, v) ≡ it.group = same_Some (key, v) it.group (sym at ∙ ap (slice_get pairs) (sym same) ∙ it.at) in
                is_in_from (set_value_at pairs place w) e place (key, w) (set_here pairs place key v w at) (ap (λ b. bytes_eq key.items e.x && b) (have (e.a, e.row)) ∙ ap (λ g. holds_at g e) group ∙ it.holds)
          ]

-- ---- a key is entered

module _ (old : KeyedGroups) (key : SmallVec ℕ) (a row : ℕ) where
  -- the key was there, where its place isn't behind all
  pub key_entered : (mid : KeyedGroups) (place : ℕ) → Enters same_key old key (One a row) place mid → place ≢ length old.pairs → HasKeyAt mid place key.items × (mid ≡ old)
  key_entered mid place enters apart = elim enters [
    | inl found ↦ (subst (λ m. HasKeyAt m place key.items) (sym found.1) (stands place found.0), found.1)
    | inr new ↦ absurd (apart new.1)
  ]
    where
      stands : (place : ℕ) → HasKey same_key old key place → HasKeyAt old place key.items
      stands place (stored, at, same) = of (slice_get old.pairs place) refl
        where
          of : (o : Option KeyedGroup) → slice_get old.pairs place ≡ o → IsSomeAnd o (λ (g : KeyedGroup). g.0.items ≡ key.items)
          of None is = absurd (no_key old.pairs place stored is at)
          of (Some g) is = ap (λ (k : SmallVec ℕ). k.items) (same_Some g.0 stored (sym (key_at old.pairs place g is) ∙ at)) ∙ sym (equal_ids key.items stored.items same)

-- ---- a pair is taken from the group at a place

module _ (old : KeyedGroups) (place : ℕ) (key : SmallVec ℕ) (v w : Group) (entry : Entry ℕ) (at : slice_get old.pairs place ≡ Some (key, v)) (is : key.items ≡ entry.x) (distinct : HaveDistinctKeys same_key old) where
  -- no other group has the entry's key
  other_key : (j : ℕ) (group : KeyedGroup) → slice_get old.pairs j ≡ Some group → group.0.items ≡ entry.x → j ≡ place
  other_key j group stands same =
      distinct j place group.0 key (key_at old.pairs j group stands) (key_at old.pairs place (key, v) at) (same_ids group.0.items key.items (same ∙ sym is))

  not_elsewhere : (e : Entry ℕ) (j : ℕ) (group : KeyedGroup) → slice_get old.pairs j ≡ Some group → holds_at group e ≡ true → j ≢ place → is_entry entry e ≡ false
  not_elsewhere e j group stands holds apart =
      isnt (is_entry entry e) (λ same. apart (other_key j group stands (equal_ids group.0.items e.x (both_true (bytes_eq group.0.items e.x) (has_pair (pairs_of group.1) (e.a, e.row)) holds).0 ∙ sym (is_entry_parts entry e same).x)))

  stays : (e : Entry ℕ) → is_entry entry e ≡ false → is_in old.pairs e ≡ true → (not (is_entry entry e) && is_in old.pairs e) ≡ true
  stays e isnt inside = rw (isnt, inside) refl

  pub content_taken : IsTaken (pairs_of v) (pairs_of w) (entry.a, entry.row) → (e : Entry ℕ) → is_in (set_value_at old.pairs place w) e ≡ (not (is_entry entry e) && is_in old.pairs e)
  content_taken taken e = same_test (is_in (set_value_at old.pairs place w) e) (not (is_entry entry e) && is_in old.pairs e) to from
    where
      to : is_in (set_value_at old.pairs place w) e ≡ true → (not (is_entry entry e) && is_in old.pairs e) ≡ true
      to inside =
          let it = found_in (set_value_at old.pairs place w) e inside in
          elim (cases_eq it.place place) [
            | inr apart ↦
                let stands = sym (set_elsewhere old.pairs place it.place w apart) ∙ it.at in
                stays e (not_elsewhere e it.place it.group stands it.holds apart) (is_in_from old.pairs e it.place it.group stands it.holds)
            | inl same ↦
                let group : (key, w) ≡ it.group = same_Some (key, w) it.group (sym (set_here old.pairs place key v w at) ∙ ap (slice_get (set_value_at old.pairs place w)) (sym same) ∙ it.at) in
                let both = both_true (bytes_eq key.items e.x) (has_pair (pairs_of w) (e.a, e.row)) (ap (λ g. holds_at g e) group ∙ it.holds) in
                let left = both_true (not (is_pair (e.a, e.row) (entry.a, entry.row))) (has_pair (pairs_of v) (e.a, e.row)) (sym (taken (e.a, e.row)) ∙ both.1) in
                stays e (isnt (is_entry entry e) (λ one. clash (is_pair (e.a, e.row) (entry.a, entry.row)) (is_entry_parts entry e one).pair (not_true (is_pair (e.a, e.row) (entry.a, entry.row)) left.0)))
                (is_in_from old.pairs e place (key, v) at (both_so (bytes_eq key.items e.x) (has_pair (pairs_of v) (e.a, e.row)) both.0 left.1))
          ]

      from : (not (is_entry entry e) && is_in old.pairs e) ≡ true → is_in (set_value_at old.pairs place w) e ≡ true
      from inside =
          let parts = both_true (not (is_entry entry e)) (is_in old.pairs e) inside in
          let it = found_in old.pairs e parts.1 in
          elim (cases_eq it.place place) [
            | inr apart ↦ is_in_from (set_value_at old.pairs place w) e it.place it.group (set_elsewhere old.pairs place it.place w apart ∙ it.at) it.holds
            | inl same ↦
                let group : (key, v) ≡ it.group = same_Some (key, v) it.group (sym at ∙ ap (slice_get old.pairs) (sym same) ∙ it.at) in
                let both = both_true (bytes_eq key.items e.x) (has_pair (pairs_of v) (e.a, e.row)) (ap (λ g. holds_at g e) group ∙ it.holds) in
                let other = isnt (is_pair (e.a, e.row) (entry.a, entry.row)) (λ pair. clash (is_entry entry e) (is_entry_from entry e key.items is both.0 pair) (not_true (is_entry entry e) parts.0)) in
                is_in_from (set_value_at old.pairs place w) e place (key, w) (set_here old.pairs place key v w at)
                (both_so (bytes_eq key.items e.x) (has_pair (pairs_of w) (e.a, e.row)) both.0 (taken (e.a, e.row) ∙ rw (other, both.1) refl))
          ]
