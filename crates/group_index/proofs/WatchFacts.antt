-- What the entries of a row make of a change of the groups.
use Rattle.std.proofs.Common.{◌≡◌, ℕ, ◌<◌, Bool, true, false, cond, not, ◌&&◌, ◌||◌, List, [], ◌∷◌, length, Option, Some, None, refl, sym, ap, ◌∙◌, subst, arith}
use Rattle.std.specs.Prelude.{◌==◌, slice_index}
use Rattle.std.specs.Option.{option_map_or, ForSome}
use Rattle.std.specs.Str.{bytes_eq}
use Rattle.std.proofs.lemmas.Bool.Decides.{nat_tests}
use Rattle.std.proofs.lemmas.Option.{slice_get_within}
use Rattle.cfd_semantics.specs.Violation.{Entry}
use Rattle.row_store.specs.Watch.{entries_of, AddsEntries, RemovesEntries, IsWide}
use Rattle.row_store.specs.Tuple.{ids_at}
use Rattle.group_index.specs.GroupSet.{GroupsMade, GroupSet, is_entry, holds_entry, gives_entry, attributes_of}
use Rattle.group_index.specs.Keys.{gives_alike}
use Rattle.group_index.specs.Groups.{KeyedGroups, set_of, is_in, IsEntered, IsLeft}
use Rattle.group_index.proofs.OwnEntries.{HasAll, entry_at, given, own_entry}
use Rattle.group_index.proofs.GroupFacts.{equal_ids, same_ids, both_true, both_so, clash, isnt, found_in, is_entry_parts}

pub wide_from : (made : GroupsMade) (groups : KeyedGroups) (s : GroupSet) (table : ℕ) (ids : List ℕ) → set_of made groups ≡ s → table ≡ made.table → IsWide (attributes_of s.made table) ids → HasAll made ids
wide_from made groups s table ids view is wide = of (table == made.table) (grind (arith, nat_tests)) (subst (λ (r : GroupSet). IsWide (attributes_of r.made table) ids) (sym view) wide)
  where
    of : (b : Bool) → b ≡ true → IsWide (cond b (made.dependency.a ∷ made.dependency.x) []) ids → HasAll made ids
    of true at all = all
    of false at all = absurd (cc)

-- ---- the entry of a row

-- tuples that agree give one entry
same_entries : (made : GroupsMade) (row : ℕ) (one other : List ℕ) → gives_alike one other made.dependency.x made.dependency.a ≡ true → entry_at made row one ≡ entry_at made row other
same_entries made row one other alike =
    let both = both_true (slice_index one made.dependency.a == slice_index other made.dependency.a) (bytes_eq (ids_at one made.dependency.x) (ids_at other made.dependency.x)) alike in
    let x = equal_ids (ids_at one made.dependency.x) (ids_at other made.dependency.x) both.1 in
    let a : slice_index one made.dependency.a ≡ slice_index other made.dependency.a = grind (arith, nat_tests, both.0) in
    λ i. record { x = x i; a = a i; row = row }

-- and tuples that give one entry agree
alike_from : (made : GroupsMade) (row : ℕ) (one other : List ℕ) (e : Entry ℕ) → is_entry (entry_at made row one) e ≡ true → is_entry (entry_at made row other) e ≡ true → gives_alike one other made.dependency.x made.dependency.a ≡ true
alike_from made row one other e first second =
    let p = is_entry_parts (entry_at made row one) e first in
    let q = is_entry_parts (entry_at made row other) e second in
    let a : (e.a == slice_index one made.dependency.a) ≡ true = (both_true (e.a == slice_index one made.dependency.a) (e.row == row) p.pair).0 in
    let b : (e.a == slice_index other made.dependency.a) ≡ true = (both_true (e.a == slice_index other made.dependency.a) (e.row == row) q.pair).0 in
    both_so (slice_index one made.dependency.a == slice_index other made.dependency.a) (bytes_eq (ids_at one made.dependency.x) (ids_at other made.dependency.x)) (grind (arith, nat_tests, a, b))
    (same_ids (ids_at one made.dependency.x) (ids_at other made.dependency.x) (p.x ∙ sym q.x))

row_of_entry : (made : GroupsMade) (row : ℕ) (ids : List ℕ) (e : Entry ℕ) → is_entry (entry_at made row ids) e ≡ true → e.row ≡ row
row_of_entry made row ids e is = let pair = (both_true (e.a == slice_index ids made.dependency.a) (e.row == row) (is_entry_parts (entry_at made row ids) e is).pair).1 in grind (arith, nat_tests, pair)

module _ (made : GroupsMade) (old : KeyedGroups) (s : GroupSet) (table row : ℕ) (view : set_of made old ≡ s) (is : table ≡ made.table) where
  -- what is said of the groups is said of the set
  of_set : (P : GroupSet → Type 0) → P (set_of made old) → P s
  of_set P holds = subst P view holds

  to_set : (P : GroupSet → Type 0) → P s → P (set_of made old)
  to_set P holds = subst P (sym view) holds

  -- ---- adding

  pub added : (new : KeyedGroups) (ids : List ℕ) (entry : Entry ℕ) → HasAll made ids → entry ≡ entry_at made row ids → IsEntered old new entry → AddsEntries (holds_entry s) (holds_entry (set_of made new)) (gives_entry s.made table row ids)
  added new ids entry wide same entered = of_set (λ (r : GroupSet). AddsEntries (holds_entry r) (holds_entry (set_of made new)) (gives_entry r.made table row ids))
      (λ e. entered e ∙ ap (λ b. is_in old.pairs e || b) (ap (λ f. is_entry f e) same ∙ sym (given made table row ids is wide e)))

  -- the row has what it would get
  pub added_already : (before : Option (List ℕ)) (ids : List ℕ) → ForSome before (HasAll made) → HasAll made ids → option_map_or (λ own. gives_alike own ids made.dependency.x made.dependency.a) before false ≡ true
      → ((entry : Entry ℕ) → s.made.table ≡ table → entry.row ≡ row → holds_entry s entry ≡ entries_of (gives_entry s.made table row) before entry) → AddsEntries (holds_entry s) (holds_entry s) (gives_entry s.made table row ids)
  added_already None ids wide_before wide alike present = absurd (cc)
  added_already (Some own) ids wide_before wide alike present =
      of_set (λ (r : GroupSet). AddsEntries (holds_entry r) (holds_entry r) (gives_entry r.made table row ids)) (λ e. by e (is_entry (entry_at made row ids) e) refl)
    where
      by : (e : Entry ℕ) (b : Bool) → is_entry (entry_at made row ids) e ≡ b → is_in old.pairs e ≡ (is_in old.pairs e || gives_entry made table row ids e)
      by e false isnt = or_false (is_in old.pairs e) (gives_entry made table row ids e) (given made table row ids is wide e ∙ isnt)
        where
          or_false : (b c : Bool) → c ≡ false → b ≡ (b || c)
          or_false true c h = refl
          or_false false c h = sym h
      by e true gets =
          let here = to_set (λ (r : GroupSet). (entry : Entry ℕ) → r.made.table ≡ table → entry.row ≡ row → holds_entry r entry ≡ entries_of (gives_entry r.made table row) (Some own) entry) present e (sym is) (row_of_entry made row ids e gets) in
          let has : is_in old.pairs e ≡ true = here ∙ given made table row own is (wide_before own refl) e ∙ ap (λ f. is_entry f e) (same_entries made row own ids alike) ∙ gets in
          rw has refl

  -- ---- removing

  -- the row's entry is held, so there is a group
  pub some_group : (ids : List ℕ) (after : Option (List ℕ)) → HasAll made ids
      → ((entry : Entry ℕ) → s.made.table ≡ table → entry.row ≡ row → holds_entry s entry ≡ (gives_entry s.made table row ids entry || entries_of (gives_entry s.made table row) after entry)) → 0 < length old.pairs
  some_group ids after wide present =
      let own = entry_at made row ids in
      let here = to_set (λ (r : GroupSet). (entry : Entry ℕ) → r.made.table ≡ table → entry.row ≡ row → holds_entry r entry ≡ (gives_entry r.made table row ids entry || entries_of (gives_entry r.made table row) after entry)) present own (sym is) refl in
      let gets : gives_entry made table row ids own ≡ true = given made table row ids is wide own ∙ own_entry own in
      let held : is_in old.pairs own ≡ true = here ∙ ap (λ b. b || entries_of (gives_entry made table row) after own) gets in
      let it = found_in old.pairs own held in
      let within = slice_get_within old.pairs it.place it.group it.at in
      omega (arith, within)

  pub removed : (new : KeyedGroups) (ids : List ℕ) (after : Option (List ℕ)) (entry : Entry ℕ) → HasAll made ids → ForSome after (HasAll made) → entry ≡ entry_at made row ids
      → option_map_or (λ own. gives_alike own ids made.dependency.x made.dependency.a) after false ≡ false → IsLeft old new entry
      → RemovesEntries (holds_entry s) (holds_entry (set_of made new)) (gives_entry s.made table row ids) (entries_of (gives_entry s.made table row) after)
  removed new ids after entry wide wide_after same other left =
      of_set (λ (r : GroupSet). RemovesEntries (holds_entry r) (holds_entry (set_of made new)) (gives_entry r.made table row ids) (entries_of (gives_entry r.made table row) after))
      (λ e. left e ∙ ap (λ b. not b && is_in old.pairs e) (ap (λ f. is_entry f e) same) ∙ by e (is_entry (entry_at made row ids) e) refl after wide_after other)
    where
      by : (e : Entry ℕ) (b : Bool) → is_entry (entry_at made row ids) e ≡ b → (o : Option (List ℕ)) → ForSome o (HasAll made) → option_map_or (λ own. gives_alike own ids made.dependency.x made.dependency.a) o false ≡ false
          → (not (is_entry (entry_at made row ids) e) && is_in old.pairs e) ≡ cond (gives_entry made table row ids e) (entries_of (gives_entry made table row) o e) (is_in old.pairs e)
      by e false isnt o wide_o apart = rw (given made table row ids is wide e, isnt) refl
      by e true gets None wide_o apart = rw (given made table row ids is wide e, gets) refl
      by e true gets (Some own) wide_o apart =
          let none : gives_entry made table row own e ≡ false = isnt (gives_entry made table row own e) (λ also.
          clash (gives_alike own ids made.dependency.x made.dependency.a) (alike_from made row own ids e (sym (given made table row own is (wide_o own refl) e) ∙ also) gets) apart) in
          rw (given made table row ids is wide e, gets) (sym none)

  -- the row keeps what it would lose
  pub removed_already : (ids : List ℕ) (after : Option (List ℕ)) → HasAll made ids → ForSome after (HasAll made) → option_map_or (λ own. gives_alike own ids made.dependency.x made.dependency.a) after false ≡ true
      → ((entry : Entry ℕ) → s.made.table ≡ table → entry.row ≡ row → holds_entry s entry ≡ (gives_entry s.made table row ids entry || entries_of (gives_entry s.made table row) after entry))
      → RemovesEntries (holds_entry s) (holds_entry s) (gives_entry s.made table row ids) (entries_of (gives_entry s.made table row) after)
  removed_already ids None wide wide_after alike present = absurd (cc)
  removed_already ids (Some own) wide wide_after alike present =
      of_set (λ (r : GroupSet). RemovesEntries (holds_entry r) (holds_entry r) (gives_entry r.made table row ids) (gives_entry r.made table row own)) (λ e. by e (is_entry (entry_at made row ids) e) refl)
    where
      by : (e : Entry ℕ) (b : Bool) → is_entry (entry_at made row ids) e ≡ b → is_in old.pairs e ≡ cond (gives_entry made table row ids e) (gives_entry made table row own e) (is_in old.pairs e)
      by e false isnt = rw (given made table row ids is wide e, isnt) refl
      by e true gets =
          let here = to_set (λ (r : GroupSet). (entry : Entry ℕ) → r.made.table ≡ table → entry.row ≡ row → holds_entry r entry ≡ (gives_entry r.made table row ids entry || gives_entry r.made table row own entry)) present e (sym is) (row_of_entry made row ids e gets) in
          let first : gives_entry made table row ids e ≡ true = given made table row ids is wide e ∙ gets in
          let second : gives_entry made table row own e ≡ true = given made table row own is (wide_after own refl) e ∙ ap (λ f. is_entry f e) (same_entries made row own ids alike) ∙ gets in
          here ∙ ap (λ b. b || gives_entry made table row own e) first ∙ sym second ∙ sym (ap (λ b. cond b (gives_entry made table row own e) (is_in old.pairs e)) first)
