-- A group whose last pair is taken goes with its key.
use Rattle.std.proofs.Common.{◌≡◌, ◌≢◌, ℕ, Bool, true, false, not, ◌&&◌, List, slice_get, Some, refl, sym, ap, ◌∙◌, inl, inr}
use Rattle.std.specs.Prelude.{Contains}
use Rattle.std.specs.Str.{bytes_eq}
use Rattle.std.proofs.lemmas.Bool.{cases_lt, cases_eq}
use Rattle.std.proofs.lemmas.Option.{same_Some, slice_get-get_or, slice_get_within, get_or_from_slice_get}
use Rattle.smallvec.specs.SmallVec.{SmallVec}
use Rattle.marked_map.specs.MarkedMap.{IsAbsent, HaveDistinctKeys, KeepsOthers}
use Rattle.cfd_semantics.specs.declared.dependency.TableauRow.{TableauRow}
use Rattle.cfd_semantics.specs.Violation.{Entry}
use Rattle.group_index.specs.declared.group.Group.{Group}
use Rattle.group_index.specs.GroupSet.{is_entry}
use Rattle.group_index.specs.Pairs.{pairs_of, has_pair, IsAlone}
use Rattle.group_index.specs.Groups.{KeyedGroup, KeyedGroups, is_in, AreMarked}
use Rattle.group_index.proofs.GroupFacts.{same_key, equal_ids, same_ids, same_test, both_true, clash, isnt, not_true, holds_at, found_in, is_in_from, key_at, set_value_at, set_here, set_elsewhere, is_entry_parts, is_entry_from}

-- nothing has a key that isn't there
pub content_absent : (old : KeyedGroups) (entry : Entry ℕ) (key : SmallVec ℕ) → key.items ≡ entry.x → IsAbsent same_key old key → (e : Entry ℕ) → is_in old.pairs e ≡ (not (is_entry entry e) && is_in old.pairs e)
content_absent old entry key is absent e = by (is_entry entry e) refl
  where
    by : (b : Bool) → is_entry entry e ≡ b → is_in old.pairs e ≡ (not b && is_in old.pairs e)
    by false other = refl
    by true same = isnt (is_in old.pairs e) (λ inside.
        let it = found_in old.pairs e inside in
        let own = equal_ids it.group.0.items e.x (both_true (bytes_eq it.group.0.items e.x) (has_pair (pairs_of it.group.1) (e.a, e.row)) it.holds).0 in
        clash (same_key key it.group.0) (same_ids key.items it.group.0.items (is ∙ (is_entry_parts entry e same).x ∙ sym own)) (absent it.place it.group.0 (key_at old.pairs it.place it.group it.at)))

-- a group with the pair alone is taken away
module _ (old new : KeyedGroups) (place : ℕ) (key : SmallVec ℕ) (v w : Group) (taken : KeyedGroup) (at : slice_get old.pairs place ≡ Some (key, v)) (distinct : HaveDistinctKeys same_key old)
    (is_taken : slice_get (set_value_at old.pairs place w) place ≡ Some taken) (others : KeepsOthers (record { pairs = set_value_at old.pairs place w; marked = old.marked }) place new) (gone : IsAbsent same_key new taken.0) where
  abbrev mid : KeyedGroups
  mid = record { pairs = set_value_at old.pairs place w; marked = old.marked }

  -- what is left isn't the group that went
  left_is_other : (i : ℕ) (g : KeyedGroup) → slice_get new.pairs i ≡ Some g → slice_get mid.pairs place ≢ Some g
  left_is_other i g stands same =
      let one : taken ≡ g = same_Some taken g (sym is_taken ∙ same) in
      clash (same_key taken.0 g.0) (same_ids taken.0.items g.0.items (ap (λ (h : KeyedGroup). h.0.items) one)) (gone i g.0 (key_at new.pairs i g stands))

  -- and it stood elsewhere
  away : (i j : ℕ) (g : KeyedGroup) → slice_get new.pairs i ≡ Some g → slice_get mid.pairs j ≡ Some g → j ≢ place
  away i j g stands before same = left_is_other i g stands (ap (slice_get mid.pairs) (sym same) ∙ before)

  was_there : (i j : ℕ) (g : KeyedGroup) → slice_get new.pairs i ≡ Some g → slice_get mid.pairs j ≡ Some g → slice_get old.pairs j ≡ Some g
  was_there i j g stands before = sym (set_elsewhere old.pairs place j w (away i j g stands before)) ∙ before

  pub marked_removed : (rows : List (TableauRow ℕ)) → AreMarked rows old → AreMarked rows new
  marked_removed rows are = record {
    marked = λ i g below stands steady. let was = (others.marked g (left_is_other i g stands)).1 (i, below, stands) in are.marked was.0 g was.1 (was_there i was.0 g stands was.2) steady;
    unmarked = λ i g past stands steady. let was = (others.unmarked g (left_is_other i g stands)).1 (i, past, stands) in are.unmarked was.0 g was.1 (was_there i was.0 g stands was.2) steady;
  }

  -- where a group that is left stood
  record StoodAt (g : KeyedGroup) : Type 0 where
    before : ℕ
    apart : before ≢ place
    stood : slice_get old.pairs before ≡ Some g

  stood : (i : ℕ) (g : KeyedGroup) → slice_get new.pairs i ≡ Some g → StoodAt g
  stood i g stands = elim (cases_lt i new.marked) [
    | inl below ↦ let was = (others.marked g (left_is_other i g stands)).1 (i, below, stands) in record { before = was.0; apart = away i was.0 g stands was.2; stood = was_there i was.0 g stands was.2 }
    | inr past ↦ let was = (others.unmarked g (left_is_other i g stands)).1 (i, past, stands) in record { before = was.0; apart = away i was.0 g stands was.2; stood = was_there i was.0 g stands was.2 }
  ]

  pub left_was_there : (g : KeyedGroup) → Contains new.pairs g → Contains old.pairs g
  left_was_there g (i, within, is) =
      let was = stood i g (slice_get-get_or new.pairs i g within ∙ ap Some is) in
      (was.before, slice_get_within old.pairs was.before g was.stood, get_or_from_slice_get old.pairs was.before g g was.stood)

  -- another group is still there
  still : (j : ℕ) (g : KeyedGroup) → j ≢ place → slice_get old.pairs j ≡ Some g → (i : ℕ) × (slice_get new.pairs i ≡ Some g)
  still j g apart stands =
      let before : slice_get mid.pairs j ≡ Some g = set_elsewhere old.pairs place j w apart ∙ stands in
      let other : slice_get mid.pairs place ≢ Some g = λ same.
      let group : (key, w) ≡ g = same_Some (key, w) g (sym (set_here old.pairs place key v w at) ∙ same) in
      apart (distinct j place g.0 key (key_at old.pairs j g stands) (key_at old.pairs place (key, v) at) (same_ids g.0.items key.items (ap (λ (h : KeyedGroup). h.0.items) (sym group)))) in
      elim (cases_lt j old.marked) [
        | inl below ↦ let is = (others.marked g other).0 (j, below, before) in (is.0, is.2)
        | inr past ↦ let is = (others.unmarked g other).0 (j, past, before) in (is.0, is.2)
      ]

  pub content_removed : (entry : Entry ℕ) → key.items ≡ entry.x → IsAlone (pairs_of v) (entry.a, entry.row) → (e : Entry ℕ) → is_in new.pairs e ≡ (not (is_entry entry e) && is_in old.pairs e)
  content_removed entry is alone e = same_test (is_in new.pairs e) (not (is_entry entry e) && is_in old.pairs e) to from
    where
      to : is_in new.pairs e ≡ true → (not (is_entry entry e) && is_in old.pairs e) ≡ true
      to inside =
          let it = found_in new.pairs e inside in
          let was = stood it.place it.group it.at in
          let other : is_entry entry e ≡ false = isnt (is_entry entry e) (λ same.
          let own = equal_ids it.group.0.items e.x (both_true (bytes_eq it.group.0.items e.x) (has_pair (pairs_of it.group.1) (e.a, e.row)) it.holds).0 in
          was.apart (distinct was.before place it.group.0 key (key_at old.pairs was.before it.group was.stood) (key_at old.pairs place (key, v) at) (same_ids it.group.0.items key.items (own ∙ sym (is_entry_parts entry e same).x ∙ sym is)))) in
          rw (other, is_in_from old.pairs e was.before it.group was.stood it.holds) refl

      from : (not (is_entry entry e) && is_in old.pairs e) ≡ true → is_in new.pairs e ≡ true
      from inside =
          let parts = both_true (not (is_entry entry e)) (is_in old.pairs e) inside in
          let it = found_in old.pairs e parts.1 in
          elim (cases_eq it.place place) [
            | inr apart ↦ let is = still it.place it.group apart it.at in is_in_from new.pairs e is.0 it.group is.1 it.holds
            | inl same ↦
                let group : (key, v) ≡ it.group = same_Some (key, v) it.group (sym at ∙ ap (slice_get old.pairs) (sym same) ∙ it.at) in
                let both = both_true (bytes_eq key.items e.x) (has_pair (pairs_of v) (e.a, e.row)) (ap (λ g. holds_at g e) group ∙ it.holds) in
                absurd (clash (is_entry entry e) (is_entry_from entry e key.items is both.0 (sym (alone (e.a, e.row)) ∙ both.1)) (not_true (is_entry entry e) parts.0))
          ]
