-- The list of an inclusion's orphans is empty exactly where the left rows are included.
use Rattle.std.proofs.Common.{◌≡◌, ℕ, ◌⊎◌, ◌↔◌, Bool, true, false, not, ◌&&◌, ◌||◌, List, [], ◌∷◌, map, filter, Some, refl, ap, ◌∙◌, inl, inr}
use Rattle.std.specs.List.{Contains, list_any}
use Rattle.cfd_semantics.specs.declared.inclusion.InclusionRow.{InclusionRow}
use Rattle.cfd_semantics.specs.declared.inclusion.Inclusion.{Inclusion}
use Rattle.cfd_semantics.specs.Tuple.{values_at, same_values, tuples_of}
use Rattle.cfd_semantics.specs.Orphan.{SideEntry, left_entry_of, right_entry_of, left_entries, right_entries, answers, is_orphan, orphaned, orphans}
use Rattle.cfd_semantics.specs.Satisfaction.{IsIncluded}
use Rattle.cfd_semantics.proofs.EntryFacts.{row_with_tuple, tuple_of_row}
use Rattle.cfd_semantics.proofs.SideLists.{side_parts, side_from_parts}
use Rattle.cfd_semantics.proofs.Numbers.{numbered-empty}
use Rattle.cfd_semantics.proofs.Members.{contains-here, contains-there, contains_nothing, contains_cases, contains-filter_map, contains_from_filter_map, none_pass_from_empty, empty_from_none_pass, map-empty}

one_true : (a b : Bool) → (a || b) ≡ true → (a ≡ true) ⊎ (b ≡ true)
one_true true b h = inl refl
one_true false b h = inr h

pub found_by_any : {X : Type 0} (p : X → Bool) (xs : List X) → list_any p xs ≡ true → (x : X) × Contains xs x × (p x ≡ true)
found_by_any p [] h = absurd (cc)
found_by_any p (x ∷ xs) h = elim (one_true (p x) (list_any p xs) h) [
  | inl is ↦ (x, contains-here x xs, is)
  | inr later ↦ let found = found_by_any p xs later in (found.0, contains-there found.0 x xs found.1, found.2)
]

pub any_from_found : {X : Type 0} (p : X → Bool) (xs : List X) (x : X) → Contains xs x → p x ≡ true → list_any p xs ≡ true
any_from_found p [] x member h = absurd (contains_nothing x member)
any_from_found p (y ∷ ys) x member h = elim (contains_cases x y ys member) [
  | inl is ↦ rw (is, h) refl
  | inr later ↦ rw (any_from_found p ys x later h) (or-true (p y))
]
  where
    or-true : (b : Bool) → (b || true) ≡ true
    or-true true = refl
    or-true false = refl

pub both_true : (a b : Bool) → (a && b) ≡ true → (a ≡ true) × (b ≡ true)
both_true true b h = (refl, h)
both_true false b h = absurd (cc)

-- a row that isn't an orphan, and has the constants of Xp, is answered
answered : (m b : Bool) → (m && not b) ≡ false → m ≡ true → b ≡ true
answered m true h is = refl
answered true false h is = absurd (cc)
answered false false h is = absurd (cc)

no_orphan : (m b : Bool) → (m ≡ true → b ≡ true) → (m && not b) ≡ false
no_orphan true b h = rw (h refl) refl
no_orphan false b h = refl

-- ---- one tableau row

-- some entry answers
abbrev IsAnswered : {V : Type 0} → (V → V → Bool) → InclusionRow V → List (SideEntry V) → SideEntry V → Type 0
IsAnswered {V} eq t rights left = (right : SideEntry V) × Contains rights right × (answers eq t left right ≡ true)

-- there is no orphan exactly where each left entry with the constants of Xp is answered
no_orphans : {V : Type 0} (eq : V → V → Bool) (t : InclusionRow V) (lefts rights : List (SideEntry V)) → (orphaned eq t lefts rights ≡ []) ↔ ((left : SideEntry V) → Contains lefts left → same_values eq t.xp left.pattern ≡ true → IsAnswered eq t rights left)
no_orphans {V} eq t lefts rights = (
  (λ none left inside has.
      let passes = none_pass_from_empty (is_orphan eq t rights) lefts (map-empty (λ (left : SideEntry V). left.row) (filter (is_orphan eq t rights) lefts) none) left inside in
      found_by_any (answers eq t left) rights (answered (same_values eq t.xp left.pattern) (list_any (answers eq t left) rights) passes has)),
  (λ all. ap (map (λ (left : SideEntry V). left.row)) (empty_from_none_pass (is_orphan eq t rights) lefts (λ left inside.
      no_orphan (same_values eq t.xp left.pattern) (list_any (answers eq t left) rights) (λ has.
      let one = all left inside has in any_from_found (answers eq t left) rights one.0 one.1 one.2)))),
)

-- ---- the law

pub orphans_are_none_where_included : {V : Type 0} (eq : V → V → Bool) (i : Inclusion V) (lefts rights : List (ℕ × List V)) → (orphans eq i (left_entries i lefts) (right_entries i rights) ≡ []) ↔ IsIncluded eq i (tuples_of lefts) (tuples_of rights)
orphans_are_none_where_included {V} eq i lefts rights =
    let empty = numbered-empty (λ t. orphaned eq t (left_entries i lefts) (right_entries i rights)) i.rows in (
      (λ none t tuple key member inside at_x has_xp.
          let row = row_with_tuple lefts tuple inside in
          let left : SideEntry V = record { key = key; pattern = has_xp.0; row = row.0.0 } in
          let gives : left_entry_of i row.0 ≡ Some left = side_from_parts i.x i.xp row.0 key has_xp.0 (ap (λ own. values_at own i.x) row.2 ∙ at_x) (ap (λ own. values_at own i.xp) row.2 ∙ has_xp.1) in
          let found = (no_orphans eq t (left_entries i lefts) (right_entries i rights)).0 (empty.0 none t member) left (contains-filter_map (left_entry_of i) lefts row.0 left row.1 gives) has_xp.2 in
          let right = found.0 in
          let other = contains_from_filter_map (right_entry_of i) rights right found.1 in
          let parts = side_parts i.y i.yp other.0 right other.2 in
          let both = both_true (same_values eq key right.key) (same_values eq t.yp right.pattern) found.2 in
          (other.0.1, tuple_of_row rights other.0 other.1, (right.key, parts.key, both.0), (right.pattern, parts.pattern, both.1))),
      (λ included. empty.1 (λ t member. (no_orphans eq t (left_entries i lefts) (right_entries i rights)).1 (λ left inside has.
          let row = contains_from_filter_map (left_entry_of i) lefts left inside in
          let parts = side_parts i.x i.xp row.0 left row.2 in
          let one = included t row.0.1 left.key member (tuple_of_row lefts row.0 row.1) parts.key (left.pattern, parts.pattern, has) in
          let other = row_with_tuple rights one.0 one.1 in
          let right : SideEntry V = record { key = one.2.0; pattern = one.3.0; row = other.0.0 } in
          let gives : right_entry_of i other.0 ≡ Some right = side_from_parts i.y i.yp other.0 one.2.0 one.3.0 (ap (λ own. values_at own i.y) other.2 ∙ one.2.1) (ap (λ own. values_at own i.yp) other.2 ∙ one.3.1) in
          let is_answer : answers eq t left right ≡ true = rw (one.2.2, one.3.2) refl in
          (right, contains-filter_map (right_entry_of i) rights other.0 right other.1 gives, is_answer)))),
    )
