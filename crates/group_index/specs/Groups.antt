-- How an index keeps its groups: a map from the ids on X to a group, in which the dirty groups are marked, but for those of a
-- row that is turning.
use Rattle.std.specs.Prelude.{◌≡◌, ◌≢◌, ℕ, ◌<◌, ◌≤◌, Bool, false, ◌&&◌, ◌||◌, not, List, map, length, Option, Some, slice_get, IsTrue, IsSomeAnd}
use Rattle.std.specs.List.{flat_map, list_any}
use Rattle.smallvec.specs.SmallVec.{SmallVec}
use Rattle.marked_map.specs.MarkedMap.{MarkedPairs}
use Rattle.cfd_semantics.specs.declared.dependency.TableauRow.{TableauRow}
use Rattle.cfd_semantics.specs.Violation.{Entry}
use Rattle.group_index.specs.declared.group.Group.{Group}
use Rattle.group_index.specs.declared.spread.Spread.{Spread}
use Rattle.group_index.specs.declared.totals.Totals.{Totals}
use Rattle.group_index.specs.GroupSet.{GroupsMade, GroupSet, is_entry}
use Rattle.group_index.specs.Answers.{IsPartnerOf}
use Rattle.group_index.specs.Pairs.{Pair, pairs_of, is_dirty, IsSpread, is_turning, is_both}
use Rattle.group_index.specs.Totals.{AreTotals}

-- a key with its group, and all of them
abbrev pub KeyedGroup : Type 0
KeyedGroup = SmallVec ℕ × Group

abbrev pub KeyedGroups : Type 0
KeyedGroups = MarkedPairs (SmallVec ℕ) Group

-- the entries of a group
abbrev pub entries_at : KeyedGroup → List (Entry ℕ)
entries_at at = map (λ pair. record { x = at.0.items; a = pair.0; row = pair.1 }) (pairs_of at.1)

-- the entries of all groups
abbrev pub entries_in : List KeyedGroup → List (Entry ℕ)
entries_in groups = flat_map entries_at groups

-- whether the entry is one of them
abbrev pub is_in : List KeyedGroup → Entry ℕ → Bool
is_in groups e = list_any (λ own. is_entry own e) (entries_in groups)

-- the entry came in, and nothing else changed
abbrev pub IsEntered : KeyedGroups → KeyedGroups → Entry ℕ → Type 0
IsEntered old new entry = (e : Entry ℕ) → is_in new.pairs e ≡ (is_in old.pairs e || is_entry entry e)

-- the entry is not there any more, and nothing else changed
abbrev pub IsLeft : KeyedGroups → KeyedGroups → Entry ℕ → Type 0
IsLeft old new entry = (e : Entry ℕ) → is_in new.pairs e ≡ (not (is_entry entry e) && is_in old.pairs e)

abbrev pub HoldTheSame : KeyedGroups → KeyedGroups → Type 0
HoldTheSame old new = (e : Entry ℕ) → is_in new.pairs e ≡ is_in old.pairs e

-- the group is dirty
abbrev pub is_dirty_at : List (TableauRow ℕ) → KeyedGroup → Bool
is_dirty_at rows at = is_dirty rows at.0.items (pairs_of at.1)

-- the marked groups are the dirty ones, but for one that is turning
pub record AreMarked (rows : List (TableauRow ℕ)) (groups : KeyedGroups) : Type 0 where
  pub marked : (place : ℕ) (at : KeyedGroup) → place < groups.marked → slice_get groups.pairs place ≡ Some at → is_turning at.1 ≡ false → IsTrue (is_dirty_at rows at)
  pub unmarked : (place : ℕ) (at : KeyedGroup) → groups.marked ≤ place → slice_get groups.pairs place ≡ Some at → is_turning at.1 ≡ false → is_dirty_at rows at ≡ false

-- what an index keeps true of its parts: its marks, its totals, and that it has room for a key once there are groups
pub record IsGroupIndex (rows : List (TableauRow ℕ)) (x : List ℕ) (groups : KeyedGroups) (kept : Totals) (key : SmallVec ℕ) : Type 0 where
  pub marks : AreMarked rows groups
  pub totals : AreTotals rows groups.pairs kept.counts
  pub room : 0 < length groups.pairs → length x ≤ key.capacity

-- the same of all groups but the one at a place
abbrev pub AreMarkedBut : List (TableauRow ℕ) → KeyedGroups → ℕ → Type 0
AreMarkedBut rows groups but =
    ((place : ℕ) (at : KeyedGroup) → place ≢ but → place < groups.marked → slice_get groups.pairs place ≡ Some at → is_turning at.1 ≡ false → IsTrue (is_dirty_at rows at))
    × ((place : ℕ) (at : KeyedGroup) → place ≢ but → groups.marked ≤ place → slice_get groups.pairs place ≡ Some at → is_turning at.1 ≡ false → is_dirty_at rows at ≡ false)

-- the group at a place is marked where one with its key and A ids that spread so is dirty, unless a row is turning
abbrev pub IsMarkedBy : List (TableauRow ℕ) → KeyedGroups → ℕ → Spread → Type 0
IsMarkedBy rows groups place spread = (at : KeyedGroup) (pairs : List Pair) → slice_get groups.pairs place ≡ Some at → IsSpread pairs spread → is_both spread ≡ false
    → (place < groups.marked → IsTrue (is_dirty rows at.0.items pairs)) × (groups.marked ≤ place → is_dirty rows at.0.items pairs ≡ false)

-- the key stands at the place
abbrev pub HasKeyAt : KeyedGroups → ℕ → List ℕ → Type 0
HasKeyAt groups place x = IsSomeAnd (slice_get groups.pairs place) (λ at. at.0.items ≡ x)

-- the set of the groups of an index
abbrev pub set_of : GroupsMade → KeyedGroups → GroupSet
set_of made groups = record { made = made; entries = entries_in groups.pairs; dirty = groups.marked }

-- the least partner of an entry with these ids on X and this A id, or that it has none
abbrev pub IsPartnerIn : KeyedGroups → TableauRow ℕ → List ℕ → ℕ → Option ℕ → Type 0
IsPartnerIn groups t x a partner = (made : GroupsMade) (row : ℕ) → IsPartnerOf (set_of made groups) t (record { x = x; a = a; row = row }) partner
