-- The rows under all keys: the two sets of entries that they are, and which keys are marked.
use Rattle.std.specs.Prelude.{◌≡◌, ◌≢◌, ℕ, ◌≤◌, ◌&&◌, ◌||◌, not, Bool, true, false, List, length, slice_get, Some, IsSomeAnd}
use Rattle.std.specs.List.{list_any}
use Rattle.std.specs.Str.{bytes_eq}
use Rattle.smallvec.specs.SmallVec.{SmallVec}
use Rattle.marked_map.specs.MarkedMap.{MarkedPairs, IsMarked, IsUnmarked}
use Rattle.cfd_semantics.specs.declared.inclusion.Inclusion.{Inclusion}
use Rattle.cfd_semantics.specs.declared.inclusion.InclusionRow.{InclusionRow}
use Rattle.cfd_semantics.specs.Orphan.{SideEntry}
use Rattle.cind_index.specs.declared.side.Side.{Side}
use Rattle.cind_index.specs.declared.side.Side.TheVariants.{Left, Right}
use Rattle.cind_index.specs.declared.key_rows.KeyRows.{KeyRows}
use Rattle.cind_index.specs.RowsHeld.{has, rows_on, across, is_dirty}

-- a list of ids, as a key or pattern values are
abbrev pub Ids : Type 0
Ids = SmallVec ℕ

-- what the code keeps: keys with the rows of both sides
abbrev pub KeyedRows : Type 0
KeyedRows = MarkedPairs Ids KeyRows

-- the key stands there, with the entry's row among the rows of that side
abbrev pub is_under : Side → SideEntry ℕ → Ids × KeyRows → Bool
is_under side e pair = bytes_eq e.key pair.0.items && has (rows_on pair.1 side) e.pattern e.row

-- the set of entries of a side
abbrev pub held : KeyedRows → Side → SideEntry ℕ → Bool
held keys side e = list_any (is_under side e) keys.pairs

abbrev pub lefts : KeyedRows → SideEntry ℕ → Bool
lefts keys = held keys Left

abbrev pub rights : KeyedRows → SideEntry ℕ → Bool
rights keys = held keys Right

-- the marked keys are exactly those with an orphan
pub record AreMarkedRight (tableau : List (InclusionRow ℕ)) (keys : KeyedRows) : Type 0 where
  pub marked : (pair : Ids × KeyRows) → IsMarked keys pair → is_dirty tableau pair.1 ≡ true
  pub unmarked : (pair : Ids × KeyRows) → IsUnmarked keys pair → is_dirty tableau pair.1 ≡ false

-- the same but for the pair at a place, which may have any mark
pub record AreMarkedRightBut (place : ℕ) (tableau : List (InclusionRow ℕ)) (keys : KeyedRows) : Type 0 where
  pub marked : (pair : Ids × KeyRows) → slice_get keys.pairs place ≢ Some pair → IsMarked keys pair → is_dirty tableau pair.1 ≡ true
  pub unmarked : (pair : Ids × KeyRows) → slice_get keys.pairs place ≢ Some pair → IsUnmarked keys pair → is_dirty tableau pair.1 ≡ false

-- ---- changes

-- the key stands at the place
abbrev pub HasKeyAt : KeyedRows → ℕ → List ℕ → Type 0
HasKeyAt keys place key = IsSomeAnd (slice_get keys.pairs place) (λ pair. pair.0.items ≡ key)

-- each key stands where it stood
abbrev pub KeepsKeys : KeyedRows → KeyedRows → Type 0
KeepsKeys old new = (place : ℕ) (key : List ℕ) → HasKeyAt old place key → HasKeyAt new place key

-- both sides hold what they held
abbrev pub HoldTheSame : KeyedRows → KeyedRows → Type 0
HoldTheSame old new = (side : Side) (e : SideEntry ℕ) → held new side e ≡ held old side e

-- the entries that a test tells came in on a side, or went away from it, and nothing else changed
pub record HoldsMore (side : Side) (test : SideEntry ℕ → Bool) (old new : KeyedRows) : Type 0 where
  pub here : (e : SideEntry ℕ) → held new side e ≡ (held old side e || test e)
  pub beside : (e : SideEntry ℕ) → held new (across side) e ≡ held old (across side) e

pub record HoldsLess (side : Side) (test : SideEntry ℕ → Bool) (old new : KeyedRows) : Type 0 where
  pub here : (e : SideEntry ℕ) → held new side e ≡ (held old side e && not (test e))
  pub beside : (e : SideEntry ℕ) → held new (across side) e ≡ held old (across side) e

-- ---- room

-- the two lists have room for a key and for pattern values of either side
pub record HaveRoom (rule : Inclusion ℕ) (key pattern : Ids) : Type 0 where
  pub x : length rule.x ≤ key.capacity
  pub y : length rule.y ≤ key.capacity
  pub xp : length rule.xp ≤ pattern.capacity
  pub yp : length rule.yp ≤ pattern.capacity
