-- How many violations each tableau row has, kept in step with the groups.
use Rattle.std.specs.Prelude.{◌≡◌, ◌≢◌, ℕ, ◌+◌, false, not, cond, nat_eq, List, length, count_by, sum_by, Option, None, Some, slice_get, IsSomeAnd, AllPairs, Contains, Vec}
use Rattle.std.specs.declared.alloc.Global.{Global}
use Rattle.smallvec.specs.SmallVec.{SmallVec}
use Rattle.cfd_semantics.specs.declared.pattern.Pattern.{Pattern}
use Rattle.cfd_semantics.specs.declared.pattern.Pattern.TheVariants.{Any, Is, In, NotIn}
use Rattle.cfd_semantics.specs.declared.dependency.TableauRow.{TableauRow}
use Rattle.cfd_semantics.specs.Pattern.{all_match, is_set}
use Rattle.group_index.specs.declared.group.Group.{Group}
use Rattle.group_index.specs.declared.totals.Extent.{Extent}
use Rattle.group_index.specs.declared.totals.Change.{Change}
use Rattle.group_index.specs.Pairs.{Pair, pairs_of, is_mixed, IsSpread, is_turning, is_both, DifferAtMostBy}

-- How many pairs of a group are listed: for `_` all where two A ids stand there, for a constant those with another one.
abbrev pub listed_among : Pattern ℕ → List Pair → ℕ
listed_among Any pairs = cond (is_mixed pairs) (length pairs) 0
listed_among (Is constant) pairs = count_by (λ p. not (nat_eq constant p.0)) pairs
listed_among (In members) pairs = 0
listed_among (NotIn members) pairs = 0

-- the same where the key of the group matches the tableau row, and none where it doesn't
abbrev pub tally : TableauRow ℕ → List ℕ → List Pair → ℕ
tally t x pairs = cond (all_match nat_eq t.x x) (listed_among t.a pairs) 0

-- in all groups
abbrev pub total : TableauRow ℕ → List (SmallVec ℕ × Group) → ℕ
total t groups = sum_by (λ (at : SmallVec ℕ × Group). tally t at.0.items (pairs_of at.1)) groups

-- no pair stands twice in a group
abbrev pub IsOnce : SmallVec ℕ × Group → Type 0
IsOnce at = AllPairs (λ p q. p ≢ q) (pairs_of at.1)

-- the numbers of all tableau rows
pub record AreTotalsOf (rows : List (TableauRow ℕ)) (groups : List (SmallVec ℕ × Group)) (counts : List ℕ) : Type 0 where
  pub once : (at : SmallVec ℕ × Group) → Contains groups at → IsOnce at
  pub sums : (k : ℕ) (t : TableauRow ℕ) → slice_get rows k ≡ Some t → slice_get counts k ≡ Some (total t groups)

-- where they are kept
abbrev pub AreTotals : List (TableauRow ℕ) → List (SmallVec ℕ × Group) → Option (Vec ℕ Global) → Type 0
AreTotals rows groups None = Unit {0}
AreTotals rows groups (Some counts) = AreTotalsOf rows groups counts.items

-- the number that is kept for the tableau row
abbrev pub IsKeptFor : Option (Vec ℕ Global) → TableauRow ℕ → ℕ → ℕ → Type 0
IsKeptFor None t k count = ⊥
IsKeptFor (Some counts) t k count = (is_set t.a ≡ false) × (slice_get counts.items k ≡ Some count)

-- ---- a change of one group

-- so many pairs, whose A ids spread so, and none of them twice
pub record IsExtent (pairs : List Pair) (extent : Extent) : Type 0 where
  pub rows : extent.rows ≡ length pairs
  pub spread : IsSpread pairs extent.spread
  pub once : AllPairs (λ p q. p ≢ q) pairs

-- those of the group at a place, and the spread says whether it is turning
abbrev pub HasExtentAt : List (SmallVec ℕ × Group) → ℕ → Extent → Type 0
HasExtentAt groups place extent = (at : SmallVec ℕ × Group) → slice_get groups place ≡ Some at → IsExtent (pairs_of at.1) extent × (is_both extent.spread ≡ is_turning at.1)

-- the group went from the pairs old to the pairs new: at most one came or went, and that has the A id
pub record IsChange (change : Change) (old new : List Pair) : Type 0 where
  pub before : IsExtent old change.before
  pub after : IsExtent new change.after
  pub differ : (row : ℕ) × DifferAtMostBy (change.a, row) old new

-- A number follows the change of a group with the key: it grows by what the group counts for after it, and loses what it
-- counted for before.
abbrev pub Follows : TableauRow ℕ → List ℕ → Change → ℕ → ℕ → Type 0
Follows t x change count next = (old new : List Pair) → IsChange change old new → next + tally t x old ≡ count + tally t x new

-- all numbers do
abbrev pub AreChanged : List (TableauRow ℕ) → List ℕ → Change → List ℕ → List ℕ → Type 0
AreChanged rows x change old new = (k : ℕ) (t : TableauRow ℕ) (count : ℕ) → slice_get rows k ≡ Some t → slice_get old k ≡ Some count → IsSomeAnd (slice_get new k) (Follows t x change count)

-- the same as long as they are kept
abbrev pub AreChangedOrGone : List (TableauRow ℕ) → List ℕ → Change → Option (Vec ℕ Global) → Option (Vec ℕ Global) → Type 0
AreChangedOrGone rows x change old None = Unit {0}
AreChangedOrGone rows x change None (Some new) = ⊥
AreChangedOrGone rows x change (Some old) (Some new) = AreChanged rows x change old.items new.items
