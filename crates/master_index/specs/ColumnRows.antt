-- Rows under keys: a key is the list of the value ids that a tuple has in some columns, and under it stand the ids of
-- the rows with such a tuple.
use Rattle.std.specs.Prelude.{◌≡◌, ◌≢◌, ℕ, ◌<◌, ◌==◌, ◌&&◌, ◌||◌, ◌⊎◌, not, Bool, true, false, List, [], ◌∷◌, length, take, slice_get, Some, All, IsSomeAnd}
use Rattle.std.specs.List.Sorted.{IsStrictlyIncreasing}
use Rattle.std.specs.List.{list_any}
use Rattle.std.specs.FinMap as finite
use Rattle.std.specs.Map.{lookup}
use Rattle.std.specs.Option.{option_map_or}
use Rattle.std.specs.Str.{bytes_eq}
use Rattle.smallvec.specs.SmallVec.{SmallVec}
use Rattle.master_index.specs.declared.rising.RowIds.{RowIds}
use Rattle.master_index.specs.declared.rising.RowIds.TheVariants.{One, Several}
use Rattle.master_index.specs.ColumnSets.{has_column}
use Rattle.master_index.specs.Masters.{MasterRows}

-- the row ids
abbrev pub listed : RowIds → List ℕ
listed (One only) = only ∷ []
listed (Several group) = group.value.rows.items

-- two of the rows were seen to differ in the column; one that came in alone differs from none
abbrev pub noted : RowIds → ℕ → Bool
noted (One only) column = false
noted (Several group) column = has_column group.value.apart column

-- row ids that tell each id of the rows in the column: all, or the first where no two were seen to differ there
abbrev pub Tells : RowIds → ℕ → List ℕ → Type 0
Tells rows column told = (told ≡ listed rows) ⊎ ((told ≡ take 1 (listed rows)) × (column < 64) × (noted rows column ≡ false))

-- what the code keeps: keys with their row ids
abbrev pub KeyedRows : Type 0
KeyedRows = List (SmallVec ℕ × RowIds)

-- the rows under a key, which are none where the key isn't there
abbrev pub rows_under : List ℕ → KeyedRows → List ℕ
rows_under ids entries = option_map_or listed (lookup (λ key. bytes_eq ids key.items) entries) []

-- whether it is noted under a key that two rows differ in the column
abbrev pub is_noted : List ℕ → ℕ → KeyedRows → Bool
is_noted ids column entries = option_map_or (λ rows. noted rows column) (lookup (λ key. bytes_eq ids key.items) entries) false

-- whether the row is among them
abbrev pub is_among : ℕ → List ℕ → Bool
is_among row rows = list_any (λ held. row == held) rows

-- the row ids under each key rise
abbrev pub AreRising : KeyedRows → Type 0
AreRising entries = All (λ entry. IsStrictlyIncreasing (listed entry.1)) entries

-- no key stands without rows
abbrev pub HaveRows : KeyedRows → Type 0
HaveRows entries = All (λ entry. 0 < length (listed entry.1)) entries

-- whether the row stands under the key
abbrev pub is_under : List ℕ → ℕ → KeyedRows → Bool
is_under ids row entries = is_among row (rows_under ids entries)

-- the row came in under the key, and nothing else changed
abbrev pub IsPutUnder : KeyedRows → KeyedRows → List ℕ → ℕ → Type 0
IsPutUnder old new key row = (ids : List ℕ) (other : ℕ) → is_under ids other new ≡ ((bytes_eq ids key && other == row) || is_under ids other old)

-- the row doesn't stand under the key any more, and nothing else changed
abbrev pub IsTakenFrom : KeyedRows → KeyedRows → List ℕ → ℕ → Type 0
IsTakenFrom old new key row = (ids : List ℕ) (other : ℕ) → is_under ids other new ≡ (not (bytes_eq ids key && other == row) && is_under ids other old)

-- the same rows stand under each key
abbrev pub HoldAlike : KeyedRows → KeyedRows → Type 0
HoldAlike old new = (ids : List ℕ) (other : ℕ) → is_under ids other new ≡ is_under ids other old

-- what was noted is noted still
abbrev pub NotesStay : KeyedRows → KeyedRows → Type 0
NotesStay old new = (ids : List ℕ) (column : ℕ) → is_noted ids column new ≡ false → is_noted ids column old ≡ false

-- what is noted under the keys that have rows is what was noted
abbrev pub NotesAlike : KeyedRows → KeyedRows → Type 0
NotesAlike old new = (ids : List ℕ) (column row : ℕ) → is_under ids row new ≡ true → is_noted ids column new ≡ is_noted ids column old

-- If a row beside this one stood under the key, then in each column that isn't noted there the tuple has the id of the first
-- of them, as the tables have it.
abbrev pub IsComparedIn : MasterRows → ℕ → KeyedRows → KeyedRows → List ℕ → ℕ → List ℕ → Type 0
IsComparedIn tables master old new key row tuple =
    (first other : ℕ) (held : List ℕ) → slice_get (rows_under key old) 0 ≡ Some first → is_under key other old ≡ true → other ≢ row
    → finite.get tables (master, first) ≡ Some held → (column : ℕ) → column < 64 → is_noted key column new ≡ false → slice_get held column ≡ slice_get tuple column

-- the entry at the place has the key
abbrev pub HasKeyAt : KeyedRows → ℕ → List ℕ → Type 0
HasKeyAt entries place key = IsSomeAnd (slice_get entries place) (λ entry. entry.0.items ≡ key)

-- the row ids under each key rise, and no key stands without rows
pub record AreOrderly (entries : KeyedRows) : Type 0 where
  pub rising : AreRising entries
  pub filled : HaveRows entries
