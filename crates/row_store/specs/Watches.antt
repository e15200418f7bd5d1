-- Watches, each seen by the ghost members of its type.
use Rattle.std.specs.Prelude.{◌≡◌, ℕ, ◌||◌, ◌&&◌, ◌==◌, List, Option, if◌then◌else◌}
use Rattle.row_store.specs.Watch.{entries_of, AddsEntries, RemovesEntries}
use Rattle.row_store.specs.declared.watch.Watch.{Ghosts}

module _ {Self : Type 0} (watch : Ghosts Self) (table row : ℕ) where
  -- of this row it holds what the row gives with a tuple, or nothing where there is none
  abbrev pub HoldsOfRow : Option (List ℕ) → Self → Type 0
  HoldsOfRow ids w = (entry : watch.Entry) → watch.table_of (watch.made w) entry ≡ table → watch.row_of (watch.made w) entry ≡ row →
      watch.holds w entry ≡ entries_of (watch.gives (watch.made w) table row) ids entry

  -- of this row it holds what the row gives with either tuple
  abbrev pub HoldsOfBoth : List ℕ → Option (List ℕ) → Self → Type 0
  HoldsOfBoth old new w = (entry : watch.Entry) → watch.table_of (watch.made w) entry ≡ table → watch.row_of (watch.made w) entry ≡ row →
      watch.holds w entry ≡ (watch.gives (watch.made w) table row old entry || entries_of (watch.gives (watch.made w) table row) new entry)

  -- the entries that the row gives with the tuple were added, and nothing else changed
  pub record HasAdded (ids : List ℕ) (before after : Self) : Type 0 where
    pub made : watch.made after ≡ watch.made before
    pub entries : AddsEntries (watch.holds before) (watch.holds after) (watch.gives (watch.made before) table row ids)

  -- the entries that the row gives with the old tuple and not with the new one were taken away, and nothing else changed
  pub record HasRemoved (old : List ℕ) (new : Option (List ℕ)) (before after : Self) : Type 0 where
    pub made : watch.made after ≡ watch.made before
    pub entries : RemovesEntries (watch.holds before) (watch.holds after) (watch.gives (watch.made before) table row old) (entries_of (watch.gives (watch.made before) table row) new)

module _ {Self : Type 0} (watch : Ghosts Self) where
  -- the watch holds what it held
  pub record HoldsTheSame (before after : Self) : Type 0 where
    pub made : watch.made after ≡ watch.made before
    pub entries : (entry : watch.Entry) → watch.holds after entry ≡ watch.holds before entry

  -- the most probes of a call for a row of the table, where the call is left out for a table that isn't needed
  abbrev pub probes_of : ℕ → Self → ℕ
  probes_of table w = if watch.needed (watch.made w) table then watch.cost (watch.made w) else 0

  -- the watch holds exactly what the rows give, where `rows table row` is the row's tuple, or None where there is no such row
  abbrev pub IsInStep : (ℕ → ℕ → Option (List ℕ)) → Self → Type 0
  IsInStep rows w = (table row : ℕ) → HoldsOfRow watch table row (rows table row) w

-- the rows after one of them got another tuple, or was put or taken away
abbrev pub with_row : (ℕ → ℕ → Option (List ℕ)) → ℕ → ℕ → Option (List ℕ) → ℕ → ℕ → Option (List ℕ)
with_row rows table row ids t r = if (t == table) && (r == row) then ids else rows t r
