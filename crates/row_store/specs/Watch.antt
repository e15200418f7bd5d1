-- Sets of entries that are kept in step with rows. A set of entries is a test of an entry.
use Rattle.std.specs.Prelude.{◌≡◌, ℕ, ◌<◌, Bool, false, ◌||◌, cond, List, length, Option, Some, None, All}

module _ {Entry : Type 0} where
  -- what a row gives, or nothing where there is no row
  abbrev pub entries_of : (List ℕ → Entry → Bool) → Option (List ℕ) → Entry → Bool
  entries_of gives None entry = false
  entries_of gives (Some ids) entry = gives ids entry

  -- the entries of the new tuple joined the set
  abbrev pub AddsEntries : (Entry → Bool) → (Entry → Bool) → (Entry → Bool) → Type 0
  AddsEntries before after new = (entry : Entry) → after entry ≡ (before entry || new entry)

  -- of the old tuple's entries those of the new one are left, and all other entries stay
  abbrev pub RemovesEntries : (Entry → Bool) → (Entry → Bool) → (Entry → Bool) → (Entry → Bool) → Type 0
  RemovesEntries before after old new = (entry : Entry) → after entry ≡ cond (old entry) (new entry) (before entry)

-- a tuple is longer than each attribute number
abbrev pub IsWide : List ℕ → List ℕ → Type 0
IsWide attributes ids = All (λ attribute. attribute < length ids) attributes
