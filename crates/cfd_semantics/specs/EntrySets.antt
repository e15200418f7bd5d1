-- Sets of entries, and what their violations, partners and orphans are. A set is a test of an entry, as an index holds one;
-- the definitions here speak of its members, and of no order in which they stand.
use Rattle.std.specs.Prelude.{◌≡◌, ℕ, ◌<◌, ◌≤◌, ◌↔◌, Bool, false, ◌&&◌, ◌==◌, IsTrue, List, AllPairs, Contains, Option, Some, None}
use Rattle.std.specs.Option.{option_map_or}
use Rattle.cfd_semantics.specs.declared.dependency.TableauRow.{TableauRow}
use Rattle.cfd_semantics.specs.declared.dependency.Dependency.{Dependency}
use Rattle.cfd_semantics.specs.declared.inclusion.InclusionRow.{InclusionRow}
use Rattle.cfd_semantics.specs.declared.violation.Violation.{Violation}
use Rattle.cfd_semantics.specs.Tuple.{same_values}
use Rattle.cfd_semantics.specs.Violation.{Entry, entry_of, is_single, is_pair}
use Rattle.cfd_semantics.specs.Orphan.{SideEntry, side_entry_of, answers}

-- ---- a set and its list; `row_of` tells of which row an entry is

module _ {E : Type 0} (row_of : E → ℕ) where
  -- By rising rows, so at most one entry of a row.
  abbrev pub IsRising : List E → Type 0
  IsRising list = AllPairs (λ e f. row_of e < row_of f) list

  -- No row has two entries in the set.
  abbrev pub HasOneARow : (E → Bool) → Type 0
  HasOneARow holds = (e f : E) → IsTrue (holds e) → IsTrue (holds f) → row_of e ≡ row_of f → e ≡ f

  -- The list of a set: its members and nothing else, by rising rows.
  pub record IsListOf (holds : E → Bool) (list : List E) : Type 0 where
    pub rising : IsRising list
    pub members : (e : E) → IsTrue (holds e) ↔ Contains list e

  -- The set holds exactly what rows give, where `tuple_at` tells the tuple of a row, or that there is no such row.
  abbrev pub IsGivenBy : {T : Type 0} → (ℕ → T → E → Bool) → (ℕ → Option T) → (E → Bool) → Type 0
  IsGivenBy gives tuple_at holds = (e : E) → holds e ≡ option_map_or (λ tuple. gives (row_of e) tuple e) (tuple_at (row_of e)) false

-- All members of the set are among some list.
abbrev pub IsFinite : {E : Type 0} → (E → Bool) → Type 0
IsFinite {E} holds = (some : List E) × ((e : E) → IsTrue (holds e) → Contains some e)

-- The list of a set of a dependency's entries, and of one side's entries of an inclusion.
abbrev pub IsEntryList : {V : Type 0} → (Entry V → Bool) → List (Entry V) → Type 0
IsEntryList holds list = IsListOf (λ e. e.row) holds list

abbrev pub IsSideList : {V : Type 0} → (SideEntry V → Bool) → List (SideEntry V) → Type 0
IsSideList holds list = IsListOf (λ e. e.row) holds list

-- ---- which entries a row gives

-- The row with this id and this tuple gives the entry.
abbrev pub gives : {V : Type 0} → (V → V → Bool) → Dependency V → ℕ → List V → Entry V → Bool
gives eq d row tuple e = option_map_or (λ own. same_values eq own.x e.x && eq own.a e.a && (own.row == e.row)) (entry_of d (row, tuple)) false

-- The same for one side of an inclusion, with its attributes.
abbrev pub gives_side : {V : Type 0} → (V → V → Bool) → List ℕ → List ℕ → ℕ → List V → SideEntry V → Bool
gives_side eq key pattern row tuple e =
    option_map_or (λ own. same_values eq own.key e.key && same_values eq own.pattern e.pattern && (own.row == e.row)) (side_entry_of key pattern (row, tuple)) false

-- ---- violations of a tableau row in a set of entries

module _ {V : Type 0} (eq : V → V → Bool) (t : TableauRow V) (holds : Entry V → Bool) where
  -- The other entry is in the set, and makes a pair violation with this one.
  pub record IsPartner (e other : Entry V) : Type 0 where
    pub held : IsTrue (holds other)
    pub pair : IsTrue (is_pair eq t e other)

  -- The row is the least of the partners' rows.
  pub record IsLeastPartner (e : Entry V) (row : ℕ) : Type 0 where
    pub partner : (other : Entry V) × IsPartner e other × (other.row ≡ row)
    pub least : (other : Entry V) → IsPartner e other → row ≤ other.row

  -- An entry is listed alone where it is a single violation, and with its least partner where it has partners.
  abbrev pub IsListedWith : Entry V → Option ℕ → Type 0
  IsListedWith e None = IsTrue (is_single eq t e)
  IsListedWith e (Some row) = IsLeastPartner e row

  -- The violation is that of an entry in the set.
  abbrev pub IsViolation : Violation → Type 0
  IsViolation v = (e : Entry V) × IsTrue (holds e) × (e.row ≡ v.row) × IsListedWith e v.partner

-- ---- orphans of a tableau row in two sets of entries

-- The left entry has the constants of Xp, and no right entry of the set answers it.
pub record IsUnanswered {V : Type 0} (eq : V → V → Bool) (t : InclusionRow V) (rights : SideEntry V → Bool) (left : SideEntry V) : Type 0 where
  pub constants : IsTrue (same_values eq t.xp left.pattern)
  pub alone : (right : SideEntry V) → IsTrue (rights right) → answers eq t left right ≡ false

-- The row is that of a left entry of the set that is an orphan.
abbrev pub IsOrphan : {V : Type 0} → (V → V → Bool) → InclusionRow V → (SideEntry V → Bool) → (SideEntry V → Bool) → ℕ → Type 0
IsOrphan {V} eq t lefts rights row = (left : SideEntry V) × IsTrue (lefts left) × (left.row ≡ row) × IsUnanswered eq t rights left
