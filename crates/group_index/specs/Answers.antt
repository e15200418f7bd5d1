-- What an index answers about its set of entries.
use Rattle.std.specs.Prelude.{◌≡◌, ℕ, ◌↔◌, nat_eq, List, length, Contains, Option, Some, None, slice_get}
use Rattle.std.specs.List.{IsDistinct}
use Rattle.cfd_semantics.specs.declared.dependency.TableauRow.{TableauRow}
use Rattle.cfd_semantics.specs.declared.violation.Violation.{Violation}
use Rattle.cfd_semantics.specs.Tuple.{same_values}
use Rattle.cfd_semantics.specs.Violation.{Entry, entry_of, violating}
use Rattle.cfd_semantics.specs.EntrySets.{IsRising, HasOneARow, IsEntryList, IsPartner, IsLeastPartner, IsViolation}
use Rattle.cfd_semantics.specs.Dirty.{IsDirtyGroup}
use Rattle.group_index.specs.GroupSet.{GroupSet, holds_entry}

-- So many groups are dirty: a list has the X values of each dirty group once, and no others.
pub record AreDirty (s : GroupSet) (count : ℕ) : Type 0 where
  pub groups : List (List ℕ)
  pub once : IsDistinct (same_values nat_eq) groups
  pub exactly : (x : List ℕ) → Contains groups x ↔ IsDirtyGroup nat_eq (holds_entry s) s.made.dependency x
  pub as_many : length groups ≡ count

-- no row has two entries in the set
abbrev pub IsSettled : GroupSet → Type 0
IsSettled s = HasOneARow (λ (e : Entry ℕ). e.row) (holds_entry s)

-- The violations of a tableau row in the set, by rising rows.
pub record AreViolations (s : GroupSet) (t : TableauRow ℕ) (found : List Violation) : Type 0 where
  pub rising : IsRising (λ (v : Violation). v.row) found
  pub exactly : (v : Violation) → Contains found v ↔ IsViolation nat_eq t (holds_entry s) v

-- the same for the tableau row with this number
abbrev pub AreViolationsOf : GroupSet → ℕ → List Violation → Type 0
AreViolationsOf s k found = (t : TableauRow ℕ) → slice_get s.made.dependency.rows k ≡ Some t → AreViolations s t found

-- the list of the set, looked through by comparing every entry with every entry, gives the same
abbrev pub AreThoseOfTheList : GroupSet → ℕ → List Violation → Type 0
AreThoseOfTheList s k found =
    (t : TableauRow ℕ) (all : List (Entry ℕ)) → slice_get s.made.dependency.rows k ≡ Some t → IsEntryList (holds_entry s) all → found ≡ violating nat_eq t all

-- that list is so long
abbrev pub IsCountOfTheList : GroupSet → ℕ → ℕ → Type 0
IsCountOfTheList s k count =
    (t : TableauRow ℕ) (all : List (Entry ℕ)) → slice_get s.made.dependency.rows k ≡ Some t → IsEntryList (holds_entry s) all → count ≡ length (violating nat_eq t all)

-- The least row with which the entry makes a pair violation of the tableau row, or that there is none.
abbrev pub IsPartnerOf : GroupSet → TableauRow ℕ → Entry ℕ → Option ℕ → Type 0
IsPartnerOf s t e None = (other : Entry ℕ) → IsPartner nat_eq t (holds_entry s) e other → ⊥
IsPartnerOf s t e (Some least) = IsLeastPartner nat_eq t (holds_entry s) e least

-- the same for the entry that a row gives, and the tableau row with this number
abbrev pub IsPartnerOfRow : GroupSet → ℕ → ℕ → List ℕ → Option ℕ → Type 0
IsPartnerOfRow s k row ids partner =
    (t : TableauRow ℕ) (e : Entry ℕ) → slice_get s.made.dependency.rows k ≡ Some t → entry_of s.made.dependency (row, ids) ≡ Some e → IsPartnerOf s t e partner
