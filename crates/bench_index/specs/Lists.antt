-- What one index lists, tableau row by tableau row: of the list of its entries, and of one row.
use Rattle.std.specs.Prelude.{◌≡◌, ℕ, nat_eq, List, [], ◌∷◌, map, Option, Some, slice_get, slice_index, if◌then◌else◌}
use Rattle.std.specs.Option.{option_to_list}
use Rattle.cfd_semantics.specs.declared.violation.Violation.{Violation}
use Rattle.cfd_semantics.specs.declared.dependency.TableauRow.{TableauRow}
use Rattle.cfd_semantics.specs.Numbered.{numbered}
use Rattle.cfd_semantics.specs.EntrySets.{IsEntryList, IsSideList}
use Rattle.cfd_semantics.specs.Violation.{Entry, entry_of, violation_of, violations}
use Rattle.cfd_semantics.specs.Orphan.{SideEntry, left_entry_of, is_orphan, orphans}
use Rattle.group_index.specs.GroupSet.{GroupSet, holds_entry}
use Rattle.cind_index.specs.declared.index.CindIndex.{CindIndex}
use Rattle.cind_index.specs.KeysHeld.{lefts, rights}
use Rattle.bench_index.specs.ByIds.{text_of}

-- ---- a fact of the whole list

-- of all violations that the dependency has among the entries of the set
abbrev pub OfViolations : GroupSet → (List (ℕ × Violation) → Type 0) → Type 0
OfViolations s Fact = (all : List (Entry ℕ)) → IsEntryList (holds_entry s) all → Fact (violations nat_eq s.made.dependency all)

-- of all orphans that the inclusion has among the entries of both sides
abbrev pub OfOrphans : CindIndex → (List (ℕ × ℕ) → Type 0) → Type 0
OfOrphans index Fact =
    (left_list right_list : List (SideEntry ℕ)) → IsSideList (lefts index.keys) left_list → IsSideList (rights index.keys) right_list
    → Fact (orphans nat_eq index.rule left_list right_list)

-- ---- of a row with this tuple

-- what a tableau row lists of it
abbrev pub IsLineOf : GroupSet → ℕ → ℕ → List ℕ → Option Violation → Type 0
IsLineOf s k row ids line =
    (t : TableauRow ℕ) (e : Entry ℕ) (all : List (Entry ℕ)) → slice_get s.made.dependency.rows k ≡ Some t → entry_of s.made.dependency (row, ids) ≡ Some e
    → IsEntryList (holds_entry s) all → line ≡ violation_of nat_eq t all e

-- what all tableau rows list of it
abbrev pub AreLinesOf : GroupSet → ℕ → List ℕ → List (ℕ × Violation) → Type 0
AreLinesOf s row ids lines =
    (e : Entry ℕ) (all : List (Entry ℕ)) → entry_of s.made.dependency (row, ids) ≡ Some e → IsEntryList (holds_entry s) all
    → lines ≡ numbered (λ t. option_to_list (violation_of nat_eq t all e)) s.made.dependency.rows

-- the same of a left row of an inclusion
abbrev pub AreOrphanLinesOf : CindIndex → ℕ → List ℕ → List (ℕ × ℕ) → Type 0
AreOrphanLinesOf index row ids lines =
    (left : SideEntry ℕ) (right_list : List (SideEntry ℕ)) → left_entry_of index.rule (row, ids) ≡ Some left → IsSideList (rights index.keys) right_list
    → lines ≡ numbered (λ t. if is_orphan nat_eq t right_list left then row ∷ [] else []) index.rule.rows

-- ---- the texts that a tuple of ids has at attributes

abbrev pub text_of_cell : List (List ℕ) → List ℕ → ℕ → List ℕ
text_of_cell texts ids attribute = text_of texts (slice_index ids attribute)

abbrev pub texts_at : List (List ℕ) → List ℕ → List ℕ → List (List ℕ)
texts_at texts ids attributes = map (text_of_cell texts ids) attributes
