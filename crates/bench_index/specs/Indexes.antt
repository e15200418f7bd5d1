-- The indexes of a rule book: each is made with a rule by ids, and lists what the rule finds among the texts.
use Rattle.std.specs.Prelude.{◌≡◌, ℕ, ◌↔◌, List, Contains, Option, Some, slice_get}
use Rattle.std.specs.List.{AllZip}
use Rattle.std.specs.Str.{bytes_eq}
use Rattle.value_pool.specs.Pool.{HaveOneId}
use Rattle.cfd_semantics.specs.EntrySets.{IsRising}
use Rattle.cfd_semantics.specs.Renaming.{renamed_rows, HasKnownTuples}
use Rattle.cfd_semantics.specs.Violation.{entries, violations}
use Rattle.cfd_semantics.specs.Orphan.{left_entries, right_entries, orphans}
use Rattle.cfd_semantics.specs.declared.violation.Violation.{Violation}
use Rattle.rule_model.specs.Books.{Book, book_deps, book_cinds}
use Rattle.rule_model.specs.declared.dep.Dep.{Dep}
use Rattle.rule_model.specs.declared.cind.Cind.{Cind}
use Rattle.group_index.specs.GroupSet.{GroupSet}
use Rattle.cind_index.specs.declared.index.CindIndex.{CindIndex}
use Rattle.bench_index.specs.ByIds.{text_of, HasText, IsDependencyByIds, IsInclusionByIds}
use Rattle.bench_index.specs.InStep.{AreInStep}
use Rattle.bench_index.specs.Watching.{group_watch, cind_watch}
use Rattle.bench_index.specs.declared.index.BenchIndex.{BenchIndex}

-- the index is one of the dependency, and of the inclusion
pub record IsIndexOfDep (texts : List (List ℕ)) (dep : Dep) (s : GroupSet) : Type 0 where
  pub table : s.made.table ≡ dep.table
  pub rule : IsDependencyByIds texts dep.rule s.made.dependency

pub record IsIndexOfCind (texts : List (List ℕ)) (cind : Cind) (s : CindIndex) : Type 0 where
  pub left : s.left ≡ cind.left
  pub right : s.right ≡ cind.right
  pub rule : IsInclusionByIds texts cind.rule s.rule

-- an index for each rule, in order
pub record AreIndexesOf (rules : Book) (texts : List (List ℕ)) (index : BenchIndex) : Type 0 where
  pub groups : AllZip (IsIndexOfDep texts) (book_deps rules) index.groups.items
  pub cinds : AllZip (IsIndexOfCind texts) (book_cinds rules) index.cinds.items

-- ---- rows of a table

-- the rows by rising ids, each found by its id
pub record AreRowsAt (rows : List (ℕ × List ℕ)) (tuple_at : ℕ → Option (List ℕ)) : Type 0 where
  pub rising : IsRising (λ (row : ℕ × List ℕ). row.0) rows
  pub found : (row : ℕ) (tuple : List ℕ) → (tuple_at row ≡ Some tuple) ↔ Contains rows (row, tuple)

-- rows of which each id has a text
pub record AreRowsInTexts (texts : List (List ℕ)) (tuple_at : ℕ → Option (List ℕ)) (rows : List (ℕ × List ℕ)) : Type 0 where
  pub rows-at : AreRowsAt rows tuple_at
  pub named : HasKnownTuples (HasText texts) rows

-- ---- what is listed

-- whatever the texts and the rows, where all is in step: the violations that the dependency has among the texts of the rows
abbrev pub AreViolationsOfDep : BenchIndex → ℕ → List (ℕ × Violation) → Type 0
AreViolationsOfDep index number found =
    (rules : Book) (texts : List (List ℕ)) (tuples : ℕ → ℕ → Option (List ℕ)) (dep : Dep) (rows : List (ℕ × List ℕ))
    → HaveOneId texts → AreIndexesOf rules texts index → AreInStep group_watch tuples index.groups.items
    → slice_get (book_deps rules) number ≡ Some dep → AreRowsInTexts texts (tuples dep.table) rows
    → found ≡ violations bytes_eq dep.rule (entries dep.rule (renamed_rows (text_of texts) rows))

-- the same of the orphans of an inclusion
abbrev pub AreOrphansOfCind : BenchIndex → ℕ → List (ℕ × ℕ) → Type 0
AreOrphansOfCind index number found =
    (rules : Book) (texts : List (List ℕ)) (tuples : ℕ → ℕ → Option (List ℕ)) (cind : Cind) (lefts rights : List (ℕ × List ℕ))
    → HaveOneId texts → AreIndexesOf rules texts index → AreInStep cind_watch tuples index.cinds.items
    → slice_get (book_cinds rules) number ≡ Some cind → AreRowsInTexts texts (tuples cind.left) lefts → AreRowsInTexts texts (tuples cind.right) rights
    → found ≡ orphans bytes_eq cind.rule (left_entries cind.rule (renamed_rows (text_of texts) lefts)) (right_entries cind.rule (renamed_rows (text_of texts) rights))
