-- What the indexes answer beside the whole lists: how many there are, and what is listed of one row.
use Rattle.std.specs.Prelude.{◌≡◌, ℕ, ◌==◌, ◌∷◌, ◌++◌, List, length, filter, All, Option, Some, slice_get}
use Rattle.std.specs.Option.{ForSome}
use Rattle.std.specs.Str.{bytes_eq}
use Rattle.value_pool.specs.Pool.{HaveOneId}
use Rattle.cfd_semantics.specs.Renaming.{renamed_rows}
use Rattle.cfd_semantics.specs.Violation.{entries, violations}
use Rattle.cfd_semantics.specs.Orphan.{left_entries, right_entries, orphans}
use Rattle.cfd_semantics.specs.declared.violation.Violation.{Violation}
use Rattle.row_store.specs.Watch.{IsWide}
use Rattle.rule_model.specs.Books.{Book, book_deps, book_cinds}
use Rattle.rule_model.specs.declared.dep.Dep.{Dep}
use Rattle.rule_model.specs.declared.cind.Cind.{Cind}
use Rattle.group_index.specs.Answers.{IsSettled}
use Rattle.bench_index.specs.ByIds.{text_of}
use Rattle.bench_index.specs.InStep.{AreInStep}
use Rattle.bench_index.specs.Watching.{group_watch, cind_watch}
use Rattle.bench_index.specs.Indexes.{AreIndexesOf, AreRowsInTexts}
use Rattle.bench_index.specs.declared.index.BenchIndex.{BenchIndex}

-- no row has two entries in the index of a dependency, as is so where the indexes are in step with some rows
pub record AreSettled (index : BenchIndex) : Type 0 where
  pub each : All IsSettled index.groups.items

-- the tuple has all attributes of the dependency, or of the left side of the inclusion
abbrev pub IsWideForDep : BenchIndex → ℕ → List ℕ → Type 0
IsWideForDep index number ids = ForSome (slice_get index.groups.items number) (λ s. IsWide (s.made.dependency.a ∷ s.made.dependency.x) ids)

abbrev pub IsWideForCind : BenchIndex → ℕ → List ℕ → Type 0
IsWideForCind index number ids = ForSome (slice_get index.cinds.items number) (λ s. IsWide (s.rule.x ++ s.rule.xp) ids)

-- ---- how many there are

-- whatever the texts and the rows, where all is in step: the violations of the dependency are so many
abbrev pub IsViolationCountOfDep : BenchIndex → ℕ → ℕ → Type 0
IsViolationCountOfDep index number count =
    (rules : Book) (texts : List (List ℕ)) (tuples : ℕ → ℕ → Option (List ℕ)) (dep : Dep) (rows : List (ℕ × List ℕ))
    → HaveOneId texts → AreIndexesOf rules texts index → AreInStep group_watch tuples index.groups.items
    → slice_get (book_deps rules) number ≡ Some dep → AreRowsInTexts texts (tuples dep.table) rows
    → count ≡ length (violations bytes_eq dep.rule (entries dep.rule (renamed_rows (text_of texts) rows)))

-- the same of the orphans of an inclusion
abbrev pub IsOrphanCountOfCind : BenchIndex → ℕ → ℕ → Type 0
IsOrphanCountOfCind index number count =
    (rules : Book) (texts : List (List ℕ)) (tuples : ℕ → ℕ → Option (List ℕ)) (cind : Cind) (lefts rights : List (ℕ × List ℕ))
    → HaveOneId texts → AreIndexesOf rules texts index → AreInStep cind_watch tuples index.cinds.items
    → slice_get (book_cinds rules) number ≡ Some cind → AreRowsInTexts texts (tuples cind.left) lefts → AreRowsInTexts texts (tuples cind.right) rights
    → count ≡ length (orphans bytes_eq cind.rule (left_entries cind.rule (renamed_rows (text_of texts) lefts)) (right_entries cind.rule (renamed_rows (text_of texts) rights)))

-- ---- what is listed of one row

-- where the dependency's table has the row with this tuple: of the violations of the dependency those that are the row's own,
-- and not those in which it is only the partner
abbrev pub AreViolationsOfRow : BenchIndex → ℕ → ℕ → List ℕ → List (ℕ × Violation) → Type 0
AreViolationsOfRow index number row ids found =
    (rules : Book) (texts : List (List ℕ)) (tuples : ℕ → ℕ → Option (List ℕ)) (dep : Dep) (rows : List (ℕ × List ℕ))
    → HaveOneId texts → AreIndexesOf rules texts index → AreInStep group_watch tuples index.groups.items
    → slice_get (book_deps rules) number ≡ Some dep → AreRowsInTexts texts (tuples dep.table) rows → tuples dep.table row ≡ Some ids
    → found ≡ filter (λ violation. violation.1.row == row) (violations bytes_eq dep.rule (entries dep.rule (renamed_rows (text_of texts) rows)))

-- the same of the orphans of an inclusion, for a row of its left table
abbrev pub AreOrphansOfRow : BenchIndex → ℕ → ℕ → List ℕ → List (ℕ × ℕ) → Type 0
AreOrphansOfRow index number row ids found =
    (rules : Book) (texts : List (List ℕ)) (tuples : ℕ → ℕ → Option (List ℕ)) (cind : Cind) (lefts rights : List (ℕ × List ℕ))
    → HaveOneId texts → AreIndexesOf rules texts index → AreInStep cind_watch tuples index.cinds.items
    → slice_get (book_cinds rules) number ≡ Some cind → AreRowsInTexts texts (tuples cind.left) lefts → AreRowsInTexts texts (tuples cind.right) rights
    → tuples cind.left row ≡ Some ids
    → found ≡ filter (λ orphan. orphan.1 == row) (orphans bytes_eq cind.rule (left_entries cind.rule (renamed_rows (text_of texts) lefts)) (right_entries cind.rule (renamed_rows (text_of texts) rights)))
