-- All indexes of a rule book, those of dependencies and inclusions and that of master tables, in step with the rows of
-- all tables.
use Rattle.std.specs.Prelude.{◌≡◌, ℕ, ◌+◌, ◌*◌, ◌==◌, ◌||◌, Bool, List, length, Option, None, if◌then◌else◌}
use Rattle.std.specs.List.{count_by}
use Rattle.std.specs.FinMap as finite
use Rattle.schema_core.specs.Lookups.{attrs_at, master_at}
use Rattle.rule_model.specs.Books.{Book, book_deps, book_cinds}
use Rattle.rule_model.specs.declared.dep.Dep.{Dep}
use Rattle.rule_model.specs.declared.cind.Cind.{Cind}
use Rattle.row_store.specs.Watches.{with_row}
use Rattle.master_index.specs.Masters.{Masters, lists_of}
use Rattle.bench_index.specs.InStep.{AreInStep, AreTheSame}
use Rattle.bench_index.specs.Watching.{group_watch, cind_watch}
use Rattle.bench_index.specs.Indexes.{AreIndexesOf}
use Rattle.bench_index.specs.MasterLists.{master_lists}
use Rattle.bench_index.specs.declared.all_indexes.AllIndexes.{AllIndexes}

-- The tuple of each row of each table, or None where there is no such row.
abbrev pub Tuples : Type 0
Tuples = ℕ → ℕ → Option (List ℕ)

-- those of master tables alone
abbrev pub masters_of : Book → Tuples → Tuples
masters_of rules tuples table row = if master_at rules.schema table then tuples table row else None

-- the indexes are those of the rules, and hold exactly what these tuples give
pub record AreInStepWith (rules : Book) (texts : List (List ℕ)) (tuples : Tuples) (all : AllIndexes) : Type 0 where
  pub indexes : AreIndexesOf rules texts all.index
  pub groups : AreInStep group_watch tuples all.index.groups.items
  pub cinds : AreInStep cind_watch tuples all.index.cinds.items
  pub lists : all.masters.lists ≡ master_lists rules
  pub rows : (table row : ℕ) → finite.get all.masters.rows (table, row) ≡ masters_of rules tuples table row

-- a tuple has an id for each attribute of its table
abbrev pub IsAsWide : Book → ℕ → List ℕ → Type 0
IsAsWide rules table ids = length ids ≡ length (attrs_at rules.schema table)

-- they are in step with some tuples, of which this is the row's
pub record HaveRow (rules : Book) (table row : ℕ) (tuple : Option (List ℕ)) (all : AllIndexes) : Type 0 where
  pub texts : List (List ℕ)
  pub tuples : Tuples
  pub in_step : AreInStepWith rules texts tuples all
  pub there : tuples table row ≡ tuple

-- whatever tuples they were in step with, in which the row had the old one, they are now in step with those in which it
-- has the new one
abbrev pub AllFollow : Book → ℕ → ℕ → Option (List ℕ) → Option (List ℕ) → AllIndexes → AllIndexes → Type 0
AllFollow rules table row old new before after =
    (texts : List (List ℕ)) (tuples : Tuples) → tuples table row ≡ old → AreInStepWith rules texts tuples before
    → AreInStepWith rules texts (with_row tuples table row new) after

-- all of them hold what they held
pub record AreAsBefore (before after : AllIndexes) : Type 0 where
  pub groups : AreTheSame group_watch before.index.groups.items after.index.groups.items
  pub cinds : AreTheSame cind_watch before.index.cinds.items after.index.cinds.items
  pub masters : after.masters ≡ before.masters

-- The rows of master tables follow a row, if its table is one.
pub record FollowAsMaster (is_master : Bool) (table row : ℕ) (new : Option (List ℕ)) (before after : Masters) : Type 0 where
  pub lists : after.lists ≡ before.lists
  pub rows : (t r : ℕ) → finite.get after.rows (t, r) ≡ if is_master then with_row (λ a b. finite.get before.rows (a, b)) table row new t r else finite.get before.rows (t, r)

-- the most probes that following a row of the table takes: 2 for each dependency on it, 4 for each inclusion with a side
-- on it, and 2 for each list of its columns
abbrev pub most_probes : Book → ℕ → ℕ
most_probes rules table =
    2 * count_by (λ (dep : Dep). table == dep.table) (book_deps rules)
    + 4 * count_by (λ (cind : Cind). (table == cind.left) || (table == cind.right)) (book_cinds rules)
    + 2 * lists_of (master_lists rules) table
