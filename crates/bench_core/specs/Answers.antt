-- What the rules find among the rows of a state.
use Rattle.std.specs.Prelude.{◌≡◌, ℕ, ◌==◌, ◌<◌, if◌then◌else◌, List, [], length, map, filter, IfSome, IsSome, Option, Some, None, slice_get, option_and_then, option_map}
use Rattle.std.specs.FinMap as finmap
use Rattle.std.specs.Option.{ForSome, option_map_or}
use Rattle.std.specs.Str.{bytes_eq}
use Rattle.cfd_semantics.specs.declared.violation.Violation.{Violation}
use Rattle.cfd_semantics.specs.Violation.{entries, violations}
use Rattle.cfd_semantics.specs.Orphan.{left_entries, right_entries, orphans}
use Rattle.rule_model.specs.declared.dep.Dep.{Dep}
use Rattle.rule_model.specs.declared.cind.Cind.{Cind}
use Rattle.schema_core.specs.Lookups.{attrs_at, master_at}
use Rattle.schema_core.specs.declared.schema.Schema.{Schema}
use Rattle.rule_model.specs.Books.{Book, book_cinds, book_deps}
use Rattle.master_index.specs.Masters.{Masters}
use Rattle.row_store.specs.Tuple.{ids_of}
use Rattle.bench_index.specs.MasterLists.{master_lists}
use Rattle.bench_core.specs.State.{State, TableState, rows_at, texts_of}
use Rattle.bench_core.specs.Stored.{HaveTexts, text_of}
use Rattle.bench_core.specs.declared.bench.RowAt.{RowAt}

-- The violations of a dependency among the rows of its table, each with the number of its tableau row: by tableau row,
-- and for each by rising row. A row with partners is listed once, with the least of them.
abbrev pub dep_violations : State → Dep → List (ℕ × Violation)
dep_violations state dep = violations bytes_eq dep.rule (entries dep.rule (rows_at state dep.table))

-- The orphans of an inclusion dependency: the rows of the left table that no row of the right one answers, each with the
-- number of its tableau row, by tableau row and for each by rising row.
abbrev pub cind_orphans : State → Cind → List (ℕ × ℕ)
cind_orphans state cind = orphans bytes_eq cind.rule (left_entries cind.rule (rows_at state cind.left)) (right_entries cind.rule (rows_at state cind.right))

-- ---- by the number of the rule

abbrev pub violations_at : Book → State → ℕ → List (ℕ × Violation)
violations_at rules state number = option_map_or (dep_violations state) (slice_get (book_deps rules) number) []

abbrev pub orphans_at : Book → State → ℕ → List (ℕ × ℕ)
orphans_at rules state number = option_map_or (cind_orphans state) (slice_get (book_cinds rules) number) []

-- those of a row, and not those in which it is only the partner
abbrev pub violations_of_row : Book → State → ℕ → ℕ → List (ℕ × Violation)
violations_of_row rules state number row = filter (λ violation. violation.1.row == row) (violations_at rules state number)

abbrev pub orphans_of_row : Book → State → ℕ → ℕ → List (ℕ × ℕ)
orphans_of_row rules state number row = filter (λ orphan. orphan.1 == row) (orphans_at rules state number)

-- ---- rows that are there

-- the texts of a row, where the table and the row are there
abbrev pub row_texts : State → ℕ → ℕ → Option (List (List ℕ))
row_texts state table row = option_and_then (λ (t : TableState). texts_of t row) (slice_get state table)

-- the table and the row are there, and the row's tuple stands for its texts
pub record IsRowAt (rules : Book) (texts : List (List ℕ)) (state : State) (at : RowAt) : Type 0 where
  pub there : at.table < length rules.schema.tables
  pub row : row_texts state at.table at.row ≡ Some (map (text_of texts) (ids_of at.tuple.now))
  pub named : HaveTexts texts (ids_of at.tuple.now)

-- the row is there in the dependency's table, and in the left table of the inclusion
abbrev pub IsRowOfDep : Book → State → ℕ → ℕ → Type 0
IsRowOfDep rules state number row = ForSome (slice_get (book_deps rules) number) (λ (dep : Dep). IsSome (row_texts state dep.table row))

abbrev pub IsRowOfCind : Book → State → ℕ → ℕ → Type 0
IsRowOfCind rules state number row = ForSome (slice_get (book_cinds rules) number) (λ (cind : Cind). IsSome (row_texts state cind.left row))

-- ---- master rows

-- the texts of a row of a master table, where it is there
abbrev pub master_texts : Schema → State → ℕ → ℕ → Option (List (List ℕ))
master_texts schema state table row = if master_at schema table then row_texts state table row else None

-- a tuple has an id for each attribute of its table, and each id has a text
pub record IsTupleAt (rules : Book) (texts : List (List ℕ)) (table : ℕ) (ids : List ℕ) : Type 0 where
  pub width : length ids ≡ length (attrs_at rules.schema table)
  pub named : HaveTexts texts ids

-- The rows of the master tables, each a tuple of its table that stands for its texts; looked up are the matched columns of
-- the editing rules, each list once.
pub record AreMastersOf (rules : Book) (texts : List (List ℕ)) (state : State) (masters : Masters) : Type 0 where
  pub rows : (table row : ℕ) → option_map (map (text_of texts)) (finmap.get masters.rows (table, row)) ≡ master_texts rules.schema state table row
  pub tuples : (table row : ℕ) → IfSome (finmap.get masters.rows (table, row)) (IsTupleAt rules texts table)
  pub lists : masters.lists ≡ master_lists rules
