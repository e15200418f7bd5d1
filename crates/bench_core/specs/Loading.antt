-- The state that tables are loaded to.
use Rattle.std.specs.Prelude.{ℕ, ◌+◌, ◌≤◌, List, [], length, take, map, All, Option, Some, None, Result}
use Rattle.std.specs.List.{AllZip, enumerate_from, position, range_with_len}
use Rattle.std.specs.declared.vec.Vec.{Vec}
use Rattle.std.specs.declared.alloc.Global.{Global}
use Rattle.row_store.specs.Tuple.{Tuple}
use Rattle.row_takers.specs.Taken.{AreNamed, rows_in}
use Rattle.schema_core.specs.Rows.{IsRowOf}
use Rattle.text_lists.specs.declared.limits.Limits.{Limits}
use Rattle.schema_core.specs.declared.schema.Table.{Table}
use Rattle.schema_core.specs.declared.schema.Schema.{Schema}
use Rattle.rule_model.specs.Books.{Book}
use Rattle.bench_index.specs.declared.all_indexes.AllIndexes.{AllIndexes}
use Rattle.bench_core.specs.State.{TableState, State}
use Rattle.bench_core.specs.Sizes.{is_over}
use Rattle.bench_core.specs.Stored.{Stored, RowsHaveTexts, state_of}
use Rattle.bench_core.specs.Bench.{AreCounts}
use Rattle.bench_core.specs.Indexed.{IsIndexed, load_probes, tuples_of}
use Rattle.bench_core.specs.declared.sizes.Counts.{Counts}
use Rattle.bench_core.specs.Found.{unless_found}
use Rattle.bench_core.specs.declared.edit.LoadFault.{LoadFault}
use Rattle.bench_core.specs.declared.edit.LoadFault.TheVariants.{RowsFull, Memory}

-- the rows of a table file
abbrev pub Tuples : Type 0
Tuples = List (List (List ℕ))

-- tables of a pool, as texts
abbrev pub tables_in : List (List ℕ) → List (Vec Tuple Global) → List Tuples
tables_in texts tables = map (λ (table : Vec Tuple Global). rows_in texts table.items) tables

-- there is a list of rows for each table of the schema, and they are rows of it
abbrev pub AreTables : Schema → ℕ → List Tuples → Type 0
AreTables schema cell_bytes tables = AllZip (λ (table : Table) rows. All (IsRowOf table.attrs cell_bytes) rows) schema.tables tables

-- the rows of a table get the ids 1, 2, 3 in order
abbrev pub loaded_table : Tuples → TableState
loaded_table tuples = record { rows = enumerate_from 1 tuples; next_id = length tuples + 1 }

-- the place of the first table with which there are too many rows, or too many cells of indexes
abbrev pub first_over : Book → Limits → State → Option ℕ
first_over rules limits state = position (λ place. is_over rules limits (take (place + 1) state)) (range_with_len 0 (length state))

-- the state of tables as they are loaded, or the place of the first table with which they are too many
abbrev pub loaded : Book → Limits → List Tuples → Result State ℕ
loaded rules limits tables = unless_found (first_over rules limits (map loaded_table tables)) (map loaded_table tables)

-- what a fault tells: the table that is too many, and nothing of want of memory
abbrev pub full_table : LoadFault → Option ℕ
full_table (RowsFull table) = Some table
full_table Memory = None

-- ---- tables of a pool, loaded after none

-- They are tables of the schema and their ids have these texts, the numbers are those of no rows, and the indexes have
-- taken no row.
pub record CanLoad (rules : Book) (limits : Limits) (texts : List (List ℕ)) (tables : List (Vec Tuple Global)) (numbers : Counts) (index : AllIndexes) : Type 0 where
  pub fit : AreTables rules.schema limits.cell_bytes (tables_in texts tables)
  pub named : All (λ (table : Vec Tuple Global). AreNamed texts table.items) tables
  pub counts : AreCounts rules [] numbers.weights.items numbers.rows numbers.cells
  pub indexed : IsIndexed rules texts (tuples_of []) index

-- they can be loaded, under some texts
abbrev pub CanBeLoaded : Book → Limits → List (Vec Tuple Global) → Counts → AllIndexes → Type 0
CanBeLoaded rules limits tables numbers index = (texts : List (List ℕ)) × CanLoad rules limits texts tables numbers index

-- They are stored: their ids have these texts, the numbers are those of their rows, the indexes are in step with them, and
-- that took no more probes than loading may.
pub record HasLoaded (rules : Book) (texts : List (List ℕ)) (tables : List Stored) (numbers : Counts) (index : AllIndexes) (before after : ℕ) : Type 0 where
  pub named : All (λ (table : Stored). RowsHaveTexts texts table.rows) tables
  pub counts : AreCounts rules (state_of texts tables) numbers.weights.items numbers.rows numbers.cells
  pub indexed : IsIndexed rules texts (tuples_of tables) index
  pub probes : after ≤ before + load_probes rules (state_of texts tables)
