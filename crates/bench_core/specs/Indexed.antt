-- Indexes that are in step with stored tables, and what it costs to keep them so.
use Rattle.std.specs.Prelude.{◌≡◌, ℕ, ◌+◌, ◌*◌, ◌≤◌, List, length, sum_by, Option, None, Some, slice_get, option_and_then}
use Rattle.std.specs.List.{enumerate_from}
use Rattle.std.specs.Option.{ForSome, option_map_or}
use Rattle.std.specs.FinMap as finmap
use Rattle.schema_core.specs.Schemas.{table_place}
use Rattle.rule_model.specs.Books.{Book, IsBook}
use Rattle.edit_log.specs.declared.edit.Edit.{Edit}
use Rattle.bench_index.specs.AllIndexes.{AreInStepWith, HaveRow, IsAsWide, most_probes}
use Rattle.bench_index.specs.declared.all_indexes.AllIndexes.{AllIndexes}
use Rattle.bench_core.specs.State.{State, TableState}
use Rattle.bench_core.specs.Stored.{Stored}
use Rattle.bench_core.specs.Edited.{name_of_table}
use Rattle.bench_core.specs.Bench.{tables_of}
use Rattle.bench_core.specs.declared.project.Project.{Project}

-- the tuple that a row of a table has, or None where there is no such table or row
abbrev pub tuples_of : List Stored → ℕ → ℕ → Option (List ℕ)
tuples_of tables table row = option_and_then (λ (t : Stored). finmap.get t.rows row) (slice_get tables table)

-- the indexes of a rule book, in step with the tuples by table and row
pub record IsIndexed (rules : Book) (texts : List (List ℕ)) (tuples : ℕ → ℕ → Option (List ℕ)) (index : AllIndexes) : Type 0 where
  pub valid : IsBook rules
  pub in_step : AreInStepWith rules texts tuples index

-- the same of what a project holds
abbrev pub IsInStepWith : Project → AllIndexes → Type 0
IsInStepWith project index = IsIndexed project.rules project.pool (tuples_of (tables_of project)) index

-- They can follow a row from its old tuple to its new one: in some tuples with which they are in step it has the old one,
-- and both have an id for each attribute of the table.
pub record CanFollow (rules : Book) (table row : ℕ) (old new : Option (List ℕ)) (index : AllIndexes) : Type 0 where
  pub there : HaveRow rules table row old index
  pub wide_old : ForSome old (IsAsWide rules table)
  pub wide_new : ForSome new (IsAsWide rules table)

-- ---- probes

-- the most probes of a change of one row of the named table, and none where there is no table of that name
abbrev pub table_probes : Book → List ℕ → ℕ
table_probes rules name = option_map_or (most_probes rules) (table_place rules.schema name) 0

-- the most probes of an edit
abbrev pub edit_probes : Book → Edit → ℕ
edit_probes rules edit = table_probes rules (name_of_table edit)

-- the states differ in no other table
abbrev pub DifferOnlyAt : ℕ → State → State → Type 0
DifferOnlyAt table one other = (t : ℕ) → (t ≡ table → ⊥) → slice_get one t ≡ slice_get other t

-- Where a state is left for another one, there were no more probes than one row takes of the table in which they differ.
-- Where there is none to go to, there were no probes.
abbrev pub AreOfTheChange : Book → State → Option State → ℕ → ℕ → Type 0
AreOfTheChange rules state None before after = after ≤ before
AreOfTheChange rules state (Some other) before after = (table : ℕ) × DifferOnlyAt table state other × (after ≤ before + most_probes rules table)

-- the most probes of loading tables: for each of their rows as many as a change of one row of its table takes
abbrev pub load_probes : Book → State → ℕ
load_probes rules state = sum_by (λ (at : ℕ × TableState). length at.1.rows * most_probes rules at.0) (enumerate_from 0 state)
