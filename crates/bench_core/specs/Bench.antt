-- What clauses see of a bench, and what every bench keeps.
use Rattle.std.specs.Prelude.{◌≡◌, ℕ, ◌≤◌, List, length, map, All, IsSomeAnd, slice_get}
use Rattle.std.specs.List.{AllZip, range_with_len}
use Rattle.text_lists.specs.Limits.{AreLimits}
use Rattle.text_lists.specs.declared.limits.Limits.{Limits}
use Rattle.rule_model.specs.Books.{Book}
use Rattle.bench_core.specs.State.{State, IsTableState}
use Rattle.edit_log.specs.Journal.{Journal}
use Rattle.edit_log.specs.declared.change.Change.{Change}
use Rattle.bench_core.specs.History.{History}
use Rattle.bench_core.specs.Stored.{Stored, stored, state_of, RowsHaveTexts}
use Rattle.bench_core.specs.Changes.{history_of, CanMake, WereMade, CanBeMade, IsChange}
use Rattle.bench_core.specs.declared.project.Project.{Project}
use Rattle.bench_core.specs.Sizes.{stopped_weight, total_rows, total_cells}

-- a bench is its rules, its limits, the texts that its value ids name, and its history
pub record BenchModel : Type 0 where
  pub rules : Book
  pub limits : Limits
  pub texts : List (List ℕ)
  pub history : History

-- a state that a bench may have: the limits are allowed, each table of the schema has a state, and rows and cells are
-- within the limits
pub record IsBench (rules : Book) (limits : Limits) (state : State) : Type 0 where
  pub allowed : AreLimits limits
  pub tables : AllZip (IsTableState limits.cell_bytes limits.last_id) rules.schema.tables state
  pub few_rows : total_rows state ≤ limits.rows
  pub few_cells : total_cells rules state ≤ limits.index_cells

-- each state of a history is one that the bench may have
pub record IsHistory (rules : Book) (limits : Limits) (history : History) : Type 0 where
  pub past : All (IsBench rules limits) history.past
  pub present : IsBench rules limits history.present
  pub undone : All (IsBench rules limits) history.undone

-- what a bench keeps beside its rows: rows and cells as numbers, and what a row of each table weighs, where the weight
-- stops at the last number of its type
pub record AreCounts (rules : Book) (state : State) (weights : List ℕ) (rows cells : ℕ) : Type 0 where
  pub weights-is : weights ≡ map (stopped_weight rules) (range_with_len 0 (length rules.schema.tables))
  pub rows-is : rows ≡ total_rows state
  pub cells-is : cells ≡ total_cells rules state

-- ---- what a bench holds

abbrev pub tables_of : Project → List Stored
tables_of project = map stored project.stores.items

abbrev pub present_of : Project → State
present_of project = state_of project.pool (tables_of project)

abbrev pub history : Project → History
history project = history_of project.pool project.log.past project.log.undone (tables_of project)

-- what clauses see of it
abbrev pub view_of : Project → BenchModel
view_of project = record { rules = project.rules; limits = project.limits; texts = project.pool; history = history project }

-- the table that a change is of is as P says
abbrev pub AtTable : Project → Change → (Stored → Type 0) → Type 0
AtTable project change P = IsSomeAnd (slice_get (tables_of project) change.table) P

-- Each state that the log leads to is one that the bench may have, the numbers are those of the present state, the
-- changes of the log lead from table to table, and each value id has a text.
pub record Holds (rules : Book) (limits : Limits) (texts : List (List ℕ)) (log : Journal) (tables : List Stored) (weights : List ℕ) (rows cells : ℕ) : Type 0 where
  pub history : IsHistory rules limits (history_of texts log.past log.undone tables)
  pub counts : AreCounts rules (state_of texts tables) weights rows cells
  pub past : WereMade log.past tables
  pub undone : CanBeMade log.undone tables
  pub named : All (λ (table : Stored). RowsHaveTexts texts table.rows) tables
  pub past-named : All (IsChange texts) log.past
  pub undone-named : All (IsChange texts) log.undone

abbrev pub IsHeld : Project → Type 0
IsHeld project = Holds project.rules project.limits project.pool project.log (tables_of project) project.counts.weights.items project.counts.rows project.counts.cells

-- a change that an edit makes to the numbered table, which is the project's
pub record IsPlanned (texts : List (List ℕ)) (number : ℕ) (table : Stored) (change : Change) : Type 0 where
  pub of_table : change.table ≡ number
  pub can : CanMake change table
  pub is : IsChange texts change
