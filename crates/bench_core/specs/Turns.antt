-- A change that is gone over in one of two directions: taken back, or made.
use Rattle.std.specs.Prelude.{◌≡◌, ℕ, ◌<◌, List, Option, Bool, true, false, is_some, IsSomeAnd, slice_get}
use Rattle.text_lists.specs.declared.limits.Limits.{Limits}
use Rattle.rule_model.specs.Books.{Book}
use Rattle.row_store.specs.Store.{Store}
use Rattle.row_store.specs.Tuple.{Tuple}
use Rattle.edit_log.specs.Journal.{Journal, last_change, first_change}
use Rattle.edit_log.specs.Log.{MovesBack, MovesForward}
use Rattle.edit_log.specs.declared.change.Change.{Change}
use Rattle.bench_core.specs.declared.changes.Direction.{Direction}
use Rattle.bench_core.specs.declared.changes.Direction.TheVariants.{Back, Forward}
use Rattle.bench_core.specs.declared.sizes.Counts.{Counts}
use Rattle.bench_core.specs.State.{State}
use Rattle.bench_core.specs.History.{History, HasNoPast, HasNothingUndone, IsRedone, IsUndone, first_undone, last_past}
use Rattle.bench_core.specs.Stored.{Stored, state_of}
use Rattle.bench_core.specs.Changes.{CanMake, HasMade, IsChange, after_change, at_table, before_change}
use Rattle.bench_core.specs.Bench.{AreCounts, IsBench}

-- ---- one change

-- the tuple that its row has before, and then
abbrev pub tuple_before : Direction → Change → Option Tuple
tuple_before Back change = change.new
tuple_before Forward change = change.old

abbrev pub tuple_after : Direction → Change → Option Tuple
tuple_after Back change = change.old
tuple_after Forward change = change.new

-- the table can be gone over: it is as the change left it, or as the change found it
abbrev pub CanTurn : Direction → Change → Stored → Type 0
CanTurn Back = HasMade
CanTurn Forward = CanMake

-- the table then
abbrev pub turned : Direction → Change → Stored → Stored
turned Back = before_change
turned Forward = after_change

-- the tables then
abbrev pub turned_all : Direction → Change → List Stored → List Stored
turned_all direction change tables = at_table change.table (turned direction change) tables

-- there is room for its row, if it has none before
abbrev pub HasRoomFor : Direction → Change → Store → Type 0
HasRoomFor direction change store = is_some (tuple_before direction change) ≡ false → 0 < store.spare

-- The change can be gone over: tables before and then are a state that the bench may have, and the numbers are those of
-- the one before.
pub record IsTurn (rules : Book) (limits : Limits) (texts : List (List ℕ)) (direction : Direction) (change : Change) (tables : List Stored) (numbers : Counts) : Type 0 where
  pub is : IsChange texts change
  pub can : IsSomeAnd (slice_get tables change.table) (CanTurn direction change)
  pub present : IsBench rules limits (state_of texts tables)
  pub counts : AreCounts rules (state_of texts tables) numbers.weights.items numbers.rows numbers.cells
  pub then_present : IsBench rules limits (state_of texts (turned_all direction change tables))

-- it can be gone over, under some rules, limits and texts
abbrev pub CanBeTurned : Direction → Change → List Stored → Counts → Type 0
CanBeTurned direction change tables counts = (rules : Book) × (limits : Limits) × (texts : List (List ℕ)) × IsTurn rules limits texts direction change tables counts

-- the later numbers are those of the tables then, under all rules, limits and texts under which it can be gone over
abbrev pub AreCountedThen : Direction → Change → List Stored → Counts → Counts → Type 0
AreCountedThen direction change tables counts later =
    (rules : Book) (limits : Limits) (texts : List (List ℕ)) → IsTurn rules limits texts direction change tables counts → AreCounts rules (state_of texts (turned_all direction change tables)) later.weights.items later.rows later.cells

-- ---- the next change of a log

abbrev pub next_change : Direction → Journal → Option Change
next_change Back log = last_change log.past
next_change Forward log = first_change log.undone

-- the log with it on the other side
abbrev pub Moves : Direction → Option Change → Journal → Journal → Type 0
Moves Back = MovesBack
Moves Forward = MovesForward

-- ---- one step of a history

-- the state to which it leads, where there is one
abbrev pub next_state : Direction → History → Option State
next_state Back = last_past
next_state Forward = first_undone

abbrev pub HasNoNext : Direction → History → Type 0
HasNoNext Back = HasNoPast
HasNoNext Forward = HasNothingUndone

abbrev pub IsStep : Direction → History → History → Type 0
IsStep Back = IsUndone
IsStep Forward = IsRedone

-- the step was made, or there is none and the history stays
abbrev pub HasStepped : Bool → Direction → History → History → Type 0
HasStepped true direction before after = IsStep direction before after
HasStepped false direction before after = HasNoNext direction before × (after ≡ before)
