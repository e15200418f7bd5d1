-- The history of stored tables: what stood before the past changes, and what the undone ones lead to.
use Rattle.std.specs.Prelude.{◌≡◌, ℕ, zero, suc, ◌+◌, ◌<◌, ⊤, ◌||◌, is_some, IsTrue, List, [], ◌∷◌, Option, None, Some}
use Rattle.std.specs.Option.{IsSomeAnd, ForSome, option_map_or}
use Rattle.std.specs.List.{slice_get}
use Rattle.std.specs.FinMap as finmap
use Rattle.row_store.specs.Store.{Rows}
use Rattle.row_store.specs.Tuple.{ids_if}
use Rattle.edit_log.specs.declared.change.Change.{Change}
use Rattle.bench_core.specs.declared.edit.Applied.{Applied}
use Rattle.bench_core.specs.declared.edit.Applied.TheVariants.{Inserted, Changed}
use Rattle.bench_core.specs.State.{State}
use Rattle.bench_core.specs.History.{History}
use Rattle.bench_core.specs.Stored.{Stored, state_of, HaveTexts}

-- ---- one change

-- the rows with this tuple at the id, or with no row there
abbrev pub with_tuple : Rows → ℕ → Option (List ℕ) → Rows
with_tuple rows id None = finmap.remove rows id
with_tuple rows id (Some values) = finmap.insert rows id values

-- the next id that is given where a row was inserted, and that stays where there was a row
abbrev pub next_where : {X : Type 0} → Option X → ℕ → ℕ → ℕ
next_where None given next = given
next_where (Some old) given next = next

-- a table before the change: a row that was inserted is gone, and its id is the next one again
abbrev pub before_change : Change → Stored → Stored
before_change change table = record { rows = with_tuple table.rows change.row (ids_if change.old); next = next_where change.old change.row table.next }

-- a table after it
abbrev pub after_change : Change → Stored → Stored
after_change change table = record { rows = with_tuple table.rows change.row (ids_if change.new); next = next_where change.old (change.row + 1) table.next }

-- the tables, one of which becomes another
abbrev pub at_table : ℕ → (Stored → Stored) → List Stored → List Stored
at_table number becomes [] = []
at_table zero becomes (table ∷ tables) = becomes table ∷ tables
at_table (suc number) becomes (table ∷ tables) = table ∷ at_table number becomes tables

abbrev pub taken_back : Change → List Stored → List Stored
taken_back change tables = at_table change.table (before_change change) tables

abbrev pub made_again : Change → List Stored → List Stored
made_again change tables = at_table change.table (after_change change) tables

-- ---- all changes

-- the tables before changes, the last of which is taken back first
abbrev pub before_all : List Change → List Stored → List Stored
before_all [] tables = tables
before_all (change ∷ later) tables = taken_back change (before_all later tables)

-- the state before each change, the oldest first
abbrev pub states_before : List (List ℕ) → List Change → List Stored → List State
states_before texts [] tables = []
states_before texts (change ∷ later) tables = state_of texts (before_all (change ∷ later) tables) ∷ states_before texts later tables

-- the state after each change
abbrev pub states_after : List (List ℕ) → List Change → List Stored → List State
states_after texts [] tables = []
states_after texts (change ∷ later) tables = state_of texts (made_again change tables) ∷ states_after texts later (made_again change tables)

-- the history of tables that past changes led to, and undone changes lead on from
abbrev pub history_of : List (List ℕ) → List Change → List Change → List Stored → History
history_of texts past undone tables = record { past = states_before texts past tables; present = state_of texts tables; undone = states_after texts undone tables }

-- ---- which changes lead from tables to tables

-- the next id follows the row where it was inserted, and lies above it in any case
abbrev pub IsGiven : {X : Type 0} → Option X → ℕ → ℕ → Type 0
IsGiven None row next = next ≡ row + 1
IsGiven (Some old) row next = row < next

-- the next id is the row's where it is to be inserted, and else lies above it
abbrev pub CanGive : {X : Type 0} → Option X → ℕ → ℕ → Type 0
CanGive None row next = next ≡ row
CanGive (Some old) row next = row < next

-- the row has the new tuple; a row that was inserted has the last id that was given
pub record HasMade (change : Change) (table : Stored) : Type 0 where
  pub new : finmap.get table.rows change.row ≡ ids_if change.new
  pub next : IsGiven change.old change.row table.next

-- the row has the old tuple; a row that is to be inserted gets the next id
pub record CanMake (change : Change) (table : Stored) : Type 0 where
  pub old : finmap.get table.rows change.row ≡ ids_if change.old
  pub next : CanGive change.old change.row table.next

-- each change was made to tables, the last one last
abbrev pub WereMade : List Change → List Stored → Type 0
WereMade [] tables = ⊤
WereMade (change ∷ later) tables = IsSomeAnd (slice_get (before_all later tables) change.table) (HasMade change) × WereMade later tables

-- each change can be made to tables, the first one first
abbrev pub CanBeMade : List Change → List Stored → Type 0
CanBeMade [] tables = ⊤
CanBeMade (change ∷ later) tables = IsSomeAnd (slice_get tables change.table) (CanMake change) × CanBeMade later (made_again change tables)

-- a change has a tuple before or after, and each of its ids has a text
pub record IsChange (texts : List (List ℕ)) (change : Change) : Type 0 where
  pub there : IsTrue (is_some change.old || is_some change.new)
  pub old : ForSome (ids_if change.old) (HaveTexts texts)
  pub new : ForSome (ids_if change.new) (HaveTexts texts)

-- what is told of a change: the id of a row that it inserts
abbrev pub told_of : Change → Applied
told_of change = option_map_or (λ old. Changed) change.old (Inserted change.row)
