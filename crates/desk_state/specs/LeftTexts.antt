-- The texts that the entries of a desk left in the rows.
use Rattle.std.specs.Prelude.{◌≡◌, ◌⊎◌, ℕ, zero, suc, ◌+◌, ◌-◌, ◌&&◌, not, Bool, true, List, [], ◌∷◌, ◌++◌, length, Option, Some, is_none, option_and_then, slice_get}
use Rattle.bench_core.specs.Answers.{row_texts}
use Rattle.bench_core.specs.Bench.{IsBench}
use Rattle.desk_state.specs.Desk.{DeskModel, answered}
use Rattle.bench_core.specs.History.{History}
use Rattle.bench_core.specs.State.{State}
use Rattle.desk_events.specs.declared.event.Event.{Event}
use Rattle.desk_entries.specs.Entries.{Entry, entry_is, is_live, is_on, last_number, takes_none}

-- ---- live entries on a row

abbrev pub is_live_on : List Entry → ℕ → ℕ → ℕ → Bool
is_live_on entries table row number = entry_is (is_on table row) entries number && is_live entries number

-- the number of the last live entry on a row, or 0
abbrev pub last_live_on : List Entry → ℕ → ℕ → ℕ
last_live_on entries table row = last_number entries (is_live_on entries table row)

-- it inserted the row, and takes another entry back
abbrev pub inserts_back : ℕ → ℕ → Entry → Bool
inserts_back table row entry = is_on table row entry && (is_none entry.before && not (takes_none entry))

-- ---- what a row has of whom

-- the texts that each entry left in each row, by the entry's number, the table and the row; by 0 those at first
abbrev pub LeftTexts : Type 0
LeftTexts = ℕ → ℕ → ℕ → Option (List (List ℕ))

-- the row had these texts at first, or a taking back inserted it with them
abbrev pub CameWith : List Entry → LeftTexts → ℕ → ℕ → List (List ℕ) → Type 0
CameWith entries left table row texts =
    (left 0 table row ≡ Some texts) ⊎ ((number : ℕ) × (entry_is (inserts_back table row) entries number ≡ true) × (left number table row ≡ Some texts))

-- the numbered entry left these texts in the row, or without one the row came with them
abbrev pub HasFrom : List Entry → LeftTexts → ℕ → ℕ → List (List ℕ) → ℕ → Type 0
HasFrom entries left table row texts zero = CameWith entries left table row texts
HasFrom entries left table row texts (suc place) = left (suc place) table row ≡ Some texts

-- ---- a desk

-- the states of a history, the oldest first, without those that were undone
abbrev pub states_of : History → List State
states_of history = history.past ++ history.present ∷ []

-- Each entry led to the next state, so the states before them are those that were there before the first entry.
abbrev pub left_texts : DeskModel → LeftTexts
left_texts desk number table row =
    option_and_then (λ (state : State). row_texts state table row) (slice_get (states_of desk.history) (length desk.history.past - length desk.entries + number))

-- A row that is there has the texts that the last live entry on it left. Where no live entry is on it, it has those that it
-- had at first, or with which a taking back inserted it.
abbrev pub AreAsLeft : DeskModel → Type 0
AreAsLeft desk = (table row : ℕ) (texts : List (List ℕ)) → row_texts desk.history.present table row ≡ Some texts
    → HasFrom desk.entries (left_texts desk) table row texts (last_live_on desk.entries table row)

-- the desk that the events leave
abbrev pub left_by : DeskModel → List Event → DeskModel
left_by desk [] = desk
left_by desk (event ∷ events) = left_by (answered desk event).1 events

-- answers lead to this desk from one with no entry
pub record IsReached (desk : DeskModel) : Type 0 where
  pub start : DeskModel
  pub events : List Event
  pub none : start.entries ≡ []
  pub valid : IsBench start.rules start.limits start.history.present
  pub leads : desk ≡ left_by start events
