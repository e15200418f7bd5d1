-- The history of a bench, for undo and redo: the states that it left, the one that it has, and those that were undone.
use Rattle.std.specs.Prelude.{◌≡◌, ◌-◌, List, [], ◌∷◌, ◌++◌, length, Ok, Option, slice_get}
use Rattle.text_lists.specs.declared.limits.Limits.{Limits}
use Rattle.rule_model.specs.Books.{Book}
use Rattle.edit_log.specs.declared.edit.Edit.{Edit}
use Rattle.bench_core.specs.State.{State}
use Rattle.bench_core.specs.Edited.{Step, ◌>>=◌, edited}
use Rattle.bench_core.specs.declared.edit.Applied.{Applied}

pub record History : Type 0 where
  -- the oldest first
  pub past : List State
  pub present : State
  -- the next to be done again first
  pub undone : List State

-- an accepted edit leads to this state, and what was undone is forgotten
abbrev pub accepted : History → State → History
accepted history state = record { past = history.past ++ history.present ∷ []; present = state; undone = [] }

-- the history after an edit of its present state, and what is told; or the first refusal
abbrev pub history_edited : Book → Limits → History → Edit → Step (History × Applied)
history_edited rules limits history edit = do
  after ← edited rules limits history.present edit
  Ok (accepted history after.0, after.1)

-- the last past state is present again, and the one that was present is the next to be done again
pub record IsUndone (before after : History) : Type 0 where
  pub past : before.past ≡ after.past ++ after.present ∷ []
  pub undone : after.undone ≡ before.present ∷ before.undone

-- to redo is to take an undoing back
abbrev pub IsRedone : History → History → Type 0
IsRedone before after = IsUndone after before

-- there is nothing to undo, and nothing to redo
abbrev pub HasNoPast : History → Type 0
HasNoPast history = history.past ≡ []

abbrev pub HasNothingUndone : History → Type 0
HasNothingUndone history = history.undone ≡ []

-- the state that an undo leads to, and the one that a redo leads to, where there is one
abbrev pub last_past : History → Option State
last_past history = slice_get history.past (length history.past - 1)

abbrev pub first_undone : History → Option State
first_undone history = slice_get history.undone 0
