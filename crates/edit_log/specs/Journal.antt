-- What a log is: the past changes, the undone ones, and how many changes can be pushed without memory.
use Rattle.std.specs.Prelude.{ℕ, ◌-◌, List, length, Option, slice_get}
use Rattle.edit_log.specs.declared.change.Change.{Change}

pub record Journal : Type 0 where
  -- the oldest first
  pub past : List Change
  -- the next to be done again first
  pub undone : List Change
  pub spare : ℕ

-- the last change of a list
abbrev pub last_change : List Change → Option Change
last_change changes = slice_get changes (length changes - 1)

-- the first
abbrev pub first_change : List Change → Option Change
first_change changes = slice_get changes 0
