-- Going back and forward in a log.
use Rattle.std.specs.Prelude.{◌≡◌, ◌+◌, ◌-◌, [], ◌∷◌, ◌++◌, Option, None, Some, ⊤}
use Rattle.std.specs.Borrow.{MutBor, Fml, follows_so}
use mathlib.Core.Option.{none}
use Rattle.edit_log.specs.declared.change.Change.{Change}
use Rattle.edit_log.specs.declared.log.Log.{Log}
use Rattle.edit_log.specs.contracts.log.Log.{the_row}

-- once the change that was given isn't looked at any more, the log is as P says
abbrev pub EndsSo : MutBor Log → (Log → Type 0) → Fml
EndsSo log P = follows_so the_row the_row log.ghost_name none (λ _ _. ⊤) P

-- the change moved from the end of the past to the front of the undone ones, or there was none and the log stays
abbrev pub MovesBack : Option Change → Log → Log → Type 0
MovesBack None old new = (new.past ≡ old.past) × (new.undone ≡ old.undone) × (new.spare ≡ old.spare)
MovesBack (Some change) old new = (old.past ≡ new.past ++ change ∷ []) × (new.undone ≡ change ∷ old.undone) × (new.spare ≡ old.spare + 1)

-- the change moved from the front of the undone ones to the end of the past, or there was none and the log stays
abbrev pub MovesForward : Option Change → Log → Log → Type 0
MovesForward None old new = (new.past ≡ old.past) × (new.undone ≡ old.undone) × (new.spare ≡ old.spare)
MovesForward (Some change) old new = (new.past ≡ old.past ++ change ∷ []) × (old.undone ≡ change ∷ new.undone) × (new.spare ≡ old.spare - 1)
