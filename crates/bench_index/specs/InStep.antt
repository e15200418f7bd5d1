-- Watches of one kind that follow a row from its old tuple to its new one, where None is no row.
use Rattle.std.specs.Prelude.{◌≡◌, ℕ, List, All, Option}
use Rattle.std.specs.List.{AllZip}
use Rattle.std.specs.Option.{ForSome}
use Rattle.row_store.specs.Watch.{IsWide}
use Rattle.row_store.specs.Watches.{HoldsOfRow, HasAdded, HasRemoved, HoldsTheSame, IsInStep, with_row}
use Rattle.row_store.specs.declared.watch.Watch.{Ghosts}

module _ {Self : Type 0} (watch : Ghosts Self) where
  -- each holds exactly what the rows give, where `rows table row` is the row's tuple of value ids
  abbrev pub AreInStep : (ℕ → ℕ → Option (List ℕ)) → List Self → Type 0
  AreInStep rows watches = All (IsInStep watch rows) watches

  -- the tuple of the table has all attributes that they read
  abbrev pub AreWide : ℕ → List ℕ → List Self → Type 0
  AreWide table ids watches = All (λ w. IsWide (watch.attributes (watch.made w) table) ids) watches

  -- each is made with what it was made with
  abbrev pub AreMadeAlike : List Self → List Self → Type 0
  AreMadeAlike before after = AllZip (λ b a. watch.made a ≡ watch.made b) before after

  -- each holds what it held
  abbrev pub AreTheSame : List Self → List Self → Type 0
  AreTheSame before after = AllZip (HoldsTheSame watch) before after

  module _ (table row : ℕ) where
    -- of the row they hold what its old tuple gives, and both tuples have all attributes
    pub record CanFollow (old new : Option (List ℕ)) (watches : List Self) : Type 0 where
      pub present : All (HoldsOfRow watch table row old) watches
      pub wide_old : ForSome old (λ ids. AreWide table ids watches)
      pub wide_new : ForSome new (λ ids. AreWide table ids watches)

    -- whatever rows they were in step with before, in which the row had the old tuple, they are now in step with the rows
    -- in which it has the new one
    abbrev pub Follow : Option (List ℕ) → Option (List ℕ) → List Self → List Self → Type 0
    Follow old new before after = (rows : ℕ → ℕ → Option (List ℕ)) → rows table row ≡ old → AreInStep rows before → AreInStep (with_row rows table row new) after

    abbrev pub HaveAdded : List ℕ → List Self → List Self → Type 0
    HaveAdded ids before after = AllZip (HasAdded watch table row ids) before after

    abbrev pub HaveRemoved : List ℕ → Option (List ℕ) → List Self → List Self → Type 0
    HaveRemoved old new before after = AllZip (HasRemoved watch table row old new) before after
