-- What one side of an index takes part in when a row changes.
use Rattle.std.specs.Prelude.{◌≡◌, ℕ, ◌==◌, ◌&&◌, Bool, List, Some, Option}
use Rattle.row_store.specs.Watch.{entries_of}
use Rattle.cfd_semantics.specs.Orphan.{SideEntry}
use Rattle.cfd_semantics.specs.Tuple.{values_at}
use Rattle.cind_index.specs.declared.side.Side.{Side}
use Rattle.cind_index.specs.declared.index.CindIndex.{CindIndex}
use Rattle.cind_index.specs.Entries.{CindMade, table_on, key_on, gives_on}
use Rattle.cind_index.specs.KeysHeld.{held, HasKeyAt, HaveRoom}

-- what it was made with
abbrev pub made_of : CindIndex → CindMade
made_of index = record { left = index.left; right = index.right; rule = index.rule }

-- what a row of the table gives for a side
abbrev pub given : CindMade → Side → ℕ → ℕ → List ℕ → SideEntry ℕ → Bool
given made side table row tuple e = (table == table_on made side) && gives_on made.rule side row tuple e

-- of this row the side holds what the row gives with a tuple, or nothing where there is none
abbrev pub HoldsOfRowOn : Side → ℕ → ℕ → Option (List ℕ) → CindIndex → Type 0
HoldsOfRowOn side table row tuple index = (e : SideEntry ℕ) → table ≡ table_on (made_of index) side → row ≡ e.row →
    held index.keys side e ≡ entries_of (gives_on index.rule side row) tuple e

-- the key that a tuple has on a side stands at the place
abbrev pub StandsAt : CindIndex → Side → List ℕ → ℕ → Type 0
StandsAt index side tuple place = (key : List ℕ) → values_at tuple (key_on index.rule side) ≡ Some key → HasKeyAt index.keys place key

-- it is made with what it was made with, and has room
pub record KeepsMade (old new : CindIndex) : Type 0 where
  pub made : made_of new ≡ made_of old
  pub room : HaveRoom new.rule new.key new.pattern
