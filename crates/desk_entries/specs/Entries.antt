-- The entries of a desk: the accepted edits since it was opened, numbered from 1.
use Rattle.std.specs.Prelude.{ℕ, zero, suc, ◌==◌, nat_lt, ◌&&◌, ◌||◌, not, Bool, false, List, length, Option, None, is_none, slice_get}
use Rattle.std.specs.List.{list_any}
use Rattle.std.specs.Option.{option_map_or}
use Rattle.std.specs.Str.{bytes_eq}
use Rattle.desk_entries.specs.Numbers.{last_up_to}

-- an edit that was accepted: whose it is, of which row, the row's texts before it, which are none where it inserted the row,
-- whether it deleted the row, and the number of the entry that it takes back, if it does
pub record Entry : Type 0 where
  pub editor : List ℕ
  pub table : ℕ
  pub row : ℕ
  pub before : Option (List (List ℕ))
  pub deletes : Bool
  pub takes : Option ℕ

-- the entry of that number; there is none of number 0
abbrev pub entry_at : List Entry → ℕ → Option Entry
entry_at entries zero = None
entry_at entries (suc place) = slice_get entries place

-- the entry of that number is there, and passes the test
abbrev pub entry_is : (Entry → Bool) → List Entry → ℕ → Bool
entry_is test entries number = option_map_or test (entry_at entries number) false

-- ---- what is asked of an entry

abbrev pub is_by : List ℕ → Entry → Bool
is_by editor entry = bytes_eq entry.editor editor

abbrev pub is_on : ℕ → ℕ → Entry → Bool
is_on table row entry = (entry.table == table) && (entry.row == row)

abbrev pub is_deletion : Entry → Bool
is_deletion entry = entry.deletes

abbrev pub takes_none : Entry → Bool
takes_none entry = is_none entry.takes

abbrev pub takes_back : ℕ → Entry → Bool
takes_back number entry = option_map_or (λ taken. taken == number) entry.takes false

-- ---- what is asked of a number

-- some entry takes this one back
abbrev pub is_taken_back : List Entry → ℕ → Bool
is_taken_back entries number = list_any (takes_back number) entries

-- it takes no entry back, and none takes it back
abbrev pub is_live : List Entry → ℕ → Bool
is_live entries number = entry_is takes_none entries number && not (is_taken_back entries number)

-- what is built on it can't be taken from under it: it is live, or a deletion
abbrev pub is_firm : List Entry → ℕ → Bool
is_firm entries number = entry_is is_deletion entries number || is_live entries number

abbrev pub is_live_of : List Entry → List ℕ → ℕ → Bool
is_live_of entries editor number = entry_is (is_by editor) entries number && is_live entries number

abbrev pub is_firm_on : List Entry → ℕ → ℕ → ℕ → Bool
is_firm_on entries table row number = entry_is (is_on table row) entries number && is_firm entries number

-- ---- the last entries

-- the last number of an entry with this property, or 0
abbrev pub last_number : List Entry → (ℕ → Bool) → ℕ
last_number entries test = last_up_to test (length entries)

-- the version of a row: the number of the last entry on it, or 0
abbrev pub version_of : List Entry → ℕ → ℕ → ℕ
version_of entries table row = last_number entries (entry_is (is_on table row) entries)

-- the number of the editor's last live entry, or 0
abbrev pub last_live : List Entry → List ℕ → ℕ
last_live entries editor = last_number entries (is_live_of entries editor)

-- a later entry on the row is live or a deletion
abbrev pub is_overtaken : List Entry → ℕ → Entry → Bool
is_overtaken entries number entry = nat_lt number (last_number entries (is_firm_on entries entry.table entry.row))
