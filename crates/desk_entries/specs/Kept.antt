-- Entries as they are kept, and what is kept beside them so that the last ones are found at once.
use Rattle.std.specs.Prelude.{◌≡◌, ℕ, suc, ◌<◌, ◌≤◌, ◌==◌, ◌&&◌, ◌||◌, not, Bool, true, false, List, All, IfSome, length, Option, None, Some, map, slice_get, nat_eq, is_none, if◌then◌else◌, ⊤}
use Rattle.std.specs.Option.{option_map_or}
use Rattle.std.specs.Str.{bytes_eq}
use Rattle.indexmap.specs.IndexMap.{IndexMap, get}
use Rattle.desk_entries.specs.Numbers.{last_up_to}
use Rattle.desk_entries.specs.Entries.{Entry, entry_at, entry_is, is_by, is_deletion, is_live, is_on, is_overtaken, last_live}
use Rattle.desk_entries.specs.declared.entries.Kept.{Kept}
use Rattle.desk_entries.specs.declared.entries.NewEntry.{NewEntry}
use Rattle.desk_entries.specs.declared.entries.RowTops.{RowTops}

-- what clauses see of a list of entries: the entries, and for how many more there is room in each part
pub record EntriesModel : Type 0 where
  pub entries : List Entry
  pub list_room : ℕ
  pub live_room : ℕ
  pub row_room : ℕ

-- there is room for another entry
pub record HasRoom (model : EntriesModel) : Type 0 where
  pub list : 0 < model.list_room
  pub live : 0 < model.live_room
  pub rows : 1 < model.row_room

-- an entry that takes one back takes the editor's last live one, on which nobody built
abbrev pub MayTake : List Entry → List ℕ → Option ℕ → Type 0
MayTake entries editor None = ⊤
MayTake entries editor (Some number) =
    (number ≡ last_live entries editor) × (taken : Entry) × (entry_at entries number ≡ Some taken) × (is_overtaken entries number taken ≡ false)

-- an entry that comes
abbrev pub entry_new : NewEntry → Entry
entry_new new = record { editor = new.editor; table = new.table; row = new.row; before = new.before; deletes = new.deletes; takes = new.takes }

abbrev pub entry_kept : Kept → Entry
entry_kept kept = entry_new kept.entry

abbrev pub entries_kept : List Kept → List Entry
entries_kept list = map entry_kept list

-- ---- chains

-- Numbers up to `length`, of which some count. Each key has its members; the last of them that counts is at its top, and
-- each one that counts leads to the one below it.
pub record IsChain {Key : Type 0} (is_member : Key → ℕ → Bool) (counts : ℕ → Bool) (length : ℕ) (top : Key → ℕ) (below : ℕ → ℕ) : Type 0 where
  pub tops : (key : Key) → top key ≡ last_up_to (λ n. is_member key n && counts n) length
  pub links : (key : Key) (place : ℕ) → suc place ≤ length → is_member key (suc place) ≡ true → counts (suc place) ≡ true
      → below place ≡ last_up_to (λ n. is_member key n && counts n) place

abbrev pub by_editor : List Entry → List ℕ → ℕ → Bool
by_editor entries editor = entry_is (is_by editor) entries

-- a row by its table and its id
abbrev pub RowKey : Type 0
RowKey = ℕ × ℕ

abbrev pub on_row : List Entry → RowKey → ℕ → Bool
on_row entries key = entry_is (is_on key.0 key.1) entries

-- it is a deletion, or is live
abbrev pub is_held : List Entry → (ℕ → Bool) → ℕ → Bool
is_held entries alive number = entry_is is_deletion entries number || alive number

abbrev pub live_below : List Kept → ℕ → ℕ
live_below list place = option_map_or (λ (k : Kept). k.live_below) (slice_get list place) 0

abbrev pub firm_below : List Kept → ℕ → ℕ
firm_below list place = option_map_or (λ (k : Kept). k.firm_below) (slice_get list place) 0

-- The last numbers of the rows are as kept, where `alive` says which numbers are live; and those of the editors too.
pub record AreRowsTied (alive : ℕ → Bool) (list : List Kept) (rows : RowKey → RowTops) : Type 0 where
  pub firm : IsChain (on_row (entries_kept list)) (is_held (entries_kept list) alive) (length (entries_kept list)) (λ key. (rows key).firm) (firm_below list)
  pub version : (key : RowKey) → (rows key).version ≡ last_up_to (on_row (entries_kept list) key) (length (entries_kept list))

pub record IsTied (alive : ℕ → Bool) (list : List Kept) (of_editor : List ℕ → ℕ) (of_row : RowKey → RowTops) : Type 0 where
  pub live : IsChain (by_editor (entries_kept list)) alive (length (entries_kept list)) of_editor (live_below list)
  pub rows : AreRowsTied alive list of_row

-- the live numbers without one that is taken back
abbrev pub is_live_but : List Entry → ℕ → ℕ → Bool
is_live_but entries taken number = is_live entries number && not (taken == number)

-- ---- as they are found

-- the tests of two keys
abbrev pub same_row : RowKey → RowKey → Bool
same_row key other = nat_eq key.0 other.0 && nat_eq key.1 other.1

abbrev pub row_tops : {T : Type 0} → IndexMap RowKey RowTops T → RowKey → RowTops
row_tops rows key = option_map_or (λ (tops : RowTops). tops) (get same_row rows key) (record { version = 0; firm = 0 })

abbrev pub live_top : {S : Type 0} → IndexMap (List ℕ) ℕ S → List ℕ → ℕ
live_top live editor = option_map_or (λ number. number) (get bytes_eq live editor) 0

-- ---- where another entry comes

-- an entry as it is kept, with the numbers below it
abbrev pub kept_new : NewEntry → ℕ → ℕ → Kept
kept_new new live firm = record { entry = new; live_below = live; firm_below = firm }

-- the last numbers on its row once it has this number
abbrev pub tops_noted : NewEntry → ℕ → RowTops → RowTops
tops_noted new number tops = record { version = number; firm = if new.deletes || is_none new.takes then number else tops.firm }

-- no entry takes a number beyond the list
abbrev pub TakeWithin : List Entry → Type 0
TakeWithin entries = All (λ (e : Entry). IfSome e.takes (λ number. number ≤ length entries)) entries

abbrev pub IsKept : {S T : Type 0} → List Kept → IndexMap (List ℕ) ℕ S → IndexMap RowKey RowTops T → Type 0
IsKept list live rows = IsTied (is_live (entries_kept list)) list (live_top live) (row_tops rows) × TakeWithin (entries_kept list)
