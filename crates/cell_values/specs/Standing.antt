-- Which value of an attribute a text counts as, and what truth values say of a text.
use Rattle.std.specs.Prelude.{◌≡◌, ℕ, ◌+◌, ◌<◌, Bool, not, nat_lt, if◌then◌else◌, List, [], length, take, find, Option, slice_index_or}
use Rattle.std.specs.List.{range_with_len}
use Rattle.std.specs.Str.{bytes_eq}
use Rattle.text_lists.specs.Repeats.{is_among}
use Rattle.cell_values.specs.declared.values.CellValues.{CellValues}

-- A text counts as the constant that it is. Every text that is no constant counts as the other-value, where there is one.
abbrev pub counts_as : CellValues → List ℕ → ℕ → Bool
counts_as cell text place =
    if nat_lt place cell.constants then bytes_eq (slice_index_or cell.values place []) text
    else not (is_among bytes_eq (take cell.constants cell.values) text)

-- The variables from `first` on say which value the text counts as.
abbrev pub Agrees : (ℕ → Bool) → ℕ → CellValues → List ℕ → Type 0
Agrees truth first cell text = (place : ℕ) → place < length cell.values → truth (first + place) ≡ counts_as cell text place

-- the first of so many values whose variable is true
abbrev pub chosen : (ℕ → Bool) → ℕ → ℕ → Option ℕ
chosen truth first count = find (λ place. truth (first + place)) (range_with_len 0 count)
