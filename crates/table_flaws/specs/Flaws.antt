-- What is odd in the rows of a table, whatever its rules say. Rows are told by their numbers, which begin with 1: these
-- are their ids, and the numbers of their records.
use Rattle.std.specs.Prelude.{ℕ, zero, suc, ◌+◌, ◌-◌, Bool, ◌&&◌, not, List, [], ◌∷◌, ◌++◌, length, take, drop, map, nat_le, count_by, if◌then◌else◌, ◌==◌}
use Rattle.std.specs.Char.{is_ascii_whitespace}
use Rattle.std.specs.Cmp.Lexicographic.{pointwise}
use Rattle.std.specs.List.{prefix_len, suffix_len}
use Rattle.std.specs.Str.{bytes_eq}
use Rattle.schema_draft.specs.Columns.{column_of}
use Rattle.text_lists.specs.Repeats.{is_among}
use Rattle.table_flaws.specs.declared.columns.TheConstants.{MOST_LINES}
use Rattle.table_flaws.specs.declared.flaws.Flaw.{Flaw}
use Rattle.table_flaws.specs.declared.flaws.Flaw.TheVariants.{Long, Repeated, Spaced}

-- the numbers of those that pass a test, the first being counted as that number
abbrev pub passing : {X : Type 0} → (X → Bool) → ℕ → List X → List ℕ
passing test number [] = []
passing test number (x ∷ xs) = if test x then number ∷ passing test (number + 1) xs else passing test (number + 1) xs

-- ---- values

-- it runs over more lines than that: each line feed begins one more
abbrev pub is_long : List ℕ → Bool
is_long value = nat_le MOST_LINES (count_by (λ b. b == 10) value)

abbrev pub long_rows : List (List ℕ) → List ℕ
long_rows values = passing is_long 1 values

-- without the blanks at both ends
abbrev pub without_front : List ℕ → List ℕ
without_front value = drop (prefix_len is_ascii_whitespace value) value

abbrev pub without_back : List ℕ → List ℕ
without_back value = take (length value - suffix_len is_ascii_whitespace value) value

abbrev pub trimmed : List ℕ → List ℕ
trimmed value = without_back (without_front value)

-- it has blanks at an end, and one of these is the value without them
abbrev pub is_spaced : List (List ℕ) → List ℕ → Bool
is_spaced values value = not (bytes_eq (trimmed value) value) && is_among bytes_eq values (trimmed value)

abbrev pub spaced_rows : List (List ℕ) → List ℕ
spaced_rows values = passing (is_spaced values) 1 values

-- ---- rows

abbrev pub same_row : List (List ℕ) → List (List ℕ) → Bool
same_row = pointwise bytes_eq

-- the numbers of those that are equal to one before them
abbrev pub repeated_behind : List (List (List ℕ)) → List (List (List ℕ)) → List ℕ
repeated_behind before [] = []
repeated_behind before (row ∷ rows) =
    if is_among same_row before row then (length before + 1) ∷ repeated_behind (before ++ row ∷ []) rows
    else repeated_behind (before ++ row ∷ []) rows

abbrev pub repeated_rows : List (List (List ℕ)) → List ℕ
repeated_rows rows = repeated_behind [] rows

-- ---- all together

-- what is odd in a column
abbrev pub column_flaws : ℕ → List (List ℕ) → List Flaw
column_flaws attr values = map (λ row. Long attr row) (long_rows values) ++ map (λ row. Spaced attr row) (spaced_rows values)

-- in the first columns, so many
abbrev pub columns_flaws : List (List (List ℕ)) → ℕ → List Flaw
columns_flaws rows zero = []
columns_flaws rows (suc attr) = columns_flaws rows attr ++ column_flaws attr (column_of rows attr)

-- in a table of that many columns
abbrev pub flaws_of : ℕ → List (List (List ℕ)) → List Flaw
flaws_of width rows = columns_flaws rows width ++ map (λ row. Repeated row) (repeated_rows rows)
