-- The rows of a table by their numbers, and when they have the same texts.
use Rattle.std.specs.Prelude.{ℕ, Bool, List, [], map, slice_index_or}
use Rattle.std.specs.Str.{bytes_eq}
use Rattle.std.specs.Cmp.Lexicographic.{pointwise}

abbrev pub Row : Type 0
Row = List (List ℕ)

abbrev pub row_at : List Row → ℕ → Row
row_at rows r = slice_index_or rows r []

-- the texts of a row at attributes
abbrev pub texts : Row → List ℕ → List (List ℕ)
texts row x = map (λ attr. slice_index_or row attr []) x

-- two rows have the same texts at attributes
abbrev pub agree : List Row → List ℕ → ℕ → ℕ → Bool
agree rows x r s = pointwise bytes_eq (texts (row_at rows r) x) (texts (row_at rows s) x)
