-- The dependencies that are found in a table: the least ones that its rows satisfy.
--
-- A candidate has some attributes X and an attribute A outside X. A plain one says that rows with the same texts at X have
-- the same text at A. A constant one is of a row, whose texts at X and A are its constants: rows with these texts at X have
-- this text at A. Constants are short, and enough rows have those of X.
use Rattle.std.specs.Prelude.{ℕ, zero, suc, ◌+◌, ◌&&◌, ◌||◌, Bool, not, List, [], ◌∷◌, ◌++◌, map, length, nat_le, nat_lt, nat_eq, if◌then◌else◌, Option, None, Some, slice_index_or, IsPermutation, IsSorted}
use Rattle.std.specs.List.{list_all, list_any}
use Rattle.std.specs.Option.{option_map, option_cmp}
use Rattle.std.specs.Ordering.{ordering_then, nat_cmp}
use Rattle.std.specs.declared.cmp.Ordering.{Ordering}
use Rattle.std.specs.Cmp.Lexicographic.{slice_cmp}
use Rattle.dep_search.specs.Counting.{gathered, every, tally}
use Rattle.dep_search.specs.Rows.{Row, row_at, texts, agree}
use Rattle.dep_search.specs.declared.candidate.Candidate.{Candidate}

-- ---- what rows satisfy

-- each row that agrees with this one on X agrees with it on A
unfoldable pub settles : List Row → List ℕ → ℕ → ℕ → Bool
settles rows x a r = every (λ s. not (agree rows x r s) || agree rows (a ∷ []) r s) (length rows)

-- any two rows that agree on X agree on A
unfoldable pub determines : List Row → List ℕ → ℕ → Bool
determines rows x a = every (settles rows x a) (length rows)

-- the lists that are left where one or more members are taken away
abbrev pub proper_parts : List ℕ → List (List ℕ)
proper_parts [] = []
proper_parts (attr ∷ x) = proper_parts x ++ (map (λ part. attr ∷ part) (proper_parts x) ++ x ∷ [])

-- X determines A, and no less does
unfoldable pub is_plain : List Row → List ℕ → ℕ → Bool
is_plain rows x a = determines rows x a && not (list_any (λ part. determines rows part a) (proper_parts x))

-- no row above has the same texts at X
unfoldable pub is_first : List Row → List ℕ → ℕ → Bool
is_first rows x r = every (λ s. not (agree rows x s r)) r

-- so many rows have the texts of this one at X
unfoldable pub has_support : List Row → ℕ → List ℕ → ℕ → Bool
has_support rows support x r = nat_le support (tally (λ s. agree rows x r s) (length rows))

-- the texts of a row may be constants
unfoldable pub is_short : List Row → List ℕ → ℕ → Bool
is_short rows attrs r = list_all (λ attr. nat_le (length (slice_index_or (row_at rows r) attr [])) 1024) attrs

-- the row is the first with its texts at X, they may be constants and have support; they settle A, and no fewer do
unfoldable pub is_constant : List Row → ℕ → List ℕ → ℕ → ℕ → Bool
is_constant rows support x a r =
    is_first rows x r && has_support rows support x r && is_short rows (a ∷ []) r && is_short rows x r && settles rows x a r
    && not (list_any (λ part. settles rows part a r) (proper_parts x))

-- ---- all of them

-- ---- left sides

-- the lists of attributes that have one more behind those of a list
unfoldable pub longer : ℕ → List ℕ → List (List ℕ)
longer attrs x = gathered (λ attr. if list_all (λ before. nat_lt before attr) x then (x ++ attr ∷ []) ∷ [] else []) attrs

abbrev pub all_longer : ℕ → List (List ℕ) → List (List ℕ)
all_longer attrs sides = gathered (λ n. longer attrs (slice_index_or sides n [])) (length sides)

-- each list of so many attributes that rise, in the order of the lists
abbrev pub sides_of_size : ℕ → ℕ → List (List ℕ)
sides_of_size attrs zero = [] ∷ []
sides_of_size attrs (suc size) = all_longer attrs (sides_of_size attrs size)

-- the lists of at most so many attributes: by how many, then in their order
unfoldable pub left_sides : ℕ → ℕ → List (List ℕ)
left_sides attrs width = gathered (sides_of_size attrs) (width + 1)

-- ---- all that are found

-- X by its number
abbrev pub side_at : List (List ℕ) → ℕ → List ℕ
side_at sides side = slice_index_or sides side []

unfoldable pub plain_at : List Row → ℕ → List ℕ → ℕ → List Candidate
plain_at rows side x a = if is_plain rows x a then record { a = a; side = side; row = None } ∷ [] else []

unfoldable pub constant_at : List Row → ℕ → ℕ → List ℕ → ℕ → ℕ → List Candidate
constant_at rows support side x a r = if is_constant rows support x a r then record { a = a; side = side; row = Some r } ∷ [] else []

abbrev pub constants_at : List Row → ℕ → ℕ → List ℕ → ℕ → List Candidate
constants_at rows support side x a = gathered (constant_at rows support side x a) (length rows)

unfoldable pub found_at : List Row → ℕ → ℕ → List ℕ → ℕ → List Candidate
found_at rows support side x a = if list_any (nat_eq a) x then [] else plain_at rows side x a ++ constants_at rows support side x a

unfoldable pub found_on : List Row → ℕ → ℕ → ℕ → List ℕ → List Candidate
found_on rows support attrs side x = gathered (found_at rows support side x) attrs

-- all that are found, in no order that matters
unfoldable pub all_found : List Row → ℕ → ℕ → List (List ℕ) → List Candidate
all_found rows support attrs sides = gathered (λ side. found_on rows support attrs side (side_at sides side)) (length sides)

-- the constants of X, where there are any
abbrev pub constants : List Row → List (List ℕ) → Candidate → Option (List (List ℕ))
constants rows sides c = option_map (λ r. texts (row_at rows r) (side_at sides c.side)) c.row

-- The order: by A; then by X, which has its number by its size and then as a list; a plain one before constant ones, and
-- these by the texts of X, place by place in byte order.
abbrev pub order : List Row → List (List ℕ) → Candidate → Candidate → Ordering
order rows sides c d =
    ordering_then (ordering_then (nat_cmp c.a d.a) (nat_cmp c.side d.side))
    (option_cmp (slice_cmp (slice_cmp nat_cmp)) (constants rows sides c) (constants rows sides d))

-- the same candidates in their order
pub record IsInOrder (rows : List Row) (sides : List (List ℕ)) (found list : List Candidate) : Type 0 where
  pub all : IsPermutation found list
  pub sorted : IsSorted (order rows sides) list

-- what is found in a table, in order
abbrev pub IsFound : List Row → ℕ → ℕ → ℕ → List Candidate → Type 0
IsFound rows attrs width support list =
    let sides = left_sides attrs width in IsInOrder rows sides (all_found rows support attrs sides) list
