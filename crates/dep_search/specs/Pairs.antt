-- Pairs of rows that agree.
use Rattle.std.specs.Prelude.{◌≡◌, ℕ, ◌<◌, Bool, true, false, ◌&&◌, not, List, [], ◌∷◌, length, All, slice_index, slice_index_or, slice_get, nat_eq, Some, if◌then◌else◌}
use Rattle.std.specs.List.{list_any, flat_map}
use Rattle.dep_search.specs.Rows.{Row, agree}
use Rattle.dep_search.specs.Found.{determines}
use Rattle.dep_search.specs.declared.table.Table.{Table}
use Rattle.dep_search.specs.declared.pairs.Pair.{Pair}
use Rattle.dep_search.specs.declared.pairs.Pairs.{Pairs}
use Rattle.dep_search.specs.declared.samples.Sample.{Sample}
use Rattle.dep_search.specs.declared.ahead.Parts.{Parts}

-- two rows are one of the pairs
abbrev pub is_among : List Pair → ℕ → ℕ → Bool
is_among pairs r s = list_any (λ (pair : Pair). nat_eq pair.one r && nat_eq pair.other s) pairs

-- both are below a bound
abbrev pub IsBelow : ℕ → Pair → Type 0
IsBelow rows pair = (pair.one < rows) × (pair.other < rows)

-- ---- by classes

-- one leader leads both
pub record IsLed (leaders : List ℕ) (pair : Pair) : Type 0 where
  pub below : IsBelow (length leaders) pair
  pub same : slice_index leaders pair.one ≡ slice_index leaders pair.other

-- a place makes a pair with each behind it that has its leader
abbrev pub HasBehind : List ℕ → List Pair → ℕ → Type 0
HasBehind leaders pairs r = (s : ℕ) → r < s → s < length leaders → slice_index leaders s ≡ slice_index leaders r → is_among pairs r s ≡ true

-- what is among some pairs is among others too
abbrev pub AreKept : List Pair → List Pair → Type 0
AreKept old new = (r s : ℕ) → is_among old r s ≡ true → is_among new r s ≡ true

-- ---- by rows

-- two rows that agree on X
pub record IsPair (rows : List Row) (x : List ℕ) (pair : Pair) : Type 0 where
  pub below : IsBelow (length rows) pair
  pub same : agree rows x pair.one pair.other ≡ true

-- each two rows that agree on X are one of the pairs
abbrev pub HasAll : List Row → List ℕ → List Pair → Type 0
HasAll rows x pairs = (r s : ℕ) → r < s → s < length rows → agree rows x r s ≡ true → is_among pairs r s ≡ true

-- pairs of rows that agree on an attribute, and all such pairs if they are said to be whole
pub record ArePairs (table : Table) (pairs : Pairs) : Type 0 where
  pub attr : pairs.attr < length table.columns.now
  pub each : All (IsPair table.rows.now (pairs.attr ∷ [])) pairs.list
  pub whole : pairs.whole ≡ true → HasAll table.rows.now (pairs.attr ∷ []) pairs.list

-- the pairs that have one id
abbrev pub same_of : List ℕ → List Pair → List Pair
same_of ids pairs = flat_map (λ (pair : Pair). if nat_eq (slice_index ids pair.one) (slice_index ids pair.other) then pair ∷ [] else []) pairs

-- one of the pairs has two ids
abbrev pub is_apart : List ℕ → List Pair → Bool
is_apart ids pairs = list_any (λ (pair : Pair). not (nat_eq (slice_index ids pair.one) (slice_index ids pair.other))) pairs

-- the same of two attributes; and which attributes they are known not to determine
pub record IsSample (table : Table) (sample : Sample) : Type 0 where
  pub each : All (IsPair table.rows.now (sample.one ∷ sample.other ∷ [])) sample.list
  pub whole : sample.whole ≡ true → HasAll table.rows.now (sample.one ∷ sample.other ∷ []) sample.list
  pub apart : (a : ℕ) → slice_index_or sample.apart a false ≡ true → determines table.rows.now (sample.one ∷ sample.other ∷ []) a ≡ false

-- one of some samples, of these attributes
pub record IsSampleOf (samples : List Sample) (one other : ℕ) (sample : Sample) : Type 0 where
  pub among : (place : ℕ) × (slice_get samples place ≡ Some sample)
  pub one_is : sample.one ≡ one
  pub other_is : sample.other ≡ other

-- samples of all that are left of a left side of three attributes where one is taken away
pub record AreParts (table : Table) (x : List ℕ) (parts : Parts) : Type 0 where
  pub front : IsSample table parts.front.now
  pub ends : IsSample table parts.ends.now
  pub back : IsSample table parts.back.now
  pub attrs : x ≡ parts.front.now.one ∷ parts.front.now.other ∷ parts.back.now.other ∷ []
  pub first : parts.ends.now.one ≡ parts.front.now.one
  pub middle : parts.back.now.one ≡ parts.front.now.other
  pub last : parts.ends.now.other ≡ parts.back.now.other
