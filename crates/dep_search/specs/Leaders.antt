-- How rows are told apart by numbers.
use Rattle.std.specs.Prelude.{◌≡◌, ◌≢◌, ℕ, ◌<◌, ◌≤◌, List, [], ◌∷◌, length, slice_index, slice_index_or, nat_eq}
use Rattle.dep_search.specs.Rows.{Row, agree}

-- each row has a number, and two rows have one number exactly where they agree on X
pub record Tells (rows : List Row) (x : List ℕ) (ids : List ℕ) : Type 0 where
  pub long : length ids ≡ length rows
  pub same : (r s : ℕ) → r < length rows → s < length rows → agree rows x r s ≡ nat_eq (slice_index ids r) (slice_index ids s)

-- each row has the number of the first row that agrees with it on X
pub record AreLeaders (rows : List Row) (x : List ℕ) (leaders : List ℕ) : Type 0 where
  pub tells : Tells rows x leaders
  pub below : (r : ℕ) → r < length rows → slice_index leaders r ≤ r
  pub own : (r : ℕ) → r < length rows → slice_index leaders (slice_index leaders r) ≡ slice_index leaders r

-- the first place at which two lists have what they have at this one
pub record IsFirstPair (one other : List ℕ) (r first : ℕ) : Type 0 where
  pub below : first ≤ r
  pub one_same : slice_index one first ≡ slice_index one r
  pub other_same : slice_index other first ≡ slice_index other r
  pub least : (s : ℕ) → s < first → slice_index one s ≡ slice_index one r → slice_index other s ≢ slice_index other r

-- each place has the first such place
pub record AreFirstPairs (one other firsts : List ℕ) : Type 0 where
  pub long : length firsts ≡ length one
  pub each : (r : ℕ) → r < length one → IsFirstPair one other r (slice_index firsts r)

-- each place has a number below how many places there are
abbrev pub AreWithin : List ℕ → Type 0
AreWithin leaders = (r : ℕ) → r < length leaders → slice_index leaders r < length leaders

-- the columns of a table, each of which tells its texts apart
pub record AreColumns (rows : List Row) (attrs : ℕ) (columns : List (List ℕ)) : Type 0 where
  pub many : length columns ≡ attrs
  pub each : (attr : ℕ) → attr < attrs → Tells rows (attr ∷ []) (slice_index_or columns attr [])
  pub within : (attr : ℕ) → attr < attrs → AreWithin (slice_index_or columns attr [])
