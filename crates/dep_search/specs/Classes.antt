-- The rows that agree, as classes: the leader of each row, and the next row that its leader leads.
use Rattle.std.specs.Prelude.{◌≡◌, ◌≢◌, ℕ, ◌+◌, ◌<◌, ◌≤◌, Bool, true, false, ◌||◌, not, List, length, slice_index, slice_index_or, nat_eq}
use Rattle.dep_search.specs.Counting.{every}

-- the first place from one on that this one leads, or the place behind all
pub record IsFrom (leaders : List ℕ) (first from place : ℕ) : Type 0 where
  pub after : from ≤ place
  pub within : place ≤ length leaders
  pub same : place < length leaders → slice_index leaders place ≡ first
  pub none : (t : ℕ) → from ≤ t → t < place → slice_index leaders t ≢ first

-- each place has the next one with its leader
pub record AreNexts (leaders nexts : List ℕ) : Type 0 where
  pub long : length nexts ≡ length leaders
  pub each : (r : ℕ) → r < length leaders → IsFrom leaders (slice_index leaders r) (r + 1) (slice_index nexts r)

-- a leader leads itself and stands first, and the places that it leads can be gone through
pub record AreClasses (leaders nexts : List ℕ) : Type 0 where
  pub below : (r : ℕ) → r < length leaders → slice_index leaders r ≤ r
  pub own : (r : ℕ) → r < length leaders → slice_index leaders (slice_index leaders r) ≡ slice_index leaders r
  pub steps : AreNexts leaders nexts

-- all that a place leads have its id
abbrev pub is_alike : List ℕ → List ℕ → ℕ → Bool
is_alike leaders ids first = every (λ s. not (nat_eq (slice_index leaders s) first) || nat_eq (slice_index ids s) (slice_index ids first)) (length leaders)

-- each place has the id of its leader
abbrev pub are_alike : List ℕ → List ℕ → Bool
are_alike leaders ids = every (λ r. nat_eq (slice_index ids r) (slice_index ids (slice_index leaders r))) (length leaders)

-- what the leader leads is marked, and the rest is as it was
pub record IsMarked (leaders : List ℕ) (first : ℕ) (old new : List Bool) : Type 0 where
  pub long : length new ≡ length old
  pub marked : (r : ℕ) → r < length leaders → slice_index leaders r ≡ first → slice_index_or new r false ≡ true
  pub others : (r : ℕ) → r < length leaders → slice_index leaders r ≢ first → slice_index_or new r false ≡ slice_index_or old r false

-- The slot of a place: what its leader begins with, and its id. Slots may be any numbers, so two pairs may have one.
abbrev pub slot : List ℕ → List ℕ → List ℕ → ℕ → ℕ
slot ids leaders bases r = slice_index bases (slice_index leaders r) + slice_index ids r

-- each slot of the places so far is marked, and what marks it is the first place with its pair
pub record AreSlots (ids leaders bases marks : List ℕ) (r : ℕ) : Type 0 where
  pub long : length marks ≡ length ids
  pub seen : (s : ℕ) → s < r → slice_index marks (slot ids leaders bases s) < length ids
  pub below : (t : ℕ) → t < length ids → slice_index marks t < length ids → slice_index marks t < r
  pub least : (t s : ℕ) → t < length ids → slice_index marks t < length ids → s < slice_index marks t
      → slice_index ids s ≡ slice_index ids (slice_index marks t) → slice_index leaders s ≢ slice_index leaders (slice_index marks t)

-- Each id was last seen at a place, if it was: the first one that has this id under its leader.
pub record AreMarks (leaders ids marks : List ℕ) : Type 0 where
  pub long : length marks ≡ length ids
  pub id : (id : ℕ) → id < length ids → slice_index marks id < length ids → slice_index ids (slice_index marks id) ≡ id
  pub least : (id s : ℕ) → id < length ids → slice_index marks id < length ids → s < slice_index marks id
      → slice_index leaders s ≡ slice_index leaders (slice_index marks id) → slice_index ids s ≢ id

-- the ids that this one leads below a place were last seen under it
abbrev pub AreSeenBelow : List ℕ → List ℕ → List ℕ → ℕ → ℕ → Type 0
AreSeenBelow leaders ids marks first r =
    (s : ℕ) → s < r → slice_index leaders s ≡ first
    → (slice_index marks (slice_index ids s) < length ids) × (slice_index leaders (slice_index marks (slice_index ids s)) ≡ first)
