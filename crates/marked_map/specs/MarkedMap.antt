-- What a map holds: pairs of a key and a value in a list, of which the first ones are marked.
use Rattle.std.specs.Prelude.{◌≡◌, ◌≢◌, ℕ, ◌+◌, ◌-◌, ◌<◌, ◌≤◌, ◌++◌, [], ◌∷◌, ◌↔◌, ◌⊎◌, Bool, true, false, List, Some, length, slice_get, swap, swap_remove}
use Rattle.std.specs.Map.{keys_of}

-- the pairs, each at its place, and how many of them are marked: those that come first
pub record MarkedPairs (K V : Type 0) : Type 0 where
  pub pairs : List (K × V)
  pub marked : ℕ

module _ {K V : Type 0} where
  -- m once the unmarked pair at the place is marked: it changes places with the first unmarked pair
  abbrev pub with_mark : MarkedPairs K V → ℕ → MarkedPairs K V
  with_mark m place = record { pairs = swap m.pairs place m.marked; marked = m.marked + 1 }

  -- m once the marked pair at the place is not marked any more: it changes places with the last marked pair
  abbrev pub without_mark : MarkedPairs K V → ℕ → MarkedPairs K V
  without_mark m place = record { pairs = swap m.pairs place (m.marked - 1); marked = m.marked - 1 }

  -- m once the unmarked pair at the place is taken away: the last pair takes its place
  abbrev pub without_pair : MarkedPairs K V → ℕ → K × V → MarkedPairs K V
  without_pair m place pair = record { pairs = swap_remove m.pairs place pair; marked = m.marked }

  -- the pair is there, and marked
  abbrev pub IsMarked : MarkedPairs K V → K × V → Type 0
  IsMarked m pair = (place : ℕ) × (place < m.marked) × (slice_get m.pairs place ≡ Some pair)

  -- the pair is there, and not marked
  abbrev pub IsUnmarked : MarkedPairs K V → K × V → Type 0
  IsUnmarked m pair = (place : ℕ) × (m.marked ≤ place) × (slice_get m.pairs place ≡ Some pair)

  -- every pair but the one that stood at the place is still there, with its value and its mark, and no other pair came in
  pub record KeepsOthers (old : MarkedPairs K V) (place : ℕ) (new : MarkedPairs K V) : Type 0 where
    pub marked : (pair : K × V) → slice_get old.pairs place ≢ Some pair → IsMarked old pair ↔ IsMarked new pair
    pub unmarked : (pair : K × V) → slice_get old.pairs place ≢ Some pair → IsUnmarked old pair ↔ IsUnmarked new pair

  -- `same` is the keys' own `==`
  module _ (same : K → K → Bool) where
    -- the key stands at the place
    abbrev pub HasKey : MarkedPairs K V → K → ℕ → Type 0
    HasKey m key place = (stored : K) × (slice_get (keys_of m.pairs) place ≡ Some stored) × (same key stored ≡ true)

    -- no key is equal to this one
    abbrev pub IsAbsent : MarkedPairs K V → K → Type 0
    IsAbsent m key = (place : ℕ) (stored : K) → slice_get (keys_of m.pairs) place ≡ Some stored → same key stored ≡ false

    -- equal keys stand at one place
    abbrev pub HaveDistinctKeys : MarkedPairs K V → Type 0
    HaveDistinctKeys m = (place other : ℕ) (key stored : K) → slice_get (keys_of m.pairs) place ≡ Some key
        → slice_get (keys_of m.pairs) other ≡ Some stored → same key stored ≡ true → place ≡ other

    -- a key that is there keeps its pair, and a new one comes in last, unmarked, with the fresh value
    abbrev pub Enters : MarkedPairs K V → K → V → ℕ → MarkedPairs K V → Type 0
    Enters old key fresh place new =
        (HasKey old key place × (new ≡ old))
        ⊎ (IsAbsent old key × (place ≡ length old.pairs) × (new ≡ record { pairs = old.pairs ++ (key, fresh) ∷ []; marked = old.marked }))
