-- Items by their sizes.
use Rattle.std.specs.Prelude.{◌≡◌, ℕ, ◌≤◌, ◌==◌, List, filter}
use Rattle.std.specs.List.{AllPairs}

-- The same items by their sizes; those of one size stand as they stood.
pub record IsArranged {T : Type 0} (InOrder : ℕ → ℕ → Type 0) (size : T → ℕ) (before after : List T) : Type 0 where
  pub ordered : AllPairs (λ item later. InOrder (size item) (size later)) after
  pub each : (n : ℕ) → filter (λ item. size item == n) after ≡ filter (λ item. size item == n) before

abbrev pub IsRarestFirst : {T : Type 0} → (T → ℕ) → List T → List T → Type 0
IsRarestFirst = IsArranged (λ size later. size ≤ later)

abbrev pub IsLargestFirst : {T : Type 0} → (T → ℕ) → List T → List T → Type 0
IsLargestFirst = IsArranged (λ size later. later ≤ size)
