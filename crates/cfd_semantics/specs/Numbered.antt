-- What the rows of a tableau give, with their numbers.
use Rattle.std.specs.Prelude.{ℕ, List, map, flat_map}
use Rattle.std.specs.List.{enumerate_from}

-- What each item of a list gives, one item after the other, each with the number of its item. Items are numbered from 0.
abbrev pub numbered : {T X : Type 0} → (T → List X) → List T → List (ℕ × X)
numbered gives items = flat_map (λ item. map (λ given. (item.0, given)) (gives item.1)) (enumerate_from 0 items)
