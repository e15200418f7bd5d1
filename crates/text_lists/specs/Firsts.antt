-- The first of several tests that finds something.
use Rattle.std.specs.Prelude.{List, [], ◌∷◌, map, Option, None}
use Rattle.std.specs.Option.{option_or}

-- the first that several tests find, in their order
abbrev pub first_of : {X : Type 0} → List (Option X) → Option X
first_of [] = None
first_of (test ∷ tests) = option_or test (first_of tests)

-- the first that a test finds, going through a list
abbrev pub first_in : {X Y : Type 0} → (X → Option Y) → List X → Option Y
first_in test xs = first_of (map test xs)
