-- What a clause says of a cell, in variables of which each says that the tuple has one of the values.
use Rattle.std.specs.Prelude.{ℕ, ◌+◌, Bool, true, false, not, if◌then◌else◌, List, [], ◌∷◌}
use Rattle.std.specs.Str.{bytes_eq}
use Rattle.cfd_semantics.specs.declared.pattern.Pattern.{Pattern}
use Rattle.cfd_semantics.specs.declared.pattern.Pattern.TheVariants.{Any, Is, In, NotIn}
use Rattle.cfd_semantics.specs.Pattern.{matches}
use Rattle.case_tree.specs.declared.clauses.Literal.{Literal}

-- the literals of this sign for the values that pass a test, in order; the variable of the first value is `first`
abbrev pub literals_where : (List ℕ → Bool) → Bool → ℕ → List (List ℕ) → List Literal
literals_where test positive first [] = []
literals_where test positive first (value ∷ values) =
    let rest = literals_where test positive (first + 1) values in
    if test value then record { var = first; positive = positive } ∷ rest else rest

-- whether the text matches the cell, or whether it doesn't
abbrev pub matches_as : Bool → Pattern (List ℕ) → List ℕ → Bool
matches_as true cell text = matches bytes_eq cell text
matches_as false cell text = not (matches bytes_eq cell text)

-- The value matches the cell: it is the constant, or one of those that match.
abbrev pub meets : ℕ → List (List ℕ) → Pattern (List ℕ) → List Literal
meets first values cell = literals_where (matches_as true cell) true first values

-- The value doesn't match the cell: never for `_`; it isn't the constant; or it is one of those that don't match.
abbrev pub misses : ℕ → List (List ℕ) → Pattern (List ℕ) → List Literal
misses first values Any = []
misses first values (Is constant) = literals_where (bytes_eq constant) false first values
misses first values (In members) = literals_where (matches_as false (In members)) true first values
misses first values (NotIn members) = literals_where (matches_as false (NotIn members)) true first values
