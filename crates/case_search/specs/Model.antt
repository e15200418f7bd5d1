-- The assignment of a path.
use Rattle.std.specs.Prelude.{ℕ, Bool, true, false, List, Option, Some, None, map}
use Rattle.std.specs.List.{range_with_len}
use Rattle.case_tree.specs.declared.clauses.Literal.{Literal}
use Rattle.case_tree.specs.CaseTree.{value_on}

-- Exactly the variables are true that the path makes true.
abbrev pub is_true : Option Bool → Bool
is_true (Some true) = true
is_true (Some false) = false
is_true None = false

abbrev pub value_by : List Literal → ℕ → Bool
value_by path v = is_true (value_on path v)

-- The values of the first n variables.
abbrev pub values_of : List Literal → ℕ → List Bool
values_of path n = map (value_by path) (range_with_len 0 n)
