-- How the checker's walk keeps the path of the present node. No meaning of a tree rests on it.
use Rattle.std.specs.Prelude.{◌≡◌, ℕ, ◌+◌, ◌≤◌, Bool, false, List, [], ◌∷◌, length, Option, None, is_none, slice_index_or, if◌then◌else◌}
use Rattle.std.specs.List.{count_by}
use Rattle.case_tree.specs.declared.clauses.Literal.{Literal}
use Rattle.case_tree.specs.CaseTree.{value_on}

-- A number of variables, and a path.
pub record Way : Type 0 where
  pub vars : ℕ
  pub path : List Literal

-- No variable stands twice on the path.
abbrev pub IsApart : List Literal → Type 0
IsApart [] = Unit {0}
IsApart (literal ∷ above) = (value_on above literal.var ≡ None) × IsApart above

-- `values` has the value that the path gives to each variable, and there is room for a path over all of them.
pub record IsTrail (values : List (Option Bool)) (path : List Literal) (room : ℕ) : Type 0 where
  pub values_are : (v : ℕ) → slice_index_or values v None ≡ value_on path v
  pub apart : IsApart path
  pub counted : length path + count_by is_none values ≡ length values
  pub has_room : length values ≤ room

-- The path of the subtree after the one that `path` leads to.
abbrev pub next_path : List Literal → List Literal
next_path [] = []
next_path (last ∷ above) =
    if last.positive then (record { var = last.var; positive = false } ∷ above) else next_path above
