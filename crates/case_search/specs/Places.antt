-- Lists of clauses, one for each literal.
use Rattle.std.specs.Prelude.{ℕ, not, List, [], map, length, cond, slice_index_or}
use Rattle.std.specs.declared.vec.Vec.{Vec}
use Rattle.std.specs.declared.alloc.Global.{Global}
use Rattle.case_tree.specs.declared.clauses.Literal.{Literal}

-- Each list as its elements.
abbrev pub lists_of : List (Vec ℕ Global) → List (List ℕ)
lists_of lists = map (λ (list : Vec ℕ Global). list.items) lists

-- The list of a variable, or an empty one where there is no such variable.
abbrev pub list_at : List (List ℕ) → ℕ → List ℕ
list_at lists v = slice_index_or lists v []

-- The literal of the same variable with the other sign.
abbrev pub opposite_of : Literal → Literal
opposite_of literal = record { var = literal.var; positive = not literal.positive }

-- Lists for the positive and for the negative literals, by their variables.
pub record ByLiteral : Type 0 where
  pub positive : List (List ℕ)
  pub negative : List (List ℕ)

-- The number of variables.
abbrev pub vars_of : ByLiteral → ℕ
vars_of places = length places.positive

-- The list of a literal.
abbrev pub list_of : ByLiteral → Literal → List ℕ
list_of places literal = list_at (cond literal.positive places.positive places.negative) literal.var
