-- When a value matches a cell of a pattern tableau.
-- After Fan and Geerts, Foundations of Data Quality Management (2012), conditional functional dependencies, with the
-- sets and complements of extended CFDs. `eq` is the test of equality on the values.
use Rattle.std.specs.Prelude.{Bool, true, false, not, List}
use Rattle.std.specs.List.{list_any}
use Rattle.std.specs.Cmp.Lexicographic.{pointwise}
use Rattle.cfd_semantics.specs.declared.pattern.Pattern.{Pattern}
use Rattle.cfd_semantics.specs.declared.pattern.Pattern.TheVariants.{Any, Is, In, NotIn}

-- Every value matches `_`; a value matches a constant that it equals, a set that it is in, and the complement of a set
-- that it isn't in.
abbrev pub matches : {V : Type 0} → (V → V → Bool) → Pattern V → V → Bool
matches eq Any value = true
matches eq (Is constant) value = eq constant value
matches eq (In members) value = list_any (λ member. eq member value) members
matches eq (NotIn members) value = not (list_any (λ member. eq member value) members)

-- Values match cells place by place, and are as many.
abbrev pub all_match : {V : Type 0} → (V → V → Bool) → List (Pattern V) → List V → Bool
all_match eq = pointwise (matches eq)

-- a cell is a set or the complement of one
abbrev pub is_set : {V : Type 0} → Pattern V → Bool
is_set Any = false
is_set (Is constant) = false
is_set (In members) = true
is_set (NotIn members) = true
