-- The values of a tuple at attributes. A tuple is a list of values, and an attribute is a place in it.
use Rattle.std.specs.Prelude.{ℕ, Bool, List, [], ◌∷◌, map, Option, Some, None, slice_get}
use Rattle.std.specs.Cmp.Lexicographic.{pointwise}

-- f of two values, where both are there.
abbrev pub with_both : {A B C : Type 0} → (A → B → C) → Option A → Option B → Option C
with_both f None other = None
with_both f (Some a) None = None
with_both f (Some a) (Some b) = Some (f a b)

-- t[X], for a list X of attributes, where the tuple has each of them.
abbrev pub values_at : {V : Type 0} → List V → List ℕ → Option (List V)
values_at tuple [] = Some []
values_at tuple (attribute ∷ x) = with_both (λ value values. value ∷ values) (slice_get tuple attribute) (values_at tuple x)

-- The same values, place by place.
abbrev pub same_values : {V : Type 0} → (V → V → Bool) → List V → List V → Bool
same_values eq = pointwise eq

-- The tuples of rows; a row is an id and a tuple.
abbrev pub tuples_of : {V : Type 0} → List (ℕ × List V) → List (List V)
tuples_of rows = map (λ row. row.1) rows
