-- What the values of a column show: whether it is a key, and its domain where it has few values.
use Rattle.std.specs.Prelude.{ℕ, Bool, ◌&&◌, List, [], ◌∷◌, ◌++◌, length, map, nat_le, slice_index_or, if◌then◌else◌, is_none, Option, Some, None}
use Rattle.std.specs.List.{list_all}
use Rattle.std.specs.Str.{bytes_eq}
use Rattle.text_lists.specs.Repeats.{first_repeated, is_among}
use Rattle.text_lists.specs.declared.bounds.TheConstants.{CONSTANT_BYTES}
use Rattle.schema_draft.specs.declared.columns.TheConstants.{FEW}

-- the values of the column at a place
abbrev pub column_of : List (List (List ℕ)) → ℕ → List (List ℕ)
column_of rows place = map (λ row. slice_index_or row place []) rows

-- no value stands twice, and there are at least two rows
abbrev pub is_key : List (List ℕ) → Bool
is_key values = is_none (first_repeated bytes_eq values) && nat_le 2 (length values)

-- the values that are none of those before, each where it stands first
abbrev pub new_values : List (List ℕ) → List (List ℕ) → List (List ℕ)
new_values before [] = []
new_values before (value ∷ values) =
    if is_among bytes_eq before value then new_values before values
    else value ∷ new_values (before ++ value ∷ []) values

-- the distinct values in the order in which they stand first
abbrev pub distinct_values : List (List ℕ) → List (List ℕ)
distinct_values values = new_values [] values

abbrev pub are_constants : List (List ℕ) → Bool
are_constants values = list_all (λ (value : List ℕ). nat_le (length value) CONSTANT_BYTES) values

-- some, and so few and so short that a domain may list them
abbrev pub are_few : List (List ℕ) → Bool
are_few values = nat_le 1 (length values) && nat_le (length values) FEW && are_constants values

-- the distinct values of a column that has few
abbrev pub few_values : List (List ℕ) → Option (List (List ℕ))
few_values values = if are_few (distinct_values values) then Some (distinct_values values) else None
