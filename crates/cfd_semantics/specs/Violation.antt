-- Which rows violate a dependency X -> A, one tableau row at a time.
use Rattle.std.specs.Prelude.{ℕ, Bool, ◌&&◌, not, cond, min, List, [], ◌∷◌, map, filter, filter_map, Option, Some, None, slice_get}
use Rattle.std.specs.Option.{option_map, option_map_or}
use Rattle.cfd_semantics.specs.declared.dependency.TableauRow.{TableauRow}
use Rattle.cfd_semantics.specs.declared.dependency.Dependency.{Dependency}
use Rattle.cfd_semantics.specs.declared.violation.Violation.{Violation}
use Rattle.cfd_semantics.specs.Pattern.{matches, all_match}
use Rattle.cfd_semantics.specs.Tuple.{with_both, values_at, same_values}
use Rattle.cfd_semantics.specs.Numbered.{numbered}

-- The two sides of a dependency in a tuple: its values on X, and its value on A.
pub record Sides (V : Type 0) : Type 0 where
  pub x : List V
  pub a : V

-- A tuple has the two sides exactly where it has the attributes.
abbrev pub sides_of : {V : Type 0} → Dependency V → List V → Option (Sides V)
sides_of d tuple = with_both (λ x a. record { x = x; a = a }) (values_at tuple d.x) (slice_get tuple d.a)

-- What a row gives for a dependency: its values on X, its value on A, and its id.
pub record Entry (V : Type 0) : Type 0 where
  pub x : List V
  pub a : V
  pub row : ℕ

-- The entry of a row, which is its id and its tuple, where the tuple has the attributes.
abbrev pub entry_of : {V : Type 0} → Dependency V → (ℕ × List V) → Option (Entry V)
entry_of d row = option_map (λ sides. record { x = sides.x; a = sides.a; row = row.0 }) (sides_of d row.1)

-- The entries of the rows of a table.
abbrev pub entries : {V : Type 0} → Dependency V → List (ℕ × List V) → List (Entry V)
entries d rows = filter_map (entry_of d) rows

-- A single violation: the row matches on X, and its A value doesn't match.
abbrev pub is_single : {V : Type 0} → (V → V → Bool) → TableauRow V → Entry V → Bool
is_single eq t e = all_match eq t.x e.x && not (matches eq t.a e.a)

-- A pair violation: two rows have equal values on X, which match; their A values both match, and they differ.
abbrev pub is_pair : {V : Type 0} → (V → V → Bool) → TableauRow V → Entry V → Entry V → Bool
is_pair eq t e other =
    same_values eq e.x other.x && all_match eq t.x e.x && all_match eq t.x other.x && matches eq t.a e.a && matches eq t.a other.a && not (eq e.a other.a)

-- The least of the numbers, if there are any.
abbrev pub least : List ℕ → Option ℕ
least [] = None
least (n ∷ ns) = Some (option_map_or (min n) (least ns) n)

-- The ids of the rows with which a row makes a pair violation, and the least of them.
abbrev pub partners : {V : Type 0} → (V → V → Bool) → TableauRow V → List (Entry V) → Entry V → List ℕ
partners eq t all e = map (λ other. other.row) (filter (is_pair eq t e) all)

abbrev pub least_partner : {V : Type 0} → (V → V → Bool) → TableauRow V → List (Entry V) → Entry V → Option ℕ
least_partner eq t all e = least (partners eq t all e)

-- What is listed of a row: the row alone for a single violation, the row and its least partner where it has a partner,
-- and else nothing.
abbrev pub violation_of : {V : Type 0} → (V → V → Bool) → TableauRow V → List (Entry V) → Entry V → Option Violation
violation_of eq t all e =
    cond (is_single eq t e) (Some (record { row = e.row; partner = None }))
    (option_map (λ partner. record { row = e.row; partner = Some partner }) (least_partner eq t all e))

-- The violations of a tableau row, in the order of the rows.
abbrev pub violating : {V : Type 0} → (V → V → Bool) → TableauRow V → List (Entry V) → List Violation
violating eq t all = filter_map (violation_of eq t all) all

-- The violations of a dependency: those of its tableau rows in order, each with the number of its tableau row.
abbrev pub violations : {V : Type 0} → (V → V → Bool) → Dependency V → List (Entry V) → List (ℕ × Violation)
violations eq d all = numbered (λ t. violating eq t all) d.rows
