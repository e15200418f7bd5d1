-- What a row gives for a dependency, and which rows the entries of a table come from.
use Rattle.std.proofs.Common.{◌≡◌, ℕ, List, Option, None, Some, refl, ap, subst}
use Rattle.std.specs.List.{Contains}
use Rattle.std.specs.Option.{option_map}
use Rattle.cfd_semantics.specs.declared.dependency.Dependency.{Dependency}
use Rattle.cfd_semantics.specs.Tuple.{tuples_of}
use Rattle.cfd_semantics.specs.Violation.{Sides, sides_of, Entry, entry_of}
use Rattle.cfd_semantics.proofs.Members.{contains-map, contains_from_map}

-- the two sides in an entry
abbrev pub sides_in : {V : Type 0} → Entry V → Sides V
sides_in e = record { x = e.x; a = e.a }

-- the entry of a row with these sides
abbrev pub entry_with : {V : Type 0} → ℕ → Sides V → Entry V
entry_with row sides = record { x = sides.x; a = sides.a; row = row }

pub entry_from_sides : {V : Type 0} (d : Dependency V) (row : ℕ × List V) (sides : Sides V) → sides_of d row.1 ≡ Some sides → entry_of d row ≡ Some (entry_with row.0 sides)
entry_from_sides d row sides is = ap (option_map (entry_with row.0)) is

-- what an entry of a row says of the row
pub record IsEntryOf {V : Type 0} (d : Dependency V) (own : ℕ × List V) (e : Entry V) : Type 0 where
  pub sides : sides_of d own.1 ≡ Some (sides_in e)
  pub is_row : e.row ≡ own.0

pub entry_parts : {V : Type 0} (d : Dependency V) (own : ℕ × List V) (e : Entry V) → entry_of d own ≡ Some e → IsEntryOf d own e
entry_parts {V} d own e is = parts (sides_of d own.1) refl is
  where
    parts : (o : Option (Sides V)) → sides_of d own.1 ≡ o → option_map (entry_with own.0) o ≡ Some e → IsEntryOf d own e
    parts None has is = absurd (cc)
    parts (Some sides) has is =
        let same : entry_with own.0 sides ≡ e = cc in
        subst (IsEntryOf d own) same (record { sides = has; is_row = refl })

-- a tuple of the rows is the tuple of a row
pub row_with_tuple : {V : Type 0} (rows : List (ℕ × List V)) (tuple : List V) → Contains (tuples_of rows) tuple → (row : ℕ × List V) × Contains rows row × (row.1 ≡ tuple)
row_with_tuple {V} rows tuple inside = contains_from_map (λ (row : ℕ × List V). row.1) rows tuple inside

pub tuple_of_row : {V : Type 0} (rows : List (ℕ × List V)) (row : ℕ × List V) → Contains rows row → Contains (tuples_of rows) row.1
tuple_of_row {V} rows row inside = contains-map (λ (row : ℕ × List V). row.1) rows row inside
