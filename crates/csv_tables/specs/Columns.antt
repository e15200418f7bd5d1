-- Where the fields of a record go.
use Rattle.std.specs.Prelude.{◌≡◌, ◌<◌, ℕ, List, length, map, Some, All}
use Rattle.schema_core.specs.declared.schema.Attr.{Attr}
use Rattle.csv_tables.specs.TableFiles.{column_place}

-- for each attribute the place of its column in the header
pub record ArePlacesOf (places : List ℕ) (attrs : List Attr) (header : List (List ℕ)) : Type 0 where
  pub columns : map (λ (p : ℕ). Some p) places ≡ map (λ (a : Attr). column_place header a.name) attrs
  pub within : All (λ (p : ℕ). p < length header) places
