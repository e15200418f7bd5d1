-- Which rows a table takes.
use Rattle.std.specs.Prelude.{ℕ, ◌≤◌, List, length, All}
use Rattle.std.specs.List.{AllZip}
use Rattle.schema_core.specs.Schemas.{Admits}
use Rattle.schema_core.specs.declared.schema.Attr.{Attr}

-- a row of a table with these attributes: a text for each, in its domain and of at most so many bytes
pub record IsRowOf (attrs : List Attr) (cell_bytes : ℕ) (row : List (List ℕ)) : Type 0 where
  pub domains : AllZip (λ (attr : Attr) (text : List ℕ). Admits attr.domain text) attrs row
  pub short : All (λ (text : List ℕ). length text ≤ cell_bytes) row
