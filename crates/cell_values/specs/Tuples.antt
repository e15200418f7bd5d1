-- Tuples of a table.
use Rattle.std.specs.Prelude.{ℕ, List}
use Rattle.std.specs.List.{AllZip}
use Rattle.schema_core.specs.Schemas.{Admits}
use Rattle.schema_core.specs.declared.schema.Attr.{Attr}

-- a text for each attribute, in its domain
abbrev pub IsTupleOf : List Attr → List (List ℕ) → Type 0
IsTupleOf attrs tuple = AllZip (λ (attr : Attr) (text : List ℕ). Admits attr.domain text) attrs tuple

-- The texts of the tuples that the deciders answer have at most so many bytes.
abbrev pub answer_bytes : ℕ
answer_bytes = 65535
