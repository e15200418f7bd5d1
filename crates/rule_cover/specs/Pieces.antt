-- The pieces of a table: each dependency over it with each of its tableau rows.
use Rattle.std.specs.Prelude.{◌≡◌, ℕ, List, [], ◌∷◌, length, map, if◌then◌else◌, ◌==◌}
use Rattle.std.specs.List.{enumerate_from, flat_map}
use Rattle.schema_core.specs.declared.schema.Schema.{Schema}
use Rattle.cfd_semantics.specs.declared.dependency.TableauRow.{TableauRow}
use Rattle.rule_model.specs.Rules.{IsValidDep}
use Rattle.rule_model.specs.declared.dep.Dep.{Dep}
use Rattle.rule_cover.specs.declared.fates.Piece.{Piece}

-- the dependency with one tableau row alone
abbrev pub single : Dep → TableauRow (List ℕ) → Dep
single dep row = record { name = dep.name; table = dep.table; rule = record { x = dep.rule.x; a = dep.rule.a; rows = row ∷ [] } }

-- a row of the dependency that stands at a place, with the row's number
abbrev pub row_piece : ℕ → Dep → ℕ × TableauRow (List ℕ) → Piece × Dep
row_piece place dep (number, row) = (record { dep = place; row = number }, single dep row)

-- the pieces of a dependency, in the order of its rows
abbrev pub dep_pieces : ℕ × Dep → List (Piece × Dep)
dep_pieces (place, dep) = map (row_piece place dep) (enumerate_from 0 dep.rule.rows)

-- none, where it is of another table
abbrev pub pieces_over : ℕ → ℕ × Dep → List (Piece × Dep)
pieces_over table (place, dep) = if dep.table == table then dep_pieces (place, dep) else []

-- the pieces of a table, by dependency and then by row: the numbers of each, and the dependency that it is
abbrev pub table_pieces : ℕ → List Dep → List (Piece × Dep)
table_pieces table deps = flat_map (pieces_over table) (enumerate_from 0 deps)

abbrev pub numbers_in : List (Piece × Dep) → List Piece
numbers_in pieces = map (λ (piece : Piece × Dep). piece.0) pieces

abbrev pub deps_in : List (Piece × Dep) → List Dep
deps_in pieces = map (λ (piece : Piece × Dep). piece.1) pieces

-- it is valid over the schema, and has one tableau row
pub record IsPiece (schema : Schema) (piece : Dep) : Type 0 where
  pub valid : IsValidDep schema piece
  pub row : length piece.rule.rows ≡ 1
