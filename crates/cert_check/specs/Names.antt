-- The variables and the cells of a question by their names, in the order of their numbers.
use Rattle.std.specs.Prelude.{ℕ, ◌==◌, ◌&&◌, Bool, true, false, if◌then◌else◌, List, [], ◌∷◌, ◌++◌, length, map, Option, Some, None, slice_get}
use Rattle.std.specs.List.{flat_map, position_or_len}
use Rattle.std.specs.Option.{option_and_then}
use Rattle.std.specs.Str.{bytes_eq}
use Rattle.schema_core.specs.declared.schema.Attr.{Attr}
use Rattle.rule_parser.specs.RuleText.{attr_name}
use Rattle.cell_values.specs.declared.values.CellValues.{CellValues}
use Rattle.cert_text.specs.declared.answers.Kind.{Kind}
use Rattle.cert_text.specs.declared.answers.Kind.TheVariants.{Consistency, Implication}
use Rattle.cell_values.specs.declared.which.Which.{Which}
use Rattle.cell_values.specs.declared.which.Which.TheVariants.{Only, First, Second}
use Rattle.cert_text.specs.declared.names.CellName.{CellName}
use Rattle.cert_text.specs.declared.names.VarName.{VarName}
use Rattle.cert_text.specs.declared.names.VarName.TheVariants.{Value, Equal}

-- The names of all variables of a question of a kind. Of the cells those of values have names; the cell of an equality has none.
pub record Names : Type 0 where
  pub kind : Kind
  pub vars : List VarName
  pub cells : List (Option CellName)

-- ---- variables

abbrev pub cell_name : Which → List ℕ → CellName
cell_name tuple attr = record { tuple = tuple; attr = attr }

-- one for each value of an attribute in a tuple
abbrev pub value_vars : Which → List ℕ → List (List ℕ) → List VarName
value_vars tuple attr values = map (λ value. Value (cell_name tuple attr) value) values

-- Those of an attribute. Over two tuples the first one says that they agree on it.
abbrev pub attr_vars : Kind → List ℕ → List (List ℕ) → List VarName
attr_vars Consistency attr values = value_vars Only attr values
attr_vars Implication attr values = Equal attr ∷ (value_vars First attr values ++ value_vars Second attr values)

-- ---- cells

-- the values of an attribute in a tuple are one cell, where there are some
abbrev pub value_cells : Which → List ℕ → List (List ℕ) → List (Option CellName)
value_cells tuple attr values = if length values == 0 then [] else Some (cell_name tuple attr) ∷ []

-- over two tuples the equality is a cell of its own
abbrev pub attr_cells : Kind → List ℕ → List (List ℕ) → List (Option CellName)
attr_cells Consistency attr values = value_cells Only attr values
attr_cells Implication attr values = None ∷ (value_cells First attr values ++ value_cells Second attr values)

-- the name of the cell of that number, where it has one
abbrev pub named_cell : List (Option CellName) → ℕ → Option CellName
named_cell cells at = option_and_then (λ cell. cell) (slice_get cells at)

-- ---- the names of a question

-- those of the attributes that occur, in the order of the schema
abbrev pub names_of : Kind → List Attr → List CellValues → Names
names_of kind attrs values = record {
  kind = kind;
  vars = flat_map (λ (cell : CellValues). attr_vars kind (attr_name attrs cell.attr) cell.values) values;
  cells = flat_map (λ (cell : CellValues). attr_cells kind (attr_name attrs cell.attr) cell.values) values;
}

-- ---- numbers

abbrev pub same_tuple : Which → Which → Bool
same_tuple Only Only = true
same_tuple First First = true
same_tuple Second Second = true
same_tuple one other = false

abbrev pub same_cell : CellName → CellName → Bool
same_cell one other = same_tuple one.tuple other.tuple && bytes_eq one.attr other.attr

abbrev pub same_var : VarName → VarName → Bool
same_var (Value cell value) (Value other own) = same_cell cell other && bytes_eq value own
same_var (Equal attr) (Equal other) = bytes_eq attr other
same_var (Value cell value) (Equal other) = false
same_var (Equal attr) (Value other own) = false

abbrev pub is_cell : CellName → Option CellName → Bool
is_cell name None = false
is_cell name (Some other) = same_cell name other

-- The number of the variable, or of the cell, of that name. Where there is none, it is the number behind the last one,
-- which no variable, or no cell, has.
abbrev pub var_number : Names → VarName → ℕ
var_number names name = position_or_len (same_var name) names.vars

abbrev pub cell_number : Names → CellName → ℕ
cell_number names name = position_or_len (is_cell name) names.cells
