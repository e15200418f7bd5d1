-- The variables of a question, and the cells that they are. One tuple has for each attribute that occurs a variable for
-- each of its values. Over two there is for each attribute that occurs the variable that says that they agree on it, then
-- one for each value that the first may have there, and then one for each that the second may have.
use Rattle.std.specs.Prelude.{ℕ, ◌+◌, ◌*◌, ◌==◌, false, if◌then◌else◌, List, [], ◌∷◌, ◌++◌, length}
use Rattle.std.specs.List.{sum_by}
use Rattle.case_tree.specs.declared.clauses.VarCell.{VarCell}
use Rattle.cell_values.specs.declared.which.Which.{Which}
use Rattle.cell_values.specs.declared.which.Which.TheVariants.{Only, First, Second}
use Rattle.cell_values.specs.declared.which.TupleCount.{TupleCount}
use Rattle.cell_values.specs.declared.which.TupleCount.TheVariants.{One, Two}
use Rattle.cell_values.specs.declared.values.CellValues.{CellValues}
use Rattle.cell_values.specs.Values.{attrs_before, values_before, values_for}

-- how many tuples the question of a tuple is about
abbrev pub count_of : Which → TupleCount
count_of Only = One
count_of First = Two
count_of Second = Two

-- ---- variables

-- the variable that says that two tuples agree on an attribute
abbrev pub equal_var : List CellValues → ℕ → ℕ
equal_var cells attr = attrs_before cells attr + 2 * values_before cells attr

-- the first variable of an attribute
abbrev pub attr_var : TupleCount → List CellValues → ℕ → ℕ
attr_var One cells attr = values_before cells attr
attr_var Two cells attr = equal_var cells attr

-- the variable of the first value that a tuple may have at an attribute
abbrev pub value_var : Which → List CellValues → ℕ → ℕ
value_var Only cells attr = values_before cells attr
value_var First cells attr = equal_var cells attr + 1
value_var Second cells attr = equal_var cells attr + 1 + length (values_for cells attr)

-- how many variables an attribute has, and all of them together
abbrev pub var_width : TupleCount → CellValues → ℕ
var_width One cell = length cell.values
var_width Two cell = 1 + 2 * length cell.values

abbrev pub var_total : TupleCount → List CellValues → ℕ
var_total count cells = sum_by (var_width count) cells

-- ---- cells of variables

-- the variables of the values of one tuple, where there are values
abbrev pub value_cell : ℕ → CellValues → List VarCell
value_cell first cell =
    if length cell.values == 0 then [] else record { first = first; count = length cell.values; demanded = cell.demanded } ∷ []

-- those of an attribute, whose first variable is `first`
abbrev pub attr_cells : TupleCount → ℕ → CellValues → List VarCell
attr_cells One first cell = value_cell first cell
attr_cells Two first cell =
    record { first = first; count = 1; demanded = false } ∷ (value_cell (first + 1) cell ++ value_cell (first + 1 + length cell.values) cell)

abbrev pub var_cells : TupleCount → ℕ → List CellValues → List VarCell
var_cells count first [] = []
var_cells count first (cell ∷ cells) = attr_cells count first cell ++ var_cells count (first + var_width count cell) cells
