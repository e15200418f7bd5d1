-- The tuples that an assignment of truth values stands for.
use Rattle.std.specs.Prelude.{ℕ, Bool, true, false, if◌then◌else◌, nat_lt, List, [], length, map, find, Option, Some, None, slice_index_or, ◌==◌}
use Rattle.std.specs.List.{range_with_len}
use Rattle.case_tree.specs.CaseTree.{ClauseSet, IsAllowed}
use Rattle.schema_core.specs.Lookups.{domain_at}
use Rattle.schema_core.specs.declared.schema.Attr.{Attr}
use Rattle.schema_core.specs.declared.schema.Domain.{Domain}
use Rattle.schema_core.specs.declared.schema.Domain.TheVariants.{AnyText, Finite}
use Rattle.cell_values.specs.declared.which.Which.{Which}
use Rattle.cell_values.specs.declared.which.Which.TheVariants.{Only, First, Second}
use Rattle.cell_values.specs.declared.values.CellValues.{CellValues}
use Rattle.cell_values.specs.Fresh.{fresh_past}
use Rattle.cell_values.specs.Layout.{equal_var, value_var}
use Rattle.cell_values.specs.Standing.{chosen}

-- some assignment is allowed
abbrev pub HasAllowed : ClauseSet → Type 0
HasAllowed set = (truth : ℕ → Bool) × IsAllowed set truth

-- at an attribute that doesn't occur, each tuple has the first value of a finite domain, and else a fresh text
abbrev pub plain_text : Domain → List ℕ
plain_text AnyText = fresh_past 0 []
plain_text (Finite values) = slice_index_or values 0 []

-- the text that is no constant: the other-value where there is one, and else a fresh text
abbrev pub new_text : CellValues → List ℕ
new_text cell = if nat_lt cell.constants (length cell.values) then slice_index_or cell.values cell.constants [] else fresh_past 0 cell.values

-- the constant whose variable is true, or that text
abbrev pub text_for : CellValues → List ℕ → Option ℕ → List ℕ
text_for cell new None = new
text_for cell new (Some place) = slice_index_or cell.values place []

-- the first constant whose variable is true
abbrev pub constant_of : (ℕ → Bool) → ℕ → CellValues → Option ℕ
constant_of truth first cell = chosen truth first cell.constants

-- where neither of two tuples has a constant and they don't agree, the second has a longer text
abbrev pub second_new : CellValues → Bool → Option ℕ → List ℕ
second_new cell true one = new_text cell
second_new cell false (Some place) = new_text cell
second_new cell false None = fresh_past (length (new_text cell)) cell.values

-- the text that a tuple has where it has no constant
abbrev pub new_for : Which → List CellValues → (ℕ → Bool) → ℕ → CellValues → List ℕ
new_for Only cells truth attr cell = new_text cell
new_for First cells truth attr cell = new_text cell
new_for Second cells truth attr cell = second_new cell (truth (equal_var cells attr)) (constant_of truth (value_var First cells attr) cell)

-- the text of a tuple at an attribute that occurs
abbrev pub value_text : Which → List CellValues → (ℕ → Bool) → ℕ → CellValues → List ℕ
value_text which cells truth attr cell = text_for cell (new_for which cells truth attr cell) (constant_of truth (value_var which cells attr) cell)

abbrev pub attr_text : Which → List CellValues → (ℕ → Bool) → ℕ → Domain → Option CellValues → List ℕ
attr_text which cells truth attr domain None = plain_text domain
attr_text which cells truth attr domain (Some cell) = value_text which cells truth attr cell

abbrev pub tuple_of : Which → List Attr → List CellValues → (ℕ → Bool) → List (List ℕ)
tuple_of which attrs cells truth = map (λ attr. attr_text which cells truth attr (domain_at attrs attr) (find (λ (cell : CellValues). cell.attr == attr) cells)) (range_with_len 0 (length attrs))
