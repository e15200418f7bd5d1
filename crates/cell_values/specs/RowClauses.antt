-- What clauses say of one tuple's values at the cells of a tableau row.
use Rattle.std.specs.Prelude.{ℕ, true, false, List, ◌++◌, zip}
use Rattle.std.specs.List.{flat_map}
use Rattle.cfd_semantics.specs.declared.pattern.Pattern.{Pattern}
use Rattle.cfd_semantics.specs.declared.dependency.TableauRow.{TableauRow}
use Rattle.case_tree.specs.declared.clauses.Literal.{Literal}
use Rattle.cell_values.specs.declared.which.Which.{Which}
use Rattle.cell_values.specs.declared.values.CellValues.{CellValues}
use Rattle.cell_values.specs.Layout.{value_var}
use Rattle.cell_values.specs.Literals.{meets, misses}
use Rattle.cell_values.specs.TableRules.{Rule}
use Rattle.cell_values.specs.Values.{values_for}

abbrev pub yes : ℕ → Literal
yes v = record { var = v; positive = true }

abbrev pub no : ℕ → Literal
no v = record { var = v; positive = false }

module _ (cells : List CellValues) where
  -- a tuple's value at an attribute matches a cell, or doesn't match it
  abbrev pub meets_at : Which → ℕ × Pattern (List ℕ) → List Literal
  meets_at which at = meets (value_var which cells at.0) (values_for cells at.0) at.1

  abbrev pub misses_at : Which → ℕ × Pattern (List ℕ) → List Literal
  misses_at which at = misses (value_var which cells at.0) (values_for cells at.0) at.1

  -- a tuple doesn't match a row on the left
  abbrev pub misses_left : Which → Rule → TableauRow (List ℕ) → List Literal
  misses_left which rule row = flat_map (misses_at which) (zip rule.x row.x)

  -- a tuple that matches a row on the left matches it on the right
  abbrev pub alone : Which → Rule → TableauRow (List ℕ) → List Literal
  alone which rule row = misses_left which rule row ++ meets_at which (rule.a, row.a)
