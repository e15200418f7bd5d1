-- The dependencies of one table, and what stands in their tableaux.
use Rattle.std.specs.Prelude.{ℕ, Bool, ◌||◌, ◌==◌, List, [], ◌∷◌, ◌++◌, map, filter, zip}
use Rattle.std.specs.List.{flat_map, list_any}
use Rattle.cfd_semantics.specs.declared.pattern.Pattern.{Pattern}
use Rattle.cfd_semantics.specs.declared.dependency.TableauRow.{TableauRow}
use Rattle.cfd_semantics.specs.declared.dependency.Dependency.{Dependency}
use Rattle.rule_model.specs.declared.dep.Dep.{Dep}

-- a dependency over texts
abbrev pub Rule : Type 0
Rule = Dependency (List ℕ)

abbrev pub rule_of : Dep → Rule
rule_of dep = dep.rule

-- the dependencies of a table, in their order
abbrev pub table_rules : ℕ → List Dep → List Rule
table_rules table deps = map rule_of (filter (λ (dep : Dep). dep.table == table) deps)

-- these, and after them those that are asked
abbrev pub rules_with : ℕ → List Dep → List Dep → List Rule
rules_with table deps asked = table_rules table deps ++ map rule_of asked

-- the attribute stands on a side of the dependency
abbrev pub stands_in : ℕ → Rule → Bool
stands_in attr rule = (rule.a == attr) || list_any (λ b. b == attr) rule.x

-- it occurs in dependencies
abbrev pub occurs : List Rule → ℕ → Bool
occurs rules attr = list_any (stands_in attr) rules

-- the cells of a tableau row, each with its attribute: those on the left in their order, and then the one on the right
abbrev pub row_cells : Rule → TableauRow (List ℕ) → List (ℕ × Pattern (List ℕ))
row_cells rule row = zip rule.x row.x ++ (rule.a, row.a) ∷ []

-- those at an attribute
abbrev pub cells_for : ℕ → List (ℕ × Pattern (List ℕ)) → List (Pattern (List ℕ))
cells_for attr cells = map (λ cell. cell.1) (filter (λ cell. cell.0 == attr) cells)

abbrev pub cells_in_row : ℕ → Rule → TableauRow (List ℕ) → List (Pattern (List ℕ))
cells_in_row attr rule row = cells_for attr (row_cells rule row)

-- all cells at an attribute, one dependency after the other, each by its tableau rows
abbrev pub cells_in_rule : ℕ → Rule → List (Pattern (List ℕ))
cells_in_rule attr rule = flat_map (cells_in_row attr rule) rule.rows

abbrev pub cells_at : List Rule → ℕ → List (Pattern (List ℕ))
cells_at rules attr = flat_map (cells_in_rule attr) rules
