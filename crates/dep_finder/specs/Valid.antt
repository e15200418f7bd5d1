-- Which dependencies are rules of a table, and when what is found in its rows is.
use Rattle.std.specs.Prelude.{◌≡◌, ℕ, ◌≤◌, List, length, map, All, Some, slice_get}
use Rattle.std.specs.Str.{IsUtf8}
use Rattle.text_lists.specs.Names.{IsName}
use Rattle.text_lists.specs.Repeats.{AreDistinct}
use Rattle.schema_core.specs.Rows.{IsRowOf}
use Rattle.schema_core.specs.declared.schema.Schema.{Schema}
use Rattle.schema_core.specs.declared.schema.Table.{Table}
use Rattle.cfd_semantics.specs.declared.dependency.Dependency.{Dependency}
use Rattle.cfd_semantics.specs.declared.dependency.TableauRow.{TableauRow}
use Rattle.cfd_semantics.specs.declared.pattern.Pattern.{Pattern}
use Rattle.cfd_semantics.specs.declared.pattern.Pattern.TheVariants.{Any, In, Is, NotIn}
use Rattle.rule_model.specs.Rules.{IsValidDep}
use Rattle.rule_model.specs.declared.dep.Dep.{Dep}
use Rattle.dep_search.specs.Rows.{Row}

-- ---- rules of a table

-- they are dependencies of this table of the schema
abbrev pub AreOfTable : Schema → Table → List Dep → Type 0
AreOfTable schema table found = All (λ (dep : Dep). slice_get schema.tables dep.table ≡ Some table) found

-- they are valid dependencies of this table of the schema, and each has a tableau row
pub record AreRules (schema : Schema) (table : Table) (found : List Dep) : Type 0 where
  pub of_table : AreOfTable schema table found
  pub valid : All (IsValidDep schema) found
  pub rows : All (λ (dep : Dep). 1 ≤ length dep.rule.rows) found

-- each has a name, and no two have the same
pub record HaveNames (found : List Dep) : Type 0 where
  pub each : All (λ (dep : Dep). IsName dep.name) found
  pub distinct : AreDistinct (map (λ (dep : Dep). dep.name) found)

-- ---- what is found

-- it has one tableau row
abbrev pub HasOneRow : Dep → Type 0
HasOneRow dep = length dep.rule.rows ≡ 1

-- Over each schema that has this table under this number, and whose domains the rows keep to, they are rules of the table.
abbrev pub AreValid : Table → ℕ → List Row → List Dep → Type 0
AreValid table number rows found =
    (schema : Schema) (cell_bytes : ℕ) → slice_get schema.tables number ≡ Some table → All (IsRowOf table.attrs cell_bytes) rows → AreRules schema table found

-- ---- constants

-- the constants of a cell are texts
abbrev pub IsTextCell : Pattern (List ℕ) → Type 0
IsTextCell Any = Unit {0}
IsTextCell (Is value) = IsUtf8 value
IsTextCell (In values) = All IsUtf8 values
IsTextCell (NotIn values) = All IsUtf8 values

pub record IsTextRow (row : TableauRow (List ℕ)) : Type 0 where
  pub x : All IsTextCell row.x
  pub a : IsTextCell row.a

-- and those of a dependency
abbrev pub HasTexts : Dependency (List ℕ) → Type 0
HasTexts rule = All IsTextRow rule.rows
