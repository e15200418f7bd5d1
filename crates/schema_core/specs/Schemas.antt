-- Schemas: what stands where in one, and which are valid.
use Rattle.std.specs.Prelude.{ℕ, ◌≤◌, Bool, true, List, length, map, Option, IfSome, All, Contains, position}
use Rattle.std.specs.List.{list_any}
use Rattle.std.specs.Str.{bytes_eq}
use Rattle.text_lists.specs.Repeats.{AreDistinct}
use Rattle.text_lists.specs.Names.{IsName, IsFileName, IsConstant}
use Rattle.schema_core.specs.declared.schema.Domain.{Domain}
use Rattle.schema_core.specs.declared.schema.Domain.TheVariants.{AnyText, Finite}
use Rattle.schema_core.specs.declared.schema.Attr.{Attr}
use Rattle.schema_core.specs.declared.schema.Table.{Table}
use Rattle.schema_core.specs.declared.schema.Schema.{Schema}

-- the place of the first table of that name
abbrev pub table_place : Schema → List ℕ → Option ℕ
table_place schema name = position (λ (t : Table). bytes_eq t.name name) schema.tables

-- the place of the first attribute of that name
abbrev pub attr_place : Table → List ℕ → Option ℕ
attr_place table name = position (λ (a : Attr). bytes_eq a.name name) table.attrs

-- whether the domain has the text
abbrev pub admits : Domain → List ℕ → Bool
admits AnyText text = true
admits (Finite values) text = list_any (λ v. bytes_eq v text) values

-- the domain has the text
abbrev pub Admits : Domain → List ℕ → Type 0
Admits AnyText text = Unit {0}
Admits (Finite values) text = Contains values text

abbrev pub names_of_tables : List Table → List (List ℕ)
names_of_tables tables = map (λ (t : Table). t.name) tables

abbrev pub names_of_attrs : List Attr → List (List ℕ)
names_of_attrs attrs = map (λ (a : Attr). a.name) attrs

-- a finite domain has a value, and its values are distinct constants
pub record AreValues (values : List (List ℕ)) : Type 0 where
  pub some : 1 ≤ length values
  pub constants : All IsConstant values
  pub distinct : AreDistinct values

abbrev pub IsValidDomain : Domain → Type 0
IsValidDomain AnyText = Unit {0}
IsValidDomain (Finite values) = AreValues values

pub record IsValidAttr (attr : Attr) : Type 0 where
  pub name : IsName attr.name
  pub domain : IsValidDomain attr.domain

-- a table has a name, a file and at least one attribute, and its attributes' names are distinct
pub record IsValidTable (table : Table) : Type 0 where
  pub name : IsName table.name
  pub file : IsFileName table.file
  pub some : 1 ≤ length table.attrs
  pub attrs : All IsValidAttr table.attrs
  pub distinct : AreDistinct (names_of_attrs table.attrs)

-- counts within the standard limits
abbrev pub HasFewValues : Domain → Type 0
HasFewValues AnyText = Unit {0}
HasFewValues (Finite values) = length values ≤ 64

abbrev pub HasFewAttrs : Table → Type 0
HasFewAttrs table = (length table.attrs ≤ 64) × All (λ (a : Attr). HasFewValues a.domain) table.attrs

-- valid tables of distinct names, files for rules and script, and counts within the standard limits
pub record IsValidSchema (schema : Schema) : Type 0 where
  pub tables : All IsValidTable schema.tables
  pub distinct : AreDistinct (names_of_tables schema.tables)
  pub rules : IfSome schema.rules IsFileName
  pub script : IfSome schema.script IsFileName
  pub few_tables : length schema.tables ≤ 64
  pub few_attrs : All HasFewAttrs schema.tables
