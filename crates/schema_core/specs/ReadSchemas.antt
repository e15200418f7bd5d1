-- What is true of a schema and of its parts while it is read.
use Rattle.std.specs.Prelude.{All}
use Rattle.text_lists.specs.Limits.{AreLimits}
use Rattle.text_lists.specs.Names.{IsName, IsFileName, IsConstant}
use Rattle.text_lists.specs.Repeats.{AreDistinct}
use Rattle.schema_core.specs.Schemas.{IsValidAttr, IsValidSchema, HasFewAttrs, names_of_attrs}
use Rattle.text_lists.specs.declared.limits.Limits.{Limits}
use Rattle.schema_core.specs.declared.schema.Domain.{Domain}
use Rattle.schema_core.specs.declared.schema.Domain.TheVariants.{AnyText, Finite}
use Rattle.schema_core.specs.declared.schema.Attr.{Attr}
use Rattle.schema_core.specs.declared.schema.Table.{Table}
use Rattle.schema_core.specs.declared.schema.Schema.{Schema}
use Rattle.schema_core.specs.declared.schema_lines.SchemaHead.{SchemaHead}
use Rattle.schema_core.specs.declared.schema_lines.SchemaHead.TheVariants as head

-- ---- what a line says, before it is tested against those before it

abbrev pub IsReadHead : SchemaHead → Type 0
IsReadHead (head.Table master name file) = IsName name × IsFileName file
IsReadHead (head.Rules file) = IsFileName file
IsReadHead (head.Script file) = IsFileName file

abbrev pub IsReadDomain : Domain → Type 0
IsReadDomain AnyText = Unit {0}
IsReadDomain (Finite values) = All IsConstant values

pub record IsReadAttr (attr : Attr) : Type 0 where
  pub name : IsName attr.name
  pub domain : IsReadDomain attr.domain

-- ---- what was read so far

-- a valid table, but that it may lack attributes
pub record IsTableSoFar (limits : Limits) (table : Table) : Type 0 where
  pub allowed : AreLimits limits
  pub name : IsName table.name
  pub file : IsFileName table.file
  pub attrs : All IsValidAttr table.attrs
  pub distinct : AreDistinct (names_of_attrs table.attrs)
  pub few : HasFewAttrs table

pub record IsSchemaSoFar (limits : Limits) (schema : Schema) : Type 0 where
  pub allowed : AreLimits limits
  pub valid : IsValidSchema schema
