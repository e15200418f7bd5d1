-- Numbers in place of names: tables by their place in a schema, attributes by their place in a table.
use Rattle.std.specs.Prelude.{ℕ, Bool, false, List, [], map, Option, unwrap_or}
use Rattle.std.specs.List.{slice_get, position}
use Rattle.std.specs.Option.{option_map_or}
use Rattle.std.specs.Str.{bytes_eq}
use Rattle.schema_core.specs.Schemas.{table_place}
use Rattle.schema_core.specs.declared.schema.Domain.{Domain}
use Rattle.schema_core.specs.declared.schema.Domain.TheVariants.{AnyText}
use Rattle.schema_core.specs.declared.schema.Attr.{Attr}
use Rattle.schema_core.specs.declared.schema.Table.{Table}
use Rattle.schema_core.specs.declared.schema.Schema.{Schema}

-- the number of the table of that name, if the schema has one
abbrev pub table_number : Schema → List ℕ → ℕ
table_number schema name = unwrap_or (table_place schema name) 0

-- the attributes of a table by its number, and by its name
abbrev pub attrs_at : Schema → ℕ → List Attr
attrs_at schema table = option_map_or (λ (t : Table). t.attrs) (slice_get schema.tables table) []

abbrev pub attrs_of : Schema → List ℕ → List Attr
attrs_of schema name = attrs_at schema (table_number schema name)

-- whether a table by its number is master data
abbrev pub master_at : Schema → ℕ → Bool
master_at schema table = option_map_or (λ (t : Table). t.master) (slice_get schema.tables table) false

-- the place of the first attribute of that name
abbrev pub place_of : List Attr → List ℕ → Option ℕ
place_of attrs name = position (λ (a : Attr). bytes_eq a.name name) attrs

-- the number of the attribute of that name, if there is one, and those of several names
abbrev pub attr_number : List Attr → List ℕ → ℕ
attr_number attrs name = unwrap_or (place_of attrs name) 0

abbrev pub attr_numbers : List Attr → List (List ℕ) → List ℕ
attr_numbers attrs names = map (attr_number attrs) names

-- the domain of an attribute by its number, and by its name
abbrev pub domain_at : List Attr → ℕ → Domain
domain_at attrs attr = option_map_or (λ (a : Attr). a.domain) (slice_get attrs attr) AnyText

abbrev pub domain_of : List Attr → List ℕ → Domain
domain_of attrs name = domain_at attrs (attr_number attrs name)
