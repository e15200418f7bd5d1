-- The schema that a draft spells where each name in it is one.
use Rattle.std.specs.Prelude.{List, None, map, false, All}
use Rattle.std.specs.Str.{IsUtf8}
use Rattle.schema_core.specs.Schemas.{names_of_attrs}
use Rattle.schema_core.specs.declared.schema.Schema.{Schema}
use Rattle.schema_core.specs.declared.schema.Table.{Table}
use Rattle.schema_draft.specs.Sheets.{any_texts}
use Rattle.schema_draft.specs.declared.sheet.Sheet.{Sheet}

-- a table that is no master table, with any text for a value of its attributes
abbrev pub any_table : Table → Table
any_table table = record { name = table.name; file = table.file; master = false; attrs = any_texts (names_of_attrs table.attrs) }

-- the tables of sheets, with neither rules nor script
abbrev pub schema_of : List Sheet → Schema
schema_of sheets = record { tables = map (λ (s : Sheet). any_table s.table) sheets; rules = None; script = None }

-- what their rows hold is UTF-8
abbrev pub HoldTexts : List Sheet → Type 0
HoldTexts sheets = All (λ (s : Sheet). All (λ row. All IsUtf8 row) s.rows) sheets
