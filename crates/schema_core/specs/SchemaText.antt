-- The canonical text of a schema: the tables in order, each with its `attr` lines, then `rules`, then `script`.
use Rattle.std.specs.Prelude.{ℕ, Bool, List, [], ◌∷◌, ◌++◌, map, Option, Some, None, codes, if◌then◌else◌}
use Rattle.std.specs.List.{flat_map}
use Rattle.line_grammar.specs.Spelling.{name, text, spaced_list, file_text}
use Rattle.line_grammar.specs.declared.writing.Part.{Part}
use Rattle.line_grammar.specs.declared.writing.Part.TheVariants.{Space}
use Rattle.schema_core.specs.declared.schema.Domain.{Domain}
use Rattle.schema_core.specs.declared.schema.Domain.TheVariants.{AnyText, Finite}
use Rattle.schema_core.specs.declared.schema.Attr.{Attr}
use Rattle.schema_core.specs.declared.schema.Table.{Table}
use Rattle.schema_core.specs.declared.schema.Schema.{Schema}

-- VALUE
abbrev pub value_parts : List ℕ → List Part
value_parts value = text value ∷ []

-- ` in LIST(VALUE)`, or nothing
abbrev pub domain_parts : Domain → List Part
domain_parts AnyText = []
domain_parts (Finite values) = Space ∷ name (codes "in") ∷ spaced_list value_parts values

-- `attr NAME`, `attr NAME in LIST(VALUE)`
abbrev pub attr_line : Attr → List Part
attr_line attr = name (codes "attr") ∷ Space ∷ name attr.name ∷ domain_parts attr.domain

abbrev pub table_word : Bool → List ℕ
table_word master = if master then codes "master" else codes "table"

-- `table NAME FILE`, `master NAME FILE`
abbrev pub head_line : Table → List Part
head_line table = name (table_word table.master) ∷ Space ∷ name table.name ∷ Space ∷ text table.file ∷ []

abbrev pub table_lines : Table → List (List Part)
table_lines table = head_line table ∷ map attr_line table.attrs

-- `rules FILE`, `script FILE`, where there is one
abbrev pub file_lines : List ℕ → Option (List ℕ) → List (List Part)
file_lines word None = []
file_lines word (Some file) = (name word ∷ Space ∷ text file ∷ []) ∷ []

abbrev pub schema_lines : Schema → List (List Part)
schema_lines schema = flat_map table_lines schema.tables ++ (file_lines (codes "rules") schema.rules ++ file_lines (codes "script") schema.script)

unfoldable pub canonical : Schema → List ℕ
canonical schema = file_text (schema_lines schema)
