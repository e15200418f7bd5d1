-- Schema files: the schema that one spells, or its first faulty line with the first cause. A table line and the `attr`
-- lines behind it are a group; any other head stands alone.
use Rattle.std.specs.Prelude.{ℕ, Bool, false, List, [], ◌∷◌, ◌++◌, length, Option, Some, None, Ok, is_some, if◌then◌else◌, ◌==◌, nat_le, nat_lt, codes}
use Rattle.std.specs.List.{list_any}
use Rattle.std.specs.Str.{bytes_eq}
use Rattle.line_grammar.specs.Faults.{Causes, Reading, faulty, ◌>>=◌}
use Rattle.line_grammar.specs.FileLines.{read_line, no_lines}
use Rattle.text_lists.specs.Firsts.{first_of}
use Rattle.line_grammar.specs.Groups.{in_turn, read_groups}
use Rattle.text_lists.specs.Repeats.{first_repeated}
use Rattle.schema_core.specs.SchemaLines.{head_at, attr_at}
use Rattle.line_grammar.specs.TokenLists.{none_after}
use Rattle.line_grammar.specs.declared.line.Line.{Line}
use Rattle.line_grammar.specs.declared.group.Group.{Group}
use Rattle.text_lists.specs.declared.limits.Limits.{Limits}
use Rattle.text_lists.specs.declared.limits.Limit.TheVariants as limit
use Rattle.schema_core.specs.declared.schema.Domain.{Domain}
use Rattle.schema_core.specs.declared.schema.Domain.TheVariants.{AnyText, Finite}
use Rattle.schema_core.specs.declared.schema.Attr.{Attr}
use Rattle.schema_core.specs.declared.schema.Table.{Table}
use Rattle.schema_core.specs.declared.schema.Schema.{Schema}
use Rattle.schema_core.specs.declared.schema.SchemaCause.{SchemaCause}
use Rattle.schema_core.specs.declared.schema.SchemaCause.TheVariants as cause
use Rattle.schema_core.specs.declared.schema_lines.SchemaHead.{SchemaHead}
use Rattle.schema_core.specs.declared.schema_lines.SchemaHead.TheVariants as head

abbrev pub schema_causes : Causes SchemaCause
schema_causes = record { not_utf8 = cause.NotUtf8; bad_line = cause.BadLine }

abbrev pub empty_schema : Schema
empty_schema = record { tables = []; rules = None; script = None }

-- ---- what is wrong with a line

abbrev pub has_table : List Table → List ℕ → Bool
has_table tables name = list_any (λ (t : Table). bytes_eq t.name name) tables

abbrev pub has_attr : List Attr → List ℕ → Bool
has_attr attrs name = list_any (λ (a : Attr). bytes_eq a.name name) attrs

-- the cause of a fault, where there is that fault
abbrev pub cause_if : Bool → SchemaCause → Option SchemaCause
cause_if test why = if test then Some why else None

-- what is wrong with a table line that has these members, behind these tables
abbrev pub table_fault : Limits → List Table → List ℕ → List Line → Option SchemaCause
table_fault limits tables name members = first_of (
    cause_if (length members == 0) cause.BadLine
    ∷ cause_if (has_table tables name) cause.DuplicateName
    ∷ cause_if (nat_le limits.tables (length tables)) (cause.TooMany limit.Tables)
    ∷ []
    )

abbrev pub has_no_value : Domain → Bool
has_no_value AnyText = false
has_no_value (Finite values) = length values == 0

abbrev pub has_value_twice : Domain → Bool
has_value_twice AnyText = false
has_value_twice (Finite values) = is_some (first_repeated bytes_eq values)

abbrev pub has_too_many_values : Limits → Domain → Bool
has_too_many_values limits AnyText = false
has_too_many_values limits (Finite values) = nat_lt limits.values (length values)

-- what is wrong with an attribute behind these
abbrev pub attr_fault : Limits → List Attr → Attr → Option SchemaCause
attr_fault limits attrs attr = first_of (
    cause_if (has_attr attrs attr.name) cause.DuplicateName
    ∷ cause_if (has_no_value attr.domain) cause.EmptyDomain
    ∷ cause_if (has_value_twice attr.domain) cause.DuplicateValue
    ∷ cause_if (nat_le limits.attrs (length attrs)) (cause.TooMany limit.Attrs)
    ∷ cause_if (has_too_many_values limits attr.domain) (cause.TooMany limit.Values)
    ∷ []
    )

-- what is read of a line that has that number, unless something is wrong with it
abbrev pub unless : {X : Type 0} → Option SchemaCause → ℕ → X → Reading X SchemaCause
unless None number x = Ok x
unless (Some why) number x = faulty number why

-- ---- groups

abbrev pub with_attr : Table → Attr → Table
with_attr table attr = record table { attrs = table.attrs ++ attr ∷ [] }

abbrev pub with_table : Schema → Table → Schema
with_table schema table = record schema { tables = schema.tables ++ table ∷ [] }

-- a table with the attribute of a member
unfoldable pub add_attr : Limits → Table → Line → Reading Table SchemaCause
add_attr limits table line =
    read_line schema_causes (λ tokens. none_after (attr_at tokens)) line >>= λ attr. unless (attr_fault limits table.attrs attr) line.number (with_attr table attr)

-- a schema with a table, which so far has no attribute
abbrev pub add_table : Limits → Schema → ℕ → Table → List Line → Reading Schema SchemaCause
add_table limits schema number table members =
    unless (table_fault limits schema.tables table.name members) number table
    >>= λ start. in_turn (add_attr limits) start members
    >>= λ whole. Ok (with_table schema whole)

-- a schema with a file that it may name once
abbrev pub add_file : Option (List ℕ) → ℕ → Schema → List Line → Reading Schema SchemaCause
add_file named number schema members =
    unless (cause_if (is_some named) cause.DuplicateName) number schema >>= λ with_file. no_lines schema_causes members with_file

-- a schema with what a head says, whose line has that number
abbrev pub add_head : Limits → Schema → ℕ → List Line → SchemaHead → Reading Schema SchemaCause
add_head limits schema number members (head.Table master name file) =
    add_table limits schema number (record { name = name; file = file; master = master; attrs = [] }) members
add_head limits schema number members (head.Rules file) = add_file schema.rules number (record schema { rules = Some file }) members
add_head limits schema number members (head.Script file) = add_file schema.script number (record schema { script = Some file }) members

unfoldable pub add_group : Limits → Schema → Group → Reading Schema SchemaCause
add_group limits schema group =
    read_line schema_causes (λ tokens. none_after (head_at tokens)) group.head >>= add_head limits schema group.head.number group.members

-- the schema that the bytes spell, or the first fault
unfoldable pub reads : Limits → List ℕ → Reading Schema SchemaCause
reads limits bytes = read_groups schema_causes (codes "attr") (add_group limits) empty_schema bytes
