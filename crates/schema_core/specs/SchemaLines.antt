-- The grammar of schema files. Heads:
--
--     table NAME FILE      master NAME FILE
--     rules FILE           script FILE
--
-- The members of a table:
--
--     attr NAME            attr NAME in LIST(VALUE)
use Rattle.std.specs.Prelude.{ℕ, Bool, true, false, List, Option, Some, None, if◌then◌else◌, option_map, codes}
use Rattle.std.specs.Str.{bytes_eq}
use Rattle.line_grammar.specs.Phrases.{◌>>=◌, name_at, after_word, constant_at, file_name_at}
use Rattle.line_grammar.specs.TokenLists.{Reader, list_at}
use Rattle.line_grammar.specs.declared.tokens.Token.{Token}
use Rattle.schema_core.specs.declared.schema.Domain.{Domain}
use Rattle.schema_core.specs.declared.schema.Domain.TheVariants.{AnyText, Finite}
use Rattle.schema_core.specs.declared.schema.Attr.{Attr}
use Rattle.schema_core.specs.declared.schema_lines.SchemaHead.{SchemaHead}
use Rattle.schema_core.specs.declared.schema_lines.SchemaHead.TheVariants as head

-- NAME FILE
abbrev pub table_at : Bool → Reader SchemaHead
table_at master tokens = do
  name ← name_at tokens
  file ← file_name_at name.1
  Some (head.Table master name.0 file.0, file.1)

-- FILE
abbrev pub file_at : (List ℕ → SchemaHead) → Reader SchemaHead
file_at says tokens = option_map (λ file. (says file.0, file.1)) (file_name_at tokens)

-- what stands behind the first word of a head
abbrev pub head_for : List ℕ → Reader SchemaHead
head_for word rest =
    if bytes_eq word (codes "table") then table_at false rest
    else (if bytes_eq word (codes "master") then table_at true rest
    else (if bytes_eq word (codes "rules") then file_at (λ file. head.Rules file) rest
    else (if bytes_eq word (codes "script") then file_at (λ file. head.Script file) rest
    else None)))

unfoldable pub head_at : Reader SchemaHead
head_at tokens = name_at tokens >>= λ word. head_for word.0 word.1

-- the values of a domain behind the word `in`, or any text where that word is missing
abbrev pub domain_behind : List Token → Option (List Token) → Option (Domain × List Token)
domain_behind tokens None = Some (AnyText, tokens)
domain_behind tokens (Some rest) = option_map (λ values. (Finite values.0, values.1)) (list_at constant_at rest)

abbrev pub domain_at : Reader Domain
domain_at tokens = domain_behind tokens (after_word (codes "in") tokens)

unfoldable pub attr_at : Reader Attr
attr_at tokens = do
  rest ← after_word (codes "attr") tokens
  name ← name_at rest
  domain ← domain_at name.1
  Some (record { name = name.0; domain = domain.0 }, domain.1)
