-- The schema that the generated text spells.
use Rattle.std.proofs.Common.{◌≡◌, ℕ, zero, suc, ◌+◌, Bool, true, false, not, cond, List, [], ◌∷◌, ◌++◌, length, None, Ok, Err, codes, nat_lt, refl, ap, sym, ◌∙◌, lit<}
use Rattle.std.specs.List.{list_all}
use Rattle.std.specs.Option.{option_map, option_to_list}
use Rattle.std.specs.Str.{IsAscii}
use Rattle.std.proofs.lemmas.Bool.{and_parts, ltb-true}
use Rattle.std.proofs.lemmas.Str.{IsUtf8-from_ascii, is_utf8-from_IsUtf8}
use Rattle.text_lists.specs.Limits.{standard}
use Rattle.schema_core.specs.SchemaFiles.{add_attr, add_group, empty_schema, reads, schema_causes}
use Rattle.line_grammar.specs.Groups.{cut, read_cut, read_groups}
use Rattle.line_grammar.specs.FileLines.{begins_with, content_of, lines_from}
use Rattle.line_grammar.specs.Lines.{lines}
use Rattle.line_grammar.specs.Tokens.{is_passed, line_tokens, mark_at, text_from, token_at, tokens_from}
use Rattle.schema_core.specs.SchemaLines.{attr_at, head_at}
use Rattle.line_grammar.specs.Contents as content
use Rattle.line_grammar.specs.declared.line.Line.{Line}
use Rattle.line_grammar.specs.declared.tokens.LineTokens.{LineTokens}
use Rattle.line_grammar.specs.declared.tokens.LineTokens.TheVariants.{NotUtf8, Passed, Tokens}
use Rattle.line_grammar.specs.declared.tokens.Mark.TheVariants.{Comma}
use Rattle.line_grammar.specs.declared.tokens.Token.{Token}
use Rattle.line_grammar.specs.declared.tokens.Token.TheVariants.{Name, Quoted, Sign}
use Rattle.schema_core.specs.declared.schema.Attr.{Attr}
use Rattle.schema_core.specs.declared.schema.Domain.TheVariants.{AnyText, Finite}
use Rattle.schema_core.specs.declared.schema.Schema.{Schema}
use Rattle.line_grammar.specs.Faults.{Reading}
use Rattle.schema_core.specs.declared.schema.SchemaCause.{SchemaCause}
use Rattle.rule_model.specs.Books.{Book}
use Rattle.drawn_project.specs.Project.{AreRules, schema_text}

-- ---- lines as their tokens

ascii : (bytes : List ℕ) → list_all (λ b. nat_lt b 128) bytes ≡ true → IsAscii bytes
ascii [] low i = lit< tt
ascii (b ∷ bytes) low zero = ltb-true b 128 (and_parts _ _ low).0
ascii (b ∷ bytes) low (suc i) = ascii bytes (and_parts _ _ low).1 i

-- a line of ASCII, by the tokens that stand in it
tokens_of : (line : List ℕ) (tokens : LineTokens) → list_all (λ b. nat_lt b 128) line ≡ true → cond (is_passed line) Passed (tokens_from (length line) false line) ≡ tokens → line_tokens line ≡ tokens
unfolding line_tokens
tokens_of line tokens low is =
    ap (λ (b : Bool). cond (not b) NotUtf8 (cond (is_passed line) Passed (tokens_from (length line) false line))) (is_utf8-from_IsUtf8 line (IsUtf8-from_ascii line (ascii line low))) ∙ is

-- the tokens of each line, and then no line
abbrev HaveTokens : List (List ℕ) → List (List Token) → Type 0
HaveTokens lines [] = lines ≡ []
HaveTokens [] (tokens ∷ others) = ⊥
HaveTokens (line ∷ lines) (tokens ∷ others) = (line_tokens line ≡ Tokens tokens) × HaveTokens lines others

abbrev numbered : ℕ → List (List Token) → List Line
numbered number [] = []
numbered number (tokens ∷ others) = record { number = number; content = content.Tokens tokens } ∷ numbered (number + 1) others

lines_with : (number : ℕ) (lines : List (List ℕ)) (all : List (List Token)) → HaveTokens lines all → lines_from number lines ≡ numbered number all
unfolding lines_from
lines_with number lines [] none = ap (lines_from number) none
lines_with number [] (tokens ∷ others) have = absurd have
lines_with number (line ∷ lines) (tokens ∷ others) have =
    ap (λ (t : LineTokens). option_to_list (option_map (λ content. record { number = number; content = content }) (content_of t)) ++ lines_from (number + 1) lines) have.0
    ∙ ap (λ (ls : List Line). record { number = number; content = content.Tokens tokens } ∷ ls) (lines_with (number + 1) lines others have.1)

-- ---- the lines of the schema

abbrev named : List ℕ → List Token
named word = Name (codes "attr") ∷ Name word ∷ []

abbrev table_line : List Token
table_line = Name (codes "table") ∷ Name (codes "g") ∷ Quoted (codes "g.csv") ∷ []

abbrev domain_line : List Token
domain_line = Name (codes "attr") ∷ Name (codes "f") ∷ Name (codes "in") ∷ Quoted (codes "0") ∷ Sign Comma ∷ Quoted (codes "1") ∷ Sign Comma ∷ Quoted (codes "2") ∷ []

abbrev master_line : List Token
master_line = Name (codes "master") ∷ Name (codes "m") ∷ Quoted (codes "m.csv") ∷ []

is_table_line : line_tokens (codes "table g 'g.csv'") ≡ Tokens table_line
unfolding mark_at text_from token_at tokens_from
is_table_line = tokens_of (codes "table g 'g.csv'") _ refl refl

is_k : line_tokens (codes "attr k") ≡ Tokens (named (codes "k"))
unfolding mark_at text_from token_at tokens_from
is_k = tokens_of (codes "attr k") _ refl refl

is_a : line_tokens (codes "attr a") ≡ Tokens (named (codes "a"))
unfolding mark_at text_from token_at tokens_from
is_a = tokens_of (codes "attr a") _ refl refl

is_b : line_tokens (codes "attr b") ≡ Tokens (named (codes "b"))
unfolding mark_at text_from token_at tokens_from
is_b = tokens_of (codes "attr b") _ refl refl

is_domain_line : line_tokens (codes "attr f in '0', '1', '2'") ≡ Tokens domain_line
unfolding mark_at text_from token_at tokens_from
is_domain_line = tokens_of (codes "attr f in '0', '1', '2'") _ refl refl

is_master_line : line_tokens (codes "master m 'm.csv'") ≡ Tokens master_line
unfolding mark_at text_from token_at tokens_from
is_master_line = tokens_of (codes "master m 'm.csv'") _ refl refl

abbrev schema_lines : List (List Token)
schema_lines = table_line ∷ named (codes "k") ∷ named (codes "a") ∷ named (codes "b") ∷ domain_line ∷ master_line ∷ named (codes "k") ∷ named (codes "a") ∷ []

is_file : lines_from 1 (lines schema_text) ≡ numbered 1 schema_lines
unfolding schema_text
is_file = lines_with 1 (lines schema_text) schema_lines (is_table_line, (is_k, (is_a, (is_b, (is_domain_line, (is_master_line, (is_k, (is_a, refl))))))))

-- ---- the schema

abbrev any_text : List ℕ → Attr
any_text name = record { name = name; domain = AnyText }

abbrev pub g_attrs : List Attr
g_attrs = any_text (codes "k") ∷ any_text (codes "a") ∷ any_text (codes "b") ∷ record { name = codes "f"; domain = Finite (codes "0" ∷ codes "1" ∷ codes "2" ∷ []) } ∷ []

abbrev pub m_attrs : List Attr
m_attrs = any_text (codes "k") ∷ any_text (codes "a") ∷ []

abbrev pub generated_schema : Schema
generated_schema = record {
  tables = record { name = codes "g"; file = codes "g.csv"; master = false; attrs = g_attrs } ∷ record { name = codes "m"; file = codes "m.csv"; master = true; attrs = m_attrs } ∷ [];
  rules = None;
  script = None;
}

pub known_schema : reads standard schema_text ≡ Ok generated_schema
unfolding reads read_groups add_group add_attr head_at attr_at
known_schema = ap (λ (ls : List Line). read_cut schema_causes (add_group standard) empty_schema (cut (begins_with (codes "attr")) ls)) is_file

abbrev schema_in : Reading Schema SchemaCause → Schema
schema_in (Ok schema) = schema
schema_in (Err fault) = generated_schema

-- the rules of the project are over that schema
pub schema_of_rules : (rules : Book) → AreRules rules → rules.schema ≡ generated_schema
schema_of_rules rules are = ap schema_in (sym are.schema ∙ known_schema)
