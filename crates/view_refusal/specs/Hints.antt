-- What may stand where a refusal points: the names that are there, the values of a domain, and how much there may be.
use Rattle.std.specs.Prelude.{ℕ, ◌-◌, Bool, false, ◌==◌, List, [], ◌++◌, ◌∷◌, length, take, slice_get, if◌then◌else◌, Option, None, Some, codes, decimal}
use Rattle.std.specs.List.{flat_map, list_any}
use Rattle.std.specs.Str.{bytes_eq}
use Rattle.text_lists.specs.declared.limits.Limits.{Limits}
use Rattle.line_grammar.specs.Lines.{lines}
use Rattle.line_grammar.specs.Spelling.{comma_separated, line_text, name}
use Rattle.line_grammar.specs.Tokens.{line_tokens}
use Rattle.line_grammar.specs.declared.tokens.LineTokens.{LineTokens}
use Rattle.line_grammar.specs.declared.tokens.LineTokens.TheVariants.{BadTokens, NotUtf8, Passed, Tokens}
use Rattle.line_grammar.specs.declared.tokens.Token.{Token}
use Rattle.line_grammar.specs.declared.tokens.Token.TheVariants as token
use Rattle.line_grammar.specs.declared.writing.Part.{Part}
use Rattle.schema_core.specs.SchemaText.{value_parts}
use Rattle.schema_core.specs.declared.schema.Attr.{Attr}
use Rattle.schema_core.specs.declared.schema.Domain.{Domain}
use Rattle.schema_core.specs.declared.schema.Domain.TheVariants.{AnyText, Finite}
use Rattle.schema_core.specs.declared.schema.Schema.{Schema}
use Rattle.schema_core.specs.declared.schema.Table.{Table}
use Rattle.schema_draft.specs.Sheets.{record_count}
use Rattle.rule_model.specs.declared.fault.RuleFault.{RuleFault}
use Rattle.rule_model.specs.declared.fault.RuleFault.TheVariants as rule
use Rattle.rule_parser.specs.declared.fault.ParseCause.{ParseCause}
use Rattle.rule_parser.specs.declared.fault.ParseCause.TheVariants as parse
use Rattle.csv_tables.specs.declared.fault.TableFault.{TableFault}
use Rattle.csv_tables.specs.declared.fault.TableFault.TheVariants as table
use Rattle.cli_output.specs.declared.refusal.Cause.{Cause}
use Rattle.cli_output.specs.declared.refusal.Cause.TheVariants as cause

-- ---- names

abbrev pub table_parts : Table → List Part
table_parts table = name table.name ∷ []

abbrev pub attr_parts : Attr → List Part
attr_parts attr = name attr.name ∷ []

abbrev pub more_words : ℕ → List ℕ
more_words more = if more == 0 then [] else codes " and " ++ decimal more ++ codes " more"

-- the first twenty, and how many more there are
abbrev pub names_text : {A : Type 0} → (A → List Part) → List A → List ℕ
names_text parts items = line_text (comma_separated parts (take 20 items)) ++ more_words (length items - 20) ++ codes "\n"

abbrev pub tables_line : List Table → List ℕ
tables_line tables = codes "there are: " ++ names_text table_parts tables

unfoldable pub attrs_words : Table → List ℕ
attrs_words table = codes "there are in " ++ table.name ++ codes ": "

abbrev pub attrs_line : Table → List ℕ
attrs_line table = attrs_words table ++ names_text attr_parts table.attrs

-- ---- domains

unfoldable pub domain_head : List ℕ → Attr → List ℕ
domain_head table attr = codes "the domain of " ++ table ++ codes "." ++ attr.name ++ codes " is "

abbrev pub domain_words : List ℕ → Attr → List (List ℕ) → List ℕ
domain_words table attr values = domain_head table attr ++ line_text (comma_separated value_parts values) ++ codes "\n"

abbrev pub domain_text : List ℕ → Attr → Domain → List ℕ
domain_text table attr AnyText = []
domain_text table attr (Finite values) = domain_words table attr values

-- the values of an attribute of that name, where they are told
abbrev pub attr_domain : List ℕ → List ℕ → Attr → List ℕ
attr_domain table name attr = if bytes_eq attr.name name then domain_text table attr attr.domain else []

abbrev pub table_domain : List ℕ → Table → List ℕ
table_domain name table = flat_map (attr_domain table.name name) table.attrs

-- ---- a table file

abbrev pub fault_hint : TableFault → Table → List ℕ
fault_hint (table.HeaderColumn column) of_file = attrs_line of_file
fault_hint (table.HeaderLacks column) of_file = attrs_line of_file
fault_hint (table.NotInDomain at attr) of_file = table_domain attr of_file
fault_hint other of_file = []

-- a table whose file it is
abbrev pub file_hint : List ℕ → TableFault → Table → List ℕ
file_hint what fault table = if bytes_eq table.file what then fault_hint fault table else []

-- ---- a line of a rule file

abbrev pub token_list : LineTokens → List Token
token_list Passed = []
token_list NotUtf8 = []
token_list (BadTokens tokens) = tokens
token_list (Tokens tokens) = tokens

abbrev pub line_of : ℕ → Option (List ℕ) → Option (List ℕ)
line_of number None = None
line_of number (Some bytes) = slice_get (lines bytes) (number - 1)

abbrev pub tokens_of : Option (List ℕ) → List Token
tokens_of None = []
tokens_of (Some line) = token_list (line_tokens line)

abbrev pub is_its_name : Table → Token → Bool
is_its_name table (token.Name text) = bytes_eq text table.name
is_its_name table (token.Number n) = false
is_its_name table (token.Quoted text) = false
is_its_name table (token.Sign mark) = false

-- the line names the table
abbrev pub is_named : List Token → Table → Bool
is_named tokens table = list_any (is_its_name table) tokens

abbrev pub attrs_if_named : List Token → Table → List ℕ
attrs_if_named tokens table = if is_named tokens table then attrs_line table else []

abbrev pub domain_if_named : List Token → List ℕ → Table → List ℕ
domain_if_named tokens attr table = if is_named tokens table then table_domain attr table else []

abbrev pub rule_hint : RuleFault → List Token → List Table → List ℕ
rule_hint (rule.UnknownTable name) tokens tables = tables_line tables
rule_hint (rule.UnknownAttr name) tokens tables = flat_map (attrs_if_named tokens) tables
rule_hint (rule.ConstantOutsideDomain attr value) tokens tables = flat_map (domain_if_named tokens attr) tables
rule_hint other tokens tables = []

abbrev pub parse_hint : ParseCause → Option (List ℕ) → List Table → List ℕ
parse_hint (parse.Rule fault) line tables = rule_hint fault (tokens_of line) tables
parse_hint other line tables = []

-- ---- how much there may be

abbrev pub size_line : Option (List ℕ) → List ℕ
size_line None = []
size_line (Some bytes) = codes "this file has " ++ decimal (length bytes) ++ codes " bytes\n"

abbrev pub bytes_line : Limits → List ℕ
bytes_line limits = codes "at most " ++ decimal limits.file_bytes ++ codes " bytes in a file, and " ++ decimal limits.all_bytes ++ codes " in all files\n"

abbrev pub rows_line : Limits → List ℕ
rows_line limits = codes "at most " ++ decimal limits.rows ++ codes " rows\n"

-- the rows of a file of so many records, of which one is the header
abbrev pub rows_told : ℕ → List ℕ
rows_told records = codes "this file has " ++ decimal (records - 1) ++ codes " rows\n"

abbrev pub file_rows : Option (List ℕ) → List ℕ
file_rows None = []
file_rows (Some bytes) = rows_told (record_count bytes)

abbrev pub table_room : Limits → TableFault → Option (List ℕ) → List ℕ
table_room limits (table.RowsFull at) bytes = rows_line limits ++ file_rows bytes
table_room limits other bytes = []

-- of bytes and rows; the size of the file, where it is too large only beside the others, and how many rows it has
abbrev pub room_text : Limits → Cause → Option (List ℕ) → List ℕ
room_text limits cause.TooLarge bytes = bytes_line limits ++ size_line bytes
room_text limits (cause.Table fault) bytes = table_room limits fault bytes
room_text limits other bytes = []

-- ---- by the cause

abbrev pub cause_hint : List ℕ → Cause → Option (List ℕ) → List Table → List ℕ
cause_hint what (cause.Table fault) bytes tables = flat_map (file_hint what fault) tables
cause_hint what (cause.Rules number why) bytes tables = parse_hint why (line_of number bytes) tables
cause_hint what other bytes tables = []

-- nothing, where there is no schema
abbrev pub hint_text : List ℕ → Cause → Option (List ℕ) → Option Schema → List ℕ
hint_text what why bytes None = []
hint_text what why bytes (Some schema) = cause_hint what why bytes schema.tables
