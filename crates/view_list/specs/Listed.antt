-- The text of all violations, or of those that are asked for: by rule and by group.
use Rattle.std.specs.Prelude.{ℕ, ◌==◌, ◌&&◌, Bool, true, not, List, [], ◌∷◌, ◌++◌, length, sum_by, zip, slice_index_or, is_some, if◌then◌else◌, Option, None, Some, codes}
use Rattle.std.specs.List.{flat_map, list_any}
use Rattle.std.specs.Str.{bytes_eq}
use Rattle.line_grammar.specs.Tokens.{quoted}
use Rattle.schema_core.specs.Lookups.{attrs_at}
use Rattle.schema_core.specs.Schemas.{table_place}
use Rattle.schema_core.specs.declared.schema.Schema.{Schema}
use Rattle.rule_model.specs.Books.{Book, book_cinds, book_deps}
use Rattle.rule_model.specs.Declarations.{name_of}
use Rattle.rule_model.specs.declared.dep.Dep.{Dep}
use Rattle.rule_model.specs.declared.cind.Cind.{Cind}
use Rattle.rule_parser.specs.RuleText.{table_name}
use Rattle.violation_groups.specs.Groups.{group_size, missing_size}
use Rattle.violation_groups.specs.declared.groups.Group.{Group}
use Rattle.violation_groups.specs.declared.groups.Missing.{Missing}
use Rattle.violation_groups.specs.declared.groups.Findings.{Findings}
use Rattle.view_options.specs.declared.options.ListOptions.{ListOptions}
use Rattle.view_list.specs.Groups.{group_text, missing_text}
use Rattle.view_list.specs.Pieces.{counted, first_of, left_out, more_text}

-- ---- what is asked for

abbrev pub is_asked : Option (List ℕ) → List ℕ → Bool
is_asked None name = true
is_asked (Some asked) name = bytes_eq asked name

-- a rule of that name over that table is told where it has violations and is asked for
abbrev pub is_told : ListOptions → List ℕ → List ℕ → ℕ → Bool
is_told options name table groups = is_asked options.rule name && is_asked options.table table && not (groups == 0)

-- how many rows were read of a numbered table
abbrev pub read_of : List ℕ → ℕ → ℕ
read_of counts table = slice_index_or counts table 0

abbrev pub only_if : Bool → List ℕ → List ℕ
only_if test text = if test then text else []

-- `KIND RULE of TABLE: `
abbrev pub title_text : List ℕ → List ℕ → List ℕ → List ℕ
title_text kind name table = kind ++ codes " " ++ name ++ codes " of " ++ table ++ codes ": "

-- ---- dependencies

-- `dep RULE of TABLE: N rows in M groups`
abbrev pub dep_head : Schema → Dep → List Group → List ℕ
dep_head schema dep groups =
    title_text (codes "dep") dep.name (table_name schema dep.table) ++ counted (sum_by group_size groups) (codes "row") ++ codes " in " ++ counted (length groups) (codes "group") ++ codes "\n"

abbrev pub dep_text : Option ℕ → Schema → List ℕ → Dep → List Group → List ℕ
dep_text most schema counts dep groups =
    dep_head schema dep groups ++ flat_map (group_text most (read_of counts dep.table) (attrs_at schema dep.table) dep) (first_of most groups) ++ more_text (codes "  ") (left_out most (length groups)) (codes "\n")

abbrev pub dep_part : ListOptions → Schema → List ℕ → Dep × List Group → List ℕ
dep_part options schema counts found =
    only_if (is_told options found.0.name (table_name schema found.0.table) (length found.1)) (dep_text options.first schema counts found.0 found.1)

-- ---- inclusions

-- `cind RULE of TABLE: N rows with M keys not in TABLE`
abbrev pub cind_head : Schema → Cind → List Missing → List ℕ
cind_head schema cind missing =
    title_text (codes "cind") cind.name (table_name schema cind.left) ++ counted (sum_by missing_size missing) (codes "row") ++ codes " with " ++ counted (length missing) (codes "key")
    ++ codes " not in " ++ table_name schema cind.right ++ codes "\n"

abbrev pub keys_text : Option ℕ → Schema → List ℕ → Cind → List Missing → List ℕ
keys_text most schema counts cind missing =
    flat_map (missing_text most (read_of counts cind.left) schema cind) (first_of most missing) ++ more_text (codes "  ") (left_out most (length missing)) (codes "\n")

abbrev pub cind_text : Option ℕ → Schema → List ℕ → Cind → List Missing → List ℕ
cind_text most schema counts cind missing = cind_head schema cind missing ++ keys_text most schema counts cind missing

abbrev pub cind_part : ListOptions → Schema → List ℕ → Cind × List Missing → List ℕ
cind_part options schema counts found =
    only_if (is_told options found.0.name (table_name schema found.0.left) (length found.1)) (cind_text options.first schema counts found.0 found.1)

-- ---- all rules

-- what is told of the rules that are asked for; counts: how many rows were read of each table
abbrev pub list_body : Book → List ℕ → ListOptions → Findings → List ℕ
list_body rules counts options findings =
    flat_map (dep_part options rules.schema counts) (zip (book_deps rules) findings.deps) ++ flat_map (cind_part options rules.schema counts) (zip (book_cinds rules) findings.cinds)

-- the whole text, by what is told of the rules
abbrev pub list_text : List ℕ → List ℕ
list_text [] = codes "no violations\n"
list_text (byte ∷ bytes) = codes "Rows are told by their ids; the id of a row that was read is the number of its record.\n" ++ byte ∷ bytes

-- ---- names that are not there

-- `refused NAME CAUSE`
abbrev pub refused_text : List ℕ → List ℕ → List ℕ
refused_text name cause = codes "refused " ++ quoted name ++ codes " " ++ cause ++ codes "\n"

-- some declaration has the name
abbrev pub has_rule : Book → List ℕ → Bool
has_rule rules name = list_any (λ decl. bytes_eq (name_of decl) name) rules.decls

abbrev pub table_refusal : Book → Option (List ℕ) → List ℕ
table_refusal rules None = []
table_refusal rules (Some name) = if is_some (table_place rules.schema name) then [] else refused_text name (codes "UnknownTable")

abbrev pub rule_refusal : Book → Option (List ℕ) → List ℕ
rule_refusal rules None = []
rule_refusal rules (Some name) = if has_rule rules name then [] else refused_text name (codes "UnknownRule")

-- the first text that isn't empty
abbrev pub or_else : List ℕ → List ℕ → List ℕ
or_else [] other = other
or_else (byte ∷ bytes) other = byte ∷ bytes

-- the line that refuses the table, or else the rule, that is asked for; empty where both are there
abbrev pub list_refusal : Book → ListOptions → List ℕ
list_refusal rules options = or_else (table_refusal rules options.table) (rule_refusal rules options.rule)
