-- The text of one row: its values, and the groups in which it breaks a rule.
use Rattle.std.specs.Prelude.{ℕ, ◌==◌, Bool, List, [], ◌∷◌, ◌++◌, zip, None, codes, decimal}
use Rattle.std.specs.List.{flat_map, list_any}
use Rattle.line_grammar.specs.Tokens.{quoted}
use Rattle.schema_core.specs.Lookups.{attrs_at}
use Rattle.schema_core.specs.declared.schema.Attr.{Attr}
use Rattle.schema_core.specs.declared.schema.Schema.{Schema}
use Rattle.rule_model.specs.Books.{Book, book_cinds, book_deps}
use Rattle.rule_model.specs.declared.dep.Dep.{Dep}
use Rattle.rule_model.specs.declared.cind.Cind.{Cind}
use Rattle.rule_parser.specs.RuleText.{table_name}
use Rattle.violation_groups.specs.declared.groups.ValueRows.{ValueRows}
use Rattle.violation_groups.specs.declared.groups.Group.{Group}
use Rattle.violation_groups.specs.declared.groups.Missing.{Missing}
use Rattle.violation_groups.specs.declared.groups.Findings.{Findings}
use Rattle.view_list.specs.Groups.{group_text, missing_text}
use Rattle.view_list.specs.Listed.{only_if, read_of, refused_text}
use Rattle.view_list.specs.Pieces.{id_text}

-- ---- values

-- `ATTR VALUE`
abbrev pub cell_line : Attr × List ℕ → List ℕ
cell_line cell = codes "  " ++ cell.0.name ++ codes " " ++ quoted cell.1 ++ codes "\n"

-- `row ID of TABLE`, and the values of the row
abbrev pub cells_text : Schema → List ℕ → ℕ → ℕ → List (List ℕ) → List ℕ
cells_text schema counts table row texts =
    codes "row " ++ id_text (read_of counts table) row ++ codes " of " ++ table_name schema table ++ codes "\n" ++ flat_map cell_line (zip (attrs_at schema table) texts)

-- ---- groups in which the row stands

abbrev pub has_id : ℕ → List ℕ → Bool
has_id row rows = list_any (λ id. id == row) rows

abbrev pub stands_in : ℕ → Group → Bool
stands_in row group = list_any (λ (value : ValueRows). has_id row value.rows) group.values

abbrev pub dep_groups : Schema → List ℕ → ℕ → Dep × List Group → List ℕ
dep_groups schema counts row found =
    flat_map (λ (group : Group). only_if (stands_in row group) (group_text None (read_of counts found.0.table) (attrs_at schema found.0.table) found.0 group)) found.1

abbrev pub cind_groups : Schema → List ℕ → ℕ → Cind × List Missing → List ℕ
cind_groups schema counts row found =
    flat_map (λ (missing : Missing). only_if (has_id row missing.rows) (missing_text None (read_of counts found.0.left) schema found.0 missing)) found.1

-- those of the dependencies of the table, and of the inclusions with it on the left
abbrev pub dep_of_row : Schema → List ℕ → ℕ → ℕ → Dep × List Group → List ℕ
dep_of_row schema counts table row found = only_if (found.0.table == table) (dep_groups schema counts row found)

abbrev pub cind_of_row : Schema → List ℕ → ℕ → ℕ → Cind × List Missing → List ℕ
cind_of_row schema counts table row found = only_if (found.0.left == table) (cind_groups schema counts row found)

abbrev pub row_body : Book → List ℕ → ℕ → ℕ → Findings → List ℕ
row_body rules counts table row findings =
    flat_map (dep_of_row rules.schema counts table row) (zip (book_deps rules) findings.deps) ++ flat_map (cind_of_row rules.schema counts table row) (zip (book_cinds rules) findings.cinds)

abbrev pub standing_text : List ℕ → List ℕ
standing_text [] = codes "no violations\n"
standing_text (byte ∷ bytes) = codes "breaks\n" ++ byte ∷ bytes

-- the whole text, by what is told of the rules
abbrev pub row_text : Schema → List ℕ → ℕ → ℕ → List (List ℕ) → List ℕ → List ℕ
row_text schema counts table row texts body = cells_text schema counts table row texts ++ standing_text body

-- ---- a row that is not there

abbrev pub no_table : List ℕ → List ℕ
no_table table = refused_text table (codes "UnknownTable")

abbrev pub no_row : List ℕ → ℕ → List ℕ
no_row table row = refused_text table (codes "UnknownRow " ++ decimal row)
