-- Rows that break a rule together, as they are told: what they share, and what stands against each other or is missing.
use Rattle.std.specs.Prelude.{ℕ, ◌+◌, List, [], ◌++◌, length, zip, slice_get, Option, codes, decimal}
use Rattle.std.specs.List.{flat_map}
use Rattle.std.specs.Option.{option_map_or}
use Rattle.cfd_semantics.specs.declared.dependency.TableauRow.{TableauRow}
use Rattle.cfd_semantics.specs.declared.inclusion.InclusionRow.{InclusionRow}
use Rattle.schema_core.specs.Lookups.{attrs_at}
use Rattle.schema_core.specs.declared.schema.Attr.{Attr}
use Rattle.schema_core.specs.declared.schema.Schema.{Schema}
use Rattle.rule_model.specs.declared.dep.Dep.{Dep}
use Rattle.rule_model.specs.declared.cind.Cind.{Cind}
use Rattle.rule_parser.specs.RuleText.{attr_name, table_name}
use Rattle.violation_groups.specs.declared.groups.ValueRows.{ValueRows}
use Rattle.violation_groups.specs.declared.groups.Group.{Group}
use Rattle.violation_groups.specs.declared.groups.Missing.{Missing}
use Rattle.view_list.specs.Pieces.{demand_text, first_of, left_out, more_text, rows_text, value_text, values_text}

-- `RULE.K: `: a tableau row by its number
abbrev pub place_text : List ℕ → ℕ → List ℕ
place_text name k = codes "  " ++ name ++ codes "." ++ decimal (k + 1) ++ codes ": "

-- ---- rows whose values stand against each other

abbrev pub demand_of : List (TableauRow (List ℕ)) → ℕ → List ℕ
demand_of rows k = option_map_or (λ (row : TableauRow (List ℕ)). demand_text row.a) (slice_get rows k) []

-- `RULE.K: ATTR VALUE, ..: ATTR must be ..`
abbrev pub group_line : List Attr → Dep → Group → List ℕ
group_line attrs dep group =
    place_text dep.name group.k ++ values_text attrs (zip dep.rule.x group.key) ++ codes ": " ++ attr_name attrs dep.rule.a ++ codes " must be " ++ demand_of dep.rule.rows group.k ++ codes "\n"

-- `ATTR VALUE in N rows: ID, ..`
abbrev pub value_line : Option ℕ → ℕ → List Attr → ℕ → ValueRows → List ℕ
value_line most read attrs attr value = codes "    " ++ value_text attrs (attr, value.value) ++ codes " " ++ rows_text most read value.rows

abbrev pub group_text : Option ℕ → ℕ → List Attr → Dep → Group → List ℕ
group_text most read attrs dep group =
    group_line attrs dep group ++ flat_map (value_line most read attrs dep.rule.a) (first_of most group.values) ++ more_text (codes "    ") (left_out most (length group.values)) (codes "\n")

-- ---- rows whose key is missing

-- `RULE.K: ATTR VALUE, ..: TABLE lacks ATTR VALUE, ..`: the key, with the constants of either side
abbrev pub missing_line : Schema → Cind → Missing → InclusionRow (List ℕ) → List ℕ
missing_line schema cind missing row =
    place_text cind.name missing.k ++ values_text (attrs_at schema cind.left) (zip cind.rule.x missing.key ++ zip cind.rule.xp row.xp) ++ codes ": " ++ table_name schema cind.right ++ codes " lacks "
    ++ values_text (attrs_at schema cind.right) (zip cind.rule.y missing.key ++ zip cind.rule.yp row.yp) ++ codes "\n"

abbrev pub missing_at : Schema → Cind → Missing → List ℕ
missing_at schema cind missing = option_map_or (missing_line schema cind missing) (slice_get cind.rule.rows missing.k) []

abbrev pub missing_text : Option ℕ → ℕ → Schema → Cind → Missing → List ℕ
missing_text most read schema cind missing = missing_at schema cind missing ++ codes "    " ++ rows_text most read missing.rows
