-- The groups of a dependency, and the keys that an inclusion misses.
use Rattle.std.specs.Prelude.{ℕ, ◌==◌, if◌then◌else◌, List, [], ◌++◌, Option, Some, None, take, length, slice_get}
use Rattle.std.specs.List.{flat_map}
use Rattle.schema_core.specs.declared.schema.Attr.{Attr}
use Rattle.cfd_semantics.specs.declared.inclusion.InclusionRow.{InclusionRow}
use Rattle.rule_model.specs.declared.cind.Cind.{Cind}
use Rattle.rule_model.specs.declared.dep.Dep.{Dep}
use Rattle.violation_groups.specs.declared.Group.{Group}
use Rattle.violation_groups.specs.declared.Missing.{Missing}
use Rattle.violation_groups.specs.declared.ValueRows.{ValueRows}
use Rattle.html_text.specs.Elements.{bold, marked}
use Rattle.page_text.specs.Markup.{markup, more_text}
use Rattle.page_text.specs.Rows.{rows_cells}
use Rattle.page_text.specs.Words.{attr_code, attr_codes, line_name, wanted_of}
use Rattle.page_text.specs.declared.markup.Piece.TheVariants as piece
use Rattle.page_text.specs.declared.rows.Shown.{Shown}

-- ---- groups

-- a value on the right side, with its rows
abbrev pub value_row : Shown → ValueRows → List ℕ
value_row shown value = markup piece.FirstCell ++ marked value.value ++ markup piece.CellEnd ++ rows_cells shown value.rows

unfoldable pub values_rows : Shown → List ValueRows → List ℕ
values_rows shown values =
    flat_map (value_row shown) (take shown.first values) ++ more_text piece.WideCell shown.first (length values) piece.LastCellEnd

-- attributes with their values
abbrev pub equals_text : List Attr → List ℕ → List (List ℕ) → List ℕ
equals_text attrs places values = attr_codes attrs places ++ markup piece.Equals ++ flat_map bold values

-- what the rows of a group share: with no attribute on the left they may have any values
abbrev pub shared_text : List Attr → List ℕ → List (List ℕ) → List ℕ
shared_text attrs places values = if length places == 0 then markup piece.AnyValues else equals_text attrs places values

-- that, and what is asked of them
unfoldable pub caption : List Attr → Dep → Group → List ℕ
caption attrs dep group = line_name dep.name group.k ++ shared_text attrs dep.rule.x group.key ++ wanted_of (slice_get dep.rule.rows group.k)

unfoldable pub group_head : List Attr → Dep → Group → List ℕ
group_head attrs dep group =
    markup piece.GroupTable ++ caption attrs dep group ++ markup piece.CaptionEnd ++ attr_code (slice_get attrs dep.rule.a) ++ markup piece.Columns

abbrev pub group_text : List Attr → Dep → Shown → Group → List ℕ
group_text attrs dep shown group = group_head attrs dep group ++ values_rows shown group.values ++ markup piece.TableEnd

abbrev pub groups_text : List Attr → Dep → Shown → List Group → List ℕ
groups_text attrs dep shown groups =
    flat_map (group_text attrs dep shown) (take shown.first groups) ++ more_text piece.MoreGroups shown.first (length groups) piece.MoreGroupsEnd

-- ---- missing keys

-- the constants by which a tableau row chooses its rows, if there are any
abbrev pub chosen_by : List Attr → List ℕ → Option (InclusionRow (List ℕ)) → List ℕ
chosen_by attrs places None = []
chosen_by attrs places (Some row) = if length places == 0 then [] else markup piece.Where ++ equals_text attrs places row.xp

-- a key that is missing, with the rows that have it
abbrev pub missing_row : List Attr → Cind → Shown → Missing → List ℕ
missing_row attrs cind shown missing =
    markup piece.FirstCell ++ line_name cind.name missing.k ++ flat_map marked missing.key ++ chosen_by attrs cind.rule.xp (slice_get cind.rule.rows missing.k) ++ markup piece.CellEnd ++ rows_cells shown missing.rows

unfoldable pub missing_rows : List Attr → Cind → Shown → List Missing → List ℕ
missing_rows attrs cind shown all =
    flat_map (missing_row attrs cind shown) (take shown.first all) ++ more_text piece.WideCell shown.first (length all) piece.LastCellEnd

abbrev pub missing_table : List Attr → Cind → Shown → List Missing → List ℕ
missing_table attrs cind shown all =
    markup piece.MissingTable ++ attr_codes attrs cind.rule.x ++ markup piece.Columns ++ missing_rows attrs cind shown all ++ markup piece.TableEnd
