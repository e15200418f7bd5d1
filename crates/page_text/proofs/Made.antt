-- A page is made of parts, whatever it tells.
use Rattle.std.proofs.Common.{ℕ, zero, suc, ◌+◌, Bool, true, false, cond, List, [], ◌∷◌, ◌++◌, take, length, Option, None, Some, refl, sym, ap, ◌∙◌, append-nil}
use Rattle.std.specs.Prelude.{nat_le, slice_get, slice_index, ◌==◌, ◌-◌}
use Rattle.std.specs.List.{flat_map}
use Rattle.std.proofs.lemmas.List.Concat.{flat_map-append}
use Rattle.cfd_semantics.specs.declared.dependency.TableauRow.{TableauRow}
use Rattle.cfd_semantics.specs.declared.pattern.Pattern.{Pattern}
use Rattle.cfd_semantics.specs.declared.pattern.Pattern.TheVariants.{Any, Is, In, NotIn}
use Rattle.schema_core.specs.declared.schema.Attr.{Attr}
use Rattle.schema_core.specs.declared.schema.Table.{Table}
use Rattle.rule_model.specs.Books.{Book, book_cinds, book_deps}
use Rattle.cfd_semantics.specs.declared.inclusion.InclusionRow.{InclusionRow}
use Rattle.rule_model.specs.declared.cind.Cind.{Cind}
use Rattle.rule_model.specs.declared.dep.Dep.{Dep}
use Rattle.violation_groups.specs.declared.Findings.{Findings}
use Rattle.violation_groups.specs.declared.Group.{Group}
use Rattle.violation_groups.specs.declared.Missing.{Missing}
use Rattle.violation_groups.specs.declared.ValueRows.{ValueRows}
use Rattle.html_text.specs.Elements.{between, bold, cell, code, each_place, marked, more_in, number_between, number_cell}
use Rattle.page_text.specs.Markup.{markup, more_text}
use Rattle.page_text.specs.Parts.{IsMadeOfParts, Part, Markup, Style, Element, Text, Number, part_text}
use Rattle.page_text.specs.Words.{attr_code, attr_codes, cind_words, dep_words, dep_words_of, line_name, side_of, wanted, wanted_of}
use Rattle.page_text.specs.Rows.{id_end, id_text, rows_cells}
use Rattle.page_text.specs.Groups.{caption, chosen_by, equals_text, group_head, group_text, groups_text, missing_row, missing_rows, missing_table, value_row, values_rows}
use Rattle.page_text.specs.Kinds.{Kind, cind_kind, dep_kind}
use Rattle.page_text.specs.Overview.{bar, row_end, rule_name, rule_row_at, rule_row_of, rule_rows, table_at, table_of, tables_rows}
use Rattle.page_text.specs.Sections.{body_of, counts_line, section, section_at, section_head, section_of, sections}
use Rattle.page_text.specs.Checks.{checks_text, line_item}
use Rattle.page_text.specs.Page.{head_text, overview_text, page_text, sections_text, state_piece}
use Rattle.page_text.specs.Totals.{counts_of}
use Rattle.page_text.specs.declared.markup.Piece.{Piece}
use Rattle.page_text.specs.declared.markup.Piece.TheVariants as piece
use Rattle.page_text.specs.declared.page.Options.{Options}
use Rattle.page_text.specs.declared.rows.RowCounts.{RowCounts}
use Rattle.page_text.specs.declared.rows.Shown.{Shown}
use Rattle.page_text.specs.declared.totals.Counts.{Counts}

-- ---- parts, and what is made of them

nothing : IsMadeOfParts []
nothing = record { parts = []; made = refl }

part : (p : Part) → IsMadeOfParts (part_text p)
part p = record { parts = p ∷ []; made = sym (append-nil (part_text p)) }

infixl 10 ◌+++◌
◌+++◌ : {a b : List ℕ} → IsMadeOfParts a → IsMadeOfParts b → IsMadeOfParts (a ++ b)
◌+++◌ {a} {b} m n = record {
  parts = m.parts ++ n.parts;
  made = ap (λ t. t ++ b) m.made ∙ ap (λ t. flat_map part_text m.parts ++ t) n.made ∙ sym (flat_map-append part_text m.parts n.parts);
}

whether : {a b : List ℕ} (test : Bool) → IsMadeOfParts a → IsMadeOfParts b → IsMadeOfParts (cond test a b)
whether true m n = m
whether false m n = n

each : {X : Type 0} (text : X → List ℕ) → ((x : X) → IsMadeOfParts (text x)) → (xs : List X) → IsMadeOfParts (flat_map text xs)
each text made [] = nothing
each text made (x ∷ xs) = made x +++ each text made xs

each_at : (text : ℕ → List ℕ) → ((place : ℕ) → IsMadeOfParts (text place)) → (place : ℕ) → IsMadeOfParts (each_place text place)
each_at text made zero = nothing
each_at text made (suc place) = each_at text made place +++ made place

piece_part : (p : Piece) → IsMadeOfParts (markup p)
piece_part p = part (Markup p)

-- ---- elements

in_between : {front behind : List ℕ} (text : List ℕ) → IsMadeOfParts front → IsMadeOfParts behind → IsMadeOfParts (between front text behind)
in_between text m n = m +++ part (Text text) +++ n

number_in : {front behind : List ℕ} (size : ℕ) → IsMadeOfParts front → IsMadeOfParts behind → IsMadeOfParts (number_between front size behind)
number_in size m n = m +++ part (Number size) +++ n

code_made : (text : List ℕ) → IsMadeOfParts (code text)
unfolding code
code_made text = in_between text (part (Element 0)) (part (Element 1))

bold_made : (text : List ℕ) → IsMadeOfParts (bold text)
unfolding bold
bold_made text = in_between text (part (Element 2)) (part (Element 3))

marked_made : (text : List ℕ) → IsMadeOfParts (marked text)
unfolding marked
marked_made text = in_between text (part (Element 4)) (part (Element 5))

cell_made : (text : List ℕ) → IsMadeOfParts (cell text)
unfolding cell
cell_made text = in_between text (part (Element 6)) (part (Element 7))

number_cell_made : (size : ℕ) → IsMadeOfParts (number_cell size)
unfolding number_cell
number_cell_made size = number_in size (part (Element 8)) (part (Element 7))

more_made : (front : Piece) (first size : ℕ) (behind : Piece) → IsMadeOfParts (more_text front first size behind)
unfolding more_in
more_made front first size behind =
    whether (nat_le size first) nothing (piece_part front +++ part (Element 9) +++ part (Number (size - first)) +++ part (Element 10) +++ piece_part behind)

-- ---- words

attr_made : (attr : Option Attr) → IsMadeOfParts (attr_code attr)
attr_made None = nothing
attr_made (Some attr) = code_made attr.name

attrs_made : (attrs : List Attr) (places : List ℕ) → IsMadeOfParts (attr_codes attrs places)
attrs_made attrs places = each (λ place. attr_code (slice_get attrs place)) (λ place. attr_made (slice_get attrs place)) places

dep_words_of_made : (table : Option Table) (dep : Dep) → IsMadeOfParts (dep_words_of table dep)
dep_words_of_made None dep = nothing
dep_words_of_made (Some table) dep =
    code_made table.name +++ piece_part piece.Colon +++ attrs_made table.attrs dep.rule.x +++ piece_part piece.Arrow +++ attr_made (slice_get table.attrs dep.rule.a)

dep_words_made : (tables : List Table) (dep : Dep) → IsMadeOfParts (dep_words tables dep)
dep_words_made tables dep = dep_words_of_made (slice_get tables dep.table) dep

side_made : (table : Option Table) (key pattern : List ℕ) → IsMadeOfParts (side_of table key pattern)
side_made None key pattern = nothing
side_made (Some table) key pattern =
    code_made table.name +++ piece_part piece.SideOpen +++ attrs_made table.attrs key +++ piece_part piece.SideMid +++ attrs_made table.attrs pattern +++ piece_part piece.SideClose

cind_words_made : (tables : List Table) (cind : Cind) → IsMadeOfParts (cind_words tables cind)
cind_words_made tables cind =
    side_made (slice_get tables cind.left) cind.rule.x cind.rule.xp +++ piece_part piece.In +++ side_made (slice_get tables cind.right) cind.rule.y cind.rule.yp

line_name_made : (name : List ℕ) (k : ℕ) → IsMadeOfParts (line_name name k)
unfolding line_name
line_name_made name k = in_between name (piece_part piece.Small) (piece_part piece.Dot) +++ part (Number (k + 1)) +++ piece_part piece.SmallEnd

wanted_made : (pattern : Pattern (List ℕ)) → IsMadeOfParts (wanted pattern)
wanted_made Any = nothing
wanted_made (Is value) = piece_part piece.MustBe +++ bold_made value
wanted_made (In values) = piece_part piece.OneOf +++ each bold bold_made values
wanted_made (NotIn values) = piece_part piece.NoneOf +++ each bold bold_made values

wanted_of_made : (row : Option (TableauRow (List ℕ))) → IsMadeOfParts (wanted_of row)
wanted_of_made None = nothing
wanted_of_made (Some row) = wanted_made row.a

-- ---- rows and groups

id_made : (shown : Shown) (row : ℕ) → IsMadeOfParts (id_text shown row)
id_made shown row = part (Number row) +++ piece_part (id_end shown row)

rows_made : (shown : Shown) (rows : List ℕ) → IsMadeOfParts (rows_cells shown rows)
unfolding rows_cells
rows_made shown rows =
    number_cell_made (length rows) +++ piece_part piece.Cell +++ (each (id_text shown) (id_made shown) (take shown.first rows) +++ more_made piece.More shown.first (length rows) piece.MoreEnd) +++ piece_part piece.LastCellEnd

value_made : (shown : Shown) (value : ValueRows) → IsMadeOfParts (value_row shown value)
value_made shown value = piece_part piece.FirstCell +++ marked_made value.value +++ piece_part piece.CellEnd +++ rows_made shown value.rows

values_made : (shown : Shown) (values : List ValueRows) → IsMadeOfParts (values_rows shown values)
unfolding values_rows
values_made shown values = each (value_row shown) (value_made shown) (take shown.first values) +++ more_made piece.WideCell shown.first (length values) piece.LastCellEnd

equals_made : (attrs : List Attr) (places : List ℕ) (values : List (List ℕ)) → IsMadeOfParts (equals_text attrs places values)
equals_made attrs places values = attrs_made attrs places +++ piece_part piece.Equals +++ each bold bold_made values

caption_made : (attrs : List Attr) (dep : Dep) (group : Group) → IsMadeOfParts (caption attrs dep group)
unfolding caption
caption_made attrs dep group =
    line_name_made dep.name group.k +++ whether (length dep.rule.x == 0) (piece_part piece.AnyValues) (equals_made attrs dep.rule.x group.key) +++ wanted_of_made (slice_get dep.rule.rows group.k)

group_head_made : (attrs : List Attr) (dep : Dep) (group : Group) → IsMadeOfParts (group_head attrs dep group)
unfolding group_head
group_head_made attrs dep group =
    piece_part piece.GroupTable +++ caption_made attrs dep group +++ piece_part piece.CaptionEnd +++ attr_made (slice_get attrs dep.rule.a) +++ piece_part piece.Columns

group_made : (attrs : List Attr) (dep : Dep) (shown : Shown) (group : Group) → IsMadeOfParts (group_text attrs dep shown group)
group_made attrs dep shown group = group_head_made attrs dep group +++ values_made shown group.values +++ piece_part piece.TableEnd

groups_made : (attrs : List Attr) (dep : Dep) (shown : Shown) (groups : List Group) → IsMadeOfParts (groups_text attrs dep shown groups)
groups_made attrs dep shown groups =
    each (group_text attrs dep shown) (group_made attrs dep shown) (take shown.first groups) +++ more_made piece.MoreGroups shown.first (length groups) piece.MoreGroupsEnd

chosen_made : (attrs : List Attr) (places : List ℕ) (row : Option (InclusionRow (List ℕ))) → IsMadeOfParts (chosen_by attrs places row)
chosen_made attrs places None = nothing
chosen_made attrs places (Some row) = whether (length places == 0) nothing (piece_part piece.Where +++ equals_made attrs places row.xp)

missing_made : (attrs : List Attr) (cind : Cind) (shown : Shown) (missing : Missing) → IsMadeOfParts (missing_row attrs cind shown missing)
missing_made attrs cind shown missing =
    piece_part piece.FirstCell +++ line_name_made cind.name missing.k +++ each marked marked_made missing.key +++ chosen_made attrs cind.rule.xp (slice_get cind.rule.rows missing.k) +++ piece_part piece.CellEnd +++ rows_made shown missing.rows

missing_rows_made : (attrs : List Attr) (cind : Cind) (shown : Shown) (all : List Missing) → IsMadeOfParts (missing_rows attrs cind shown all)
unfolding missing_rows
missing_rows_made attrs cind shown all = each (missing_row attrs cind shown) (missing_made attrs cind shown) (take shown.first all) +++ more_made piece.WideCell shown.first (length all) piece.LastCellEnd

missing_table_made : (attrs : List Attr) (cind : Cind) (shown : Shown) (all : List Missing) → IsMadeOfParts (missing_table attrs cind shown all)
missing_table_made attrs cind shown all =
    piece_part piece.MissingTable +++ attrs_made attrs cind.rule.x +++ piece_part piece.Columns +++ missing_rows_made attrs cind shown all +++ piece_part piece.TableEnd

-- ---- tables, and rules with their bars

table_made : (table : Option Table) (read now : ℕ) → IsMadeOfParts (table_of table read now)
table_made None read now = nothing
table_made (Some table) read now =
    piece_part piece.Row +++ cell_made table.name +++ cell_made table.file +++ number_cell_made read +++ number_cell_made now +++ piece_part piece.RowEnd

tables_made : (tables : List Table) (rows : RowCounts) → IsMadeOfParts (tables_rows tables rows)
tables_made tables rows = each_at (table_at tables rows) (λ place. table_made (slice_get tables place) (slice_index rows.read place) (slice_index rows.present place)) (length tables)

rule_name_made : (link : Piece) (name : List ℕ) (place count : ℕ) → IsMadeOfParts (rule_name link name place count)
rule_name_made link name place count =
    whether (count == 0) (part (Text name)) (number_in place (piece_part link) (piece_part piece.LinkText) +++ part (Text name) +++ piece_part piece.LinkEnd)

bar_made : (count largest : ℕ) → IsMadeOfParts (bar count largest)
bar_made count largest =
    whether (count == 0) (piece_part piece.NoBar) (number_in count (piece_part piece.Bar) (piece_part piece.Slash) +++ number_in largest nothing (piece_part piece.BarEnd))

row_end_made : (count largest : ℕ) → IsMadeOfParts (row_end count largest)
row_end_made count largest = piece_part piece.CellEnd +++ number_cell_made count +++ bar_made count largest

section_head_made : (section : Piece) (place : ℕ) (name : List ℕ) → IsMadeOfParts (section_head section place name)
section_head_made section place name = number_in place (piece_part section) (piece_part piece.Heading) +++ in_between name nothing (piece_part piece.HeadingEnd)

counts_made : (count : ℕ) (word : Piece) (groups : ℕ) → IsMadeOfParts (counts_line count word groups)
counts_made count word groups = number_in count (piece_part piece.Violations) (piece_part word) +++ number_in groups nothing (piece_part piece.CountsEnd)

-- what is told of a kind of rules, where its words and its body are made of parts
module _ {Rule Found : Type 0} (kind : Kind Rule Found) (words : (tables : List Table) (rule : Rule) → IsMadeOfParts (kind.words tables rule)) (body : (attrs : List Attr) (rule : Rule) (shown : Shown) (found : List Found) → IsMadeOfParts (kind.body attrs rule shown found)) where
  rule_row_made : (tables : List Table) (rule : Option Rule) (place count largest : ℕ) → IsMadeOfParts (rule_row_of kind tables rule place count largest)
  rule_row_made tables None place count largest = nothing
  rule_row_made tables (Some rule) place count largest =
      (piece_part piece.FirstCell +++ rule_name_made kind.link (kind.name rule) place count +++ piece_part piece.Break) +++ words tables rule +++ row_end_made count largest

  rule_rows_made : (tables : List Table) (rules : List Rule) (counts : List ℕ) (largest : ℕ) → IsMadeOfParts (rule_rows kind tables rules counts largest)
  rule_rows_made tables rules counts largest =
      each_at (rule_row_at kind tables rules counts largest) (λ place. rule_row_made tables (slice_get rules place) place (slice_index counts place) largest) (length rules)

  body_of_made : (table : Option Table) (rule : Rule) (shown : Shown) (found : List Found) → IsMadeOfParts (body_of kind table rule shown found)
  body_of_made None rule shown found = nothing
  body_of_made (Some table) rule shown found = body table.attrs rule shown found

  section_made : (tables : List Table) (rule : Rule) (shown : Shown) (place count : ℕ) (found : List Found) → IsMadeOfParts (section kind tables rule shown place count found)
  section_made tables rule shown place count found =
      whether (length found == 0) nothing
      (section_head_made kind.section place (kind.name rule) +++ words tables rule +++ counts_made count kind.groups (length found) +++ body_of_made (slice_get tables (kind.table rule)) rule shown found +++ piece_part piece.SectionEnd)

  section_of_made : (tables : List Table) (rule : Option Rule) (read : List ℕ) (first place count : ℕ) (found : Option (List Found)) → IsMadeOfParts (section_of kind tables rule read first place count found)
  section_of_made tables None read first place count found = nothing
  section_of_made tables (Some rule) read first place count None = nothing
  section_of_made tables (Some rule) read first place count (Some found) = section_made tables rule (record { first = first; read = slice_index read (kind.table rule) }) place count found

  sections_made : (tables : List Table) (rules : List Rule) (read : List ℕ) (first : ℕ) (counts : List ℕ) (found : List (List Found)) → IsMadeOfParts (sections kind tables rules read first counts found)
  sections_made tables rules read first counts found =
      each_at (section_at kind tables rules read first counts found) (λ place. section_of_made tables (slice_get rules place) read first place (slice_index counts place) (slice_get found place)) (length rules)

-- ---- the page

line_made : (line : List ℕ) → IsMadeOfParts (line_item line)
line_made line = in_between line (piece_part piece.Item) (piece_part piece.ItemEnd)

checks_made : (first : ℕ) (found : List (List ℕ)) → IsMadeOfParts (checks_text first found)
checks_made first found =
    piece_part piece.Checks +++ whether (length found == 0) (piece_part piece.NoChecks)
    (piece_part piece.ChecksOpen +++ (each line_item line_made (take first found) +++ more_made piece.Item first (length found) piece.ItemEnd) +++ piece_part piece.ChecksClose)

head_made : (name : List ℕ) (loaded : Bool) (all : ℕ) → IsMadeOfParts (head_text name loaded all)
head_made name loaded all =
    (in_between name (piece_part piece.Head) (piece_part piece.StyleOpen) +++ part Style +++ piece_part piece.StyleClose) +++ in_between name nothing (piece_part (state_piece loaded)) +++ number_in all nothing (piece_part piece.Tables)

overview_made : (rules : Book) (rows : RowCounts) (counts : Counts) → IsMadeOfParts (overview_text rules rows counts)
overview_made rules rows counts =
    let tables = rules.schema.tables in
    tables_made tables rows +++ piece_part piece.Rules +++ rule_rows_made dep_kind dep_words_made groups_made tables (book_deps rules) counts.deps counts.largest +++ rule_rows_made cind_kind cind_words_made missing_table_made tables (book_cinds rules) counts.cinds counts.largest +++ piece_part piece.RulesEnd

all_sections_made : (rules : Book) (rows : RowCounts) (first : ℕ) (counts : Counts) (findings : Findings) → IsMadeOfParts (sections_text rules rows first counts findings)
all_sections_made rules rows first counts findings =
    let tables = rules.schema.tables in
    sections_made dep_kind dep_words_made groups_made tables (book_deps rules) rows.read first counts.deps findings.deps +++ sections_made cind_kind cind_words_made missing_table_made tables (book_cinds rules) rows.read first counts.cinds findings.cinds

pub page_made : (name : List ℕ) (options : Options) (rules : Book) (rows : RowCounts) (findings : Findings) (checked : List (List ℕ)) → IsMadeOfParts (page_text name options rules rows findings checked)
unfolding page_text
page_made name options rules rows findings checked =
    let counts = counts_of findings in
    head_made name options.loaded counts.all +++ overview_made rules rows counts +++ all_sections_made rules rows options.first counts findings +++ checks_made options.first checked +++ piece_part piece.Foot
