-- The canonical text of rules: the declarations in order, each with its rows, and one dependency on a line.
use Rattle.std.specs.Prelude.{ℕ, List, [], ◌∷◌, ◌++◌, map, codes}
use Rattle.std.specs.List.{flat_map, zip, slice_get}
use Rattle.std.specs.Option.{option_map_or}
use Rattle.line_grammar.specs.Spelling.{name, text, mark, comma_separated, spaced_list, file_text}
use Rattle.line_grammar.specs.declared.tokens.Mark.TheVariants.{Colon, OpenBracket, CloseBracket, Semicolon, Equals, Differs, Arrow, Bars, Underscore, OpenBrace, CloseBrace}
use Rattle.line_grammar.specs.declared.writing.Part.{Part}
use Rattle.line_grammar.specs.declared.writing.Part.TheVariants.{Space}
use Rattle.schema_core.specs.declared.schema.Attr.{Attr}
use Rattle.schema_core.specs.declared.schema.Table.{Table}
use Rattle.schema_core.specs.declared.schema.Schema.{Schema}
use Rattle.cfd_semantics.specs.declared.pattern.Pattern.{Pattern}
use Rattle.cfd_semantics.specs.declared.pattern.Pattern.TheVariants.{Any, Is, In, NotIn}
use Rattle.cfd_semantics.specs.declared.dependency.TableauRow.{TableauRow}
use Rattle.cfd_semantics.specs.declared.inclusion.InclusionRow.{InclusionRow}
use Rattle.schema_core.specs.Lookups.{attrs_at}
use Rattle.rule_model.specs.declared.decl.CfdRow.{CfdRow}
use Rattle.rule_model.specs.declared.decl.CfdDecl.{CfdDecl}
use Rattle.rule_model.specs.declared.decl.CindDecl.{CindDecl}
use Rattle.rule_model.specs.declared.decl.EditDecl.{EditDecl}
use Rattle.rule_model.specs.declared.decl.Decl.{Decl}
use Rattle.rule_model.specs.declared.decl.Decl.TheVariants as decls
use Rattle.rule_model.specs.declared.dep.Dep.{Dep}
use Rattle.rule_model.specs.declared.edit_rule.EditCell.{EditCell}
use Rattle.rule_model.specs.declared.edit_rule.EditCell.TheVariants as edit_cells

-- ---- parts of lines

-- ATTR
abbrev pub attr_parts : List ℕ → List Part
attr_parts attr = name attr ∷ []

-- VALUE
abbrev pub value_parts : List ℕ → List Part
value_parts value = text value ∷ []

-- `[LIST(ATTR)]`
abbrev pub attrs_parts : List (List ℕ) → List Part
attrs_parts attrs = mark OpenBracket ∷ (comma_separated attr_parts attrs ++ mark CloseBracket ∷ [])

-- `{LIST1(VALUE)}`
abbrev pub members_parts : List (List ℕ) → List Part
members_parts members = mark OpenBrace ∷ (comma_separated value_parts members ++ mark CloseBrace ∷ [])

-- CELL
abbrev pub cell_parts : Pattern (List ℕ) → List Part
cell_parts Any = mark Underscore ∷ []
cell_parts (Is value) = text value ∷ []
cell_parts (In members) = name (codes "in") ∷ Space ∷ members_parts members
cell_parts (NotIn members) = name (codes "not") ∷ Space ∷ members_parts members

-- two lists beside bars: ` LIST(p) || LIST(p)`; where a list is empty, its space stays away
abbrev pub beside_bars : {A : Type 0} → (A → List Part) → List A → List A → List Part
beside_bars p left right = spaced_list p left ++ Space ∷ mark Bars ∷ spaced_list p right

-- `row LIST(p) || LIST(p)`
abbrev pub row_line : {A : Type 0} → (A → List Part) → List A → List A → List Part
row_line p left right = name (codes "row") ∷ beside_bars p left right

-- `ATTR=ATTR`
abbrev pub pair_parts : List ℕ × List ℕ → List Part
pair_parts (left, right) = name left ∷ mark Equals ∷ name right ∷ []

-- `ATTR=_`, `ATTR=VALUE` or `ATTR!=VALUE`
abbrev pub pattern_parts : List ℕ × EditCell → List Part
pattern_parts (attr, edit_cells.Any) = name attr ∷ mark Equals ∷ mark Underscore ∷ []
pattern_parts (attr, edit_cells.Is value) = name attr ∷ mark Equals ∷ text value ∷ []
pattern_parts (attr, edit_cells.Not value) = name attr ∷ mark Differs ∷ text value ∷ []

-- ---- declarations

-- `TABLE: [LIST(ATTR)] -> [LIST(ATTR)]`
abbrev pub cfd_parts : List ℕ → List (List ℕ) → List (List ℕ) → List Part
cfd_parts table x y = name table ∷ mark Colon ∷ Space ∷ (attrs_parts x ++ Space ∷ mark Arrow ∷ Space ∷ attrs_parts y)

-- `cfd NAME TABLE: [LIST(ATTR)] -> [LIST1(ATTR)]`
abbrev pub cfd_line : CfdDecl → List Part
cfd_line cfd = name (codes "cfd") ∷ Space ∷ name cfd.name ∷ Space ∷ cfd_parts cfd.table cfd.x cfd.y

-- `TABLE[LIST(ATTR); LIST(ATTR)]`, the space before an empty second list too
abbrev pub side_parts : List ℕ → List (List ℕ) → List (List ℕ) → List Part
side_parts table key pattern =
    name table ∷ mark OpenBracket ∷ (comma_separated attr_parts key ++ mark Semicolon ∷ Space ∷ (comma_separated attr_parts pattern ++ mark CloseBracket ∷ []))

-- `cind NAME TABLE[..] in TABLE[..]`
abbrev pub cind_line : CindDecl → List Part
cind_line cind =
    name (codes "cind") ∷ Space ∷ name cind.name ∷ Space ∷ (side_parts cind.left cind.x cind.xp ++ Space ∷ name (codes "in") ∷ Space ∷ side_parts cind.right cind.y cind.yp)

-- ` when LIST1(PATTERN)`, or nothing
abbrev pub when_parts : List (List ℕ × EditCell) → List Part
when_parts [] = []
when_parts (p ∷ ps) = Space ∷ name (codes "when") ∷ spaced_list pattern_parts (p ∷ ps)

-- ` gives ATTR=ATTR`, and the pattern
abbrev pub gives_parts : EditDecl → List Part
gives_parts edit = Space ∷ name (codes "gives") ∷ Space ∷ (pair_parts (edit.target, edit.source) ++ when_parts edit.when)

-- `edit NAME TABLE using TABLE:`
abbrev pub edit_names : EditDecl → List Part
edit_names edit =
    name (codes "edit") ∷ Space ∷ name edit.name ∷ Space ∷ name edit.table ∷ Space ∷ name (codes "using") ∷ Space ∷ name edit.master ∷ mark Colon ∷ []

-- `edit NAME TABLE using TABLE: LIST(ATTR=ATTR) gives ATTR=ATTR`, with `when LIST1(PATTERN)` where there is a pattern
abbrev pub edit_line : EditDecl → List Part
edit_line edit = edit_names edit ++ (spaced_list pair_parts (zip edit.x edit.xm) ++ gives_parts edit)

abbrev pub cfd_row_line : CfdRow → List Part
cfd_row_line row = row_line cell_parts row.x row.y

abbrev pub cind_row_line : InclusionRow (List ℕ) → List Part
cind_row_line row = row_line value_parts row.xp row.yp

-- a declaration: its head, and its rows
abbrev pub decl_lines : Decl → List (List Part)
decl_lines (decls.Cfd cfd) = cfd_line cfd ∷ map cfd_row_line cfd.rows
decl_lines (decls.Cind cind) = cind_line cind ∷ map cind_row_line cind.rows
decl_lines (decls.Edit edit) = edit_line edit ∷ []

-- the canonical text of declarations
unfoldable pub canonical : List Decl → List ℕ
canonical decls = file_text (flat_map decl_lines decls)

-- ---- one dependency

-- the name of a table, and of an attribute, by its number
abbrev pub table_name : Schema → ℕ → List ℕ
table_name schema table = option_map_or (λ (t : Table). t.name) (slice_get schema.tables table) []

abbrev pub attr_name : List Attr → ℕ → List ℕ
attr_name attrs attr = option_map_or (λ (a : Attr). a.name) (slice_get attrs attr) []

-- ` row LIST(CELL) || CELL`, for each of the rows
abbrev pub dep_row : TableauRow (List ℕ) → List Part
dep_row row = Space ∷ row_line cell_parts row.x (row.a ∷ [])

-- `TABLE: [LIST(ATTR)] -> [ATTR] row LIST(CELL) || CELL`
abbrev pub dep_line : Schema → Dep → List Part
dep_line schema dep =
    let attrs = attrs_at schema dep.table in
    cfd_parts (table_name schema dep.table) (map (attr_name attrs) dep.rule.x) (attr_name attrs dep.rule.a ∷ []) ++ flat_map dep_row dep.rule.rows
