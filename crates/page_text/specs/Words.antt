-- What a rule asks, in the words of rule files.
use Rattle.std.specs.Prelude.{ℕ, ◌+◌, List, [], ◌++◌, Option, None, Some, slice_get, decimal}
use Rattle.std.specs.List.{flat_map}
use Rattle.cfd_semantics.specs.declared.dependency.TableauRow.{TableauRow}
use Rattle.cfd_semantics.specs.declared.pattern.Pattern.{Pattern}
use Rattle.cfd_semantics.specs.declared.pattern.Pattern.TheVariants.{Any, Is, In, NotIn}
use Rattle.schema_core.specs.declared.schema.Attr.{Attr}
use Rattle.schema_core.specs.declared.schema.Table.{Table}
use Rattle.rule_model.specs.declared.cind.Cind.{Cind}
use Rattle.rule_model.specs.declared.dep.Dep.{Dep}
use Rattle.html_text.specs.Elements.{between, bold, code}
use Rattle.page_text.specs.Markup.{markup}
use Rattle.page_text.specs.declared.markup.Piece.TheVariants as piece

-- ---- attributes and tables

abbrev pub attr_code : Option Attr → List ℕ
attr_code None = []
attr_code (Some attr) = code attr.name

-- the attributes with these numbers
abbrev pub attr_codes : List Attr → List ℕ → List ℕ
attr_codes attrs places = flat_map (λ place. attr_code (slice_get attrs place)) places

abbrev pub dep_words_of : Option Table → Dep → List ℕ
dep_words_of None dep = []
dep_words_of (Some table) dep =
    code table.name ++ markup piece.Colon ++ attr_codes table.attrs dep.rule.x ++ markup piece.Arrow ++ attr_code (slice_get table.attrs dep.rule.a)

-- the table of a dependency, and its attributes on both sides
abbrev pub dep_words : List Table → Dep → List ℕ
dep_words tables dep = dep_words_of (slice_get tables dep.table) dep

abbrev pub side_words : Table → List ℕ → List ℕ → List ℕ
side_words table key pattern =
    code table.name ++ markup piece.SideOpen ++ attr_codes table.attrs key ++ markup piece.SideMid ++ attr_codes table.attrs pattern ++ markup piece.SideClose

abbrev pub side_of : Option Table → List ℕ → List ℕ → List ℕ
side_of None key pattern = []
side_of (Some table) key pattern = side_words table key pattern

-- the tables of an inclusion, and the attributes of each
abbrev pub cind_words : List Table → Cind → List ℕ
cind_words tables cind =
    side_of (slice_get tables cind.left) cind.rule.x cind.rule.xp ++ markup piece.In ++ side_of (slice_get tables cind.right) cind.rule.y cind.rule.yp

-- ---- tableau rows

-- by the name of the rule and its number, which counts from 1
unfoldable pub line_name : List ℕ → ℕ → List ℕ
line_name name k = between (markup piece.Small) name (markup piece.Dot) ++ decimal (k + 1) ++ markup piece.SmallEnd

-- what is asked of the value on the right side
abbrev pub wanted : Pattern (List ℕ) → List ℕ
wanted Any = []
wanted (Is value) = markup piece.MustBe ++ bold value
wanted (In values) = markup piece.OneOf ++ flat_map bold values
wanted (NotIn values) = markup piece.NoneOf ++ flat_map bold values

abbrev pub wanted_of : Option (TableauRow (List ℕ)) → List ℕ
wanted_of None = []
wanted_of (Some row) = wanted row.a
