-- The text of a line of the list.
use Rattle.std.specs.Prelude.{ℕ, ◌+◌, ◌<◌, List, [], ◌∷◌, ◌++◌, Option, None, Some, option_map, length, codes, decimal, IsSomeAnd}
use Rattle.std.specs.List.{slice_get, concat, flat_map}
use Rattle.std.specs.Option.{option_map_or}
use Rattle.schema_core.specs.declared.schema.Attr.{Attr}
use Rattle.schema_core.specs.declared.schema.Table.{Table}
use Rattle.schema_core.specs.declared.schema.Schema.{Schema}
use Rattle.rule_model.specs.declared.dep.Dep.{Dep}
use Rattle.rule_model.specs.declared.cind.Cind.{Cind}
use Rattle.rule_model.specs.Books.{Book, book_deps, book_cinds}
use Rattle.schema_core.specs.Lookups.{attrs_at}
use Rattle.violation_report.specs.declared.line.Line.{Line}
use Rattle.violation_report.specs.declared.line.Line.TheVariants.{Single, Pair, Orphan}

-- ---- names

abbrev pub table_name : Schema → ℕ → List ℕ
table_name schema table = option_map_or (λ (t : Table). t.name) (slice_get schema.tables table) []

abbrev pub attr_name : Schema → ℕ → ℕ → List ℕ
attr_name schema table attr = option_map_or (λ (a : Attr). a.name) (slice_get (attrs_at schema table) attr) []

-- what a line of a dependency tells of it: its rule's name, the right attribute's and its table's
abbrev pub dep_name : Book → ℕ → List ℕ
dep_name rules dep = option_map_or (λ (d : Dep). d.name) (slice_get (book_deps rules) dep) []

abbrev pub dep_attr : Book → ℕ → List ℕ
dep_attr rules dep = option_map_or (λ (d : Dep). attr_name rules.schema d.table d.rule.a) (slice_get (book_deps rules) dep) []

abbrev pub dep_table : Book → ℕ → List ℕ
dep_table rules dep = option_map_or (λ (d : Dep). table_name rules.schema d.table) (slice_get (book_deps rules) dep) []

-- what a line of an inclusion dependency tells of it: its rule's name, and its left table's
abbrev pub cind_name : Book → ℕ → List ℕ
cind_name rules cind = option_map_or (λ (c : Cind). c.name) (slice_get (book_cinds rules) cind) []

abbrev pub cind_table : Book → ℕ → List ℕ
cind_table rules cind = option_map_or (λ (c : Cind). table_name rules.schema c.left) (slice_get (book_cinds rules) cind) []

-- ---- texts

-- What a line tells: its kind; the rule, and the number of the tableau row from 1; of a dependency the attribute on its right; the
-- table, of an inclusion dependency the left one; the row; and of a pair the partner.
pub record Told : Type 0 where
  pub kind : List ℕ
  pub rule : List ℕ
  pub number : ℕ
  pub attr : Option (List ℕ)
  pub table : List ℕ
  pub row : ℕ
  pub partner : Option ℕ

abbrev pub dep_told : Book → List ℕ → ℕ → ℕ → ℕ → Option ℕ → Told
dep_told rules kind dep k row partner =
    record { kind = kind; rule = dep_name rules dep; number = k + 1; attr = Some (dep_attr rules dep); table = dep_table rules dep; row = row; partner = partner }

abbrev pub cind_told : Book → ℕ → ℕ → ℕ → Told
cind_told rules cind k row =
    record { kind = codes "orphan"; rule = cind_name rules cind; number = k + 1; attr = None; table = cind_table rules cind; row = row; partner = None }

abbrev pub told_of : Book → Line → Told
told_of rules (Single dep k row) = dep_told rules (codes "single") dep k row None
told_of rules (Pair dep k row partner) = dep_told rules (codes "pair") dep k row (Some partner)
told_of rules (Orphan cind k row) = cind_told rules cind k row

-- a text behind a blank, where there is one
abbrev pub spaced : Option (List ℕ) → List ℕ
spaced None = []
spaced (Some text) = codes " " ++ text

-- `KIND RULE.NUMBER ATTR TABLE ROW PARTNER`, without what the line doesn't tell, and the line's end
abbrev pub told_text : Told → List ℕ
told_text told = concat (
    told.kind ∷ codes " " ∷ told.rule ∷ codes "." ∷ decimal told.number ∷ spaced told.attr ∷ codes " " ∷ told.table ∷ codes " " ∷ decimal told.row
    ∷ spaced (option_map decimal told.partner) ∷ codes "\n" ∷ []
    )

abbrev pub line_text : Book → Line → List ℕ
line_text rules (Single dep k row) = told_text (told_of rules (Single dep k row))
line_text rules (Pair dep k row partner) = told_text (told_of rules (Pair dep k row partner))
line_text rules (Orphan cind k row) = told_text (told_of rules (Orphan cind k row))

-- ---- texts of many lines

-- a word and a number
abbrev pub counted_text : List ℕ → ℕ → List ℕ
counted_text word count = word ++ codes " " ++ decimal count ++ codes "\n"

-- the lines, then how many they are
abbrev pub lines_text : Book → List ℕ → List Line → List ℕ
lines_text rules word lines = flat_map (line_text rules) lines ++ counted_text word (length lines)

-- ---- lines in range

-- the rules have this dependency, and the dependency this tableau row
abbrev pub HasDepRow : Book → ℕ → ℕ → Type 0
HasDepRow rules dep k = IsSomeAnd (slice_get (book_deps rules) dep) (λ (d : Dep). k < length d.rule.rows)

-- the same for an inclusion dependency
abbrev pub HasCindRow : Book → ℕ → ℕ → Type 0
HasCindRow rules cind k = IsSomeAnd (slice_get (book_cinds rules) cind) (λ (c : Cind). k < length c.rule.rows)

-- the line's numbers are in range of the rules
abbrev pub IsLineOf : Book → Line → Type 0
IsLineOf rules (Single dep k row) = HasDepRow rules dep k
IsLineOf rules (Pair dep k row partner) = HasDepRow rules dep k
IsLineOf rules (Orphan cind k row) = HasCindRow rules cind k
