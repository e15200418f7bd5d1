-- The grammar of rule files. Heads:
--
--     cfd NAME TABLE: [LIST(ATTR)] -> [LIST1(ATTR)]
--     cind NAME TABLE[LIST(ATTR); LIST(ATTR)] in TABLE[LIST(ATTR); LIST(ATTR)]
--     edit NAME TABLE using TABLE: LIST(ATTR=ATTR) gives ATTR=ATTR
--     edit NAME TABLE using TABLE: LIST(ATTR=ATTR) gives ATTR=ATTR when LIST1(PATTERN)
--
-- The members of a `cfd` and of a `cind`:
--
--     row LIST(CELL) || LIST1(CELL)
--     row LIST(VALUE) || LIST(VALUE)
--
-- CELL is `_`, VALUE, `in {LIST1(VALUE)}` or `not {LIST1(VALUE)}`, and PATTERN is ATTR=_, ATTR=VALUE or ATTR!=VALUE. A
-- dependency by itself is
--
--     TABLE: [LIST(ATTR)] -> [ATTR] row LIST(CELL) || CELL
use Rattle.std.specs.Prelude.{ℕ, List, [], ◌∷◌, map, Option, Some, None, if◌then◌else◌, option_map, codes}
use Rattle.std.specs.Str.{bytes_eq}
use Rattle.line_grammar.specs.Phrases.{◌>>=◌, name_at, constant_at, after_word, few_at, list_until}
use Rattle.line_grammar.specs.Marks.{after_mark}
use Rattle.line_grammar.specs.TokenLists.{Reader, list1_at, list_at}
use Rattle.text_lists.specs.declared.bounds.TheConstants.{SET_MEMBERS}
use Rattle.line_grammar.specs.declared.tokens.Mark.TheVariants.{Colon, OpenBracket, CloseBracket, Semicolon, Equals, Differs, Arrow, Bars, Underscore, OpenBrace, CloseBrace}
use Rattle.line_grammar.specs.declared.tokens.Token.{Token}
use Rattle.cfd_semantics.specs.declared.pattern.Pattern.{Pattern}
use Rattle.cfd_semantics.specs.declared.pattern.Pattern.TheVariants.{Any, Is, In, NotIn}
use Rattle.cfd_semantics.specs.declared.inclusion.InclusionRow.{InclusionRow}
use Rattle.rule_model.specs.declared.decl.CfdRow.{CfdRow}
use Rattle.rule_model.specs.declared.decl.CfdDecl.{CfdDecl}
use Rattle.rule_model.specs.declared.decl.Decl.{Decl}
use Rattle.rule_model.specs.declared.decl.Decl.TheVariants as decls
use Rattle.rule_model.specs.declared.edit_rule.EditCell.{EditCell}
use Rattle.rule_model.specs.declared.edit_rule.EditCell.TheVariants as edit_cells
use Rattle.rule_parser.specs.declared.heads.Side.{Side}

-- ---- cells

-- what was read, as something else says it
abbrev pub said : {A B : Type 0} → (A → B) → Option (A × List Token) → Option (B × List Token)
said f found = option_map (λ x. (f x.0, x.1)) found

-- {LIST1(VALUE)}, of at most 64 members
unfoldable pub set_at : Reader (List (List ℕ))
set_at tokens = do
  inside ← after_mark OpenBrace tokens
  values ← few_at constant_at SET_MEMBERS inside
  rest ← after_mark CloseBrace values.1
  Some (values.0, rest)

-- what stands behind the first word of a cell
abbrev pub set_cell : List ℕ → Reader (Pattern (List ℕ))
set_cell word rest =
    if bytes_eq word (codes "in") then said (λ values. In values) (set_at rest)
    else (if bytes_eq word (codes "not") then said (λ values. NotIn values) (set_at rest)
    else None)

-- `_`, and what was read instead where there is none
abbrev pub any_or : {A : Type 0} → A → Option (List Token) → Option (A × List Token) → Option (A × List Token)
any_or any (Some rest) other = Some (any, rest)
any_or any None other = other

-- a cell that begins with a word, or one that doesn't
abbrev pub cell_from : List Token → Option (List ℕ × List Token) → Option (Pattern (List ℕ) × List Token)
cell_from tokens (Some (word, rest)) = set_cell word rest
cell_from tokens None = any_or Any (after_mark Underscore tokens) (said (λ value. Is value) (constant_at tokens))

-- CELL
unfoldable pub cell_at : Reader (Pattern (List ℕ))
cell_at tokens = cell_from tokens (name_at tokens)

-- what stands behind `=` in a pattern
abbrev pub equal_at : Reader EditCell
equal_at tokens = any_or edit_cells.Any (after_mark Underscore tokens) (said (λ value. edit_cells.Is value) (constant_at tokens))

-- what stands behind `!=`
abbrev pub differs_at : Reader EditCell
differs_at tokens = said (λ value. edit_cells.Not value) (constant_at tokens)

-- what stands behind the attribute of a pattern: `=`, or else `!=`, and more
abbrev pub test_from : List Token → Option (List Token) → Option (EditCell × List Token)
test_from tokens (Some rest) = equal_at rest
test_from tokens None = after_mark Differs tokens >>= differs_at

abbrev pub test_at : Reader EditCell
test_at tokens = test_from tokens (after_mark Equals tokens)

-- PATTERN
unfoldable pub pattern_at : Reader (List ℕ × EditCell)
pattern_at tokens = do
  attr ← name_at tokens
  cell ← test_at attr.1
  Some ((attr.0, cell.0), cell.1)

-- ---- rows

-- the row of a `cfd`
unfoldable pub row_at : Reader CfdRow
row_at tokens = do
  rest ← after_word (codes "row") tokens
  x ← list_until cell_at Bars rest
  y ← list1_at cell_at x.1
  Some (record { x = x.0; y = y.0 }, y.1)

-- the row of a `cind`
unfoldable pub inclusion_row_at : Reader (InclusionRow (List ℕ))
inclusion_row_at tokens = do
  rest ← after_word (codes "row") tokens
  xp ← list_until constant_at Bars rest
  yp ← list_at constant_at xp.1
  Some (record { xp = xp.0; yp = yp.0 }, yp.1)

-- ---- heads

-- what stands behind `cfd`
unfoldable pub cfd_at : Reader Decl
cfd_at tokens = do
  name ← name_at tokens
  table ← name_at name.1
  rest ← after_mark Colon table.1
  rest ← after_mark OpenBracket rest
  x ← list_until name_at CloseBracket rest
  rest ← after_mark Arrow x.1
  rest ← after_mark OpenBracket rest
  y ← list1_at name_at rest
  rest ← after_mark CloseBracket y.1
  Some (decls.Cfd (record { name = name.0; table = table.0; x = x.0; y = y.0; rows = [] }), rest)

-- TABLE[LIST(ATTR); LIST(ATTR)]
unfoldable pub side_at : Reader Side
side_at tokens = do
  table ← name_at tokens
  rest ← after_mark OpenBracket table.1
  key ← list_until name_at Semicolon rest
  pattern ← list_until name_at CloseBracket key.1
  Some (record { table = table.0; key = key.0; pattern = pattern.0 }, pattern.1)

-- what stands behind `cind`
unfoldable pub cind_at : Reader Decl
cind_at tokens = do
  name ← name_at tokens
  left ← side_at name.1
  rest ← after_word (codes "in") left.1
  right ← side_at rest
  Some (
    decls.Cind (record {
      name = name.0;
      left = left.0.table;
      x = left.0.key;
      xp = left.0.pattern;
      right = right.0.table;
      y = right.0.key;
      yp = right.0.pattern;
      rows = [];
    }),
    right.1,
  )

-- ATTR=ATTR
unfoldable pub pair_at : Reader (List ℕ × List ℕ)
pair_at tokens = do
  attr ← name_at tokens
  rest ← after_mark Equals attr.1
  master ← name_at rest
  Some ((attr.0, master.0), master.1)

-- the pattern behind `when`, which may be missing
abbrev pub pattern_behind : List Token → Option (List Token) → Option (List (List ℕ × EditCell) × List Token)
pattern_behind tokens None = Some ([], tokens)
pattern_behind tokens (Some rest) = list1_at pattern_at rest

abbrev pub when_at : Reader (List (List ℕ × EditCell))
when_at tokens = pattern_behind tokens (after_word (codes "when") tokens)

-- what stands behind `edit`
unfoldable pub edit_at : Reader Decl
edit_at tokens = do
  name ← name_at tokens
  table ← name_at name.1
  rest ← after_word (codes "using") table.1
  master ← name_at rest
  rest ← after_mark Colon master.1
  columns ← list_at pair_at rest
  rest ← after_word (codes "gives") columns.1
  given ← pair_at rest
  pattern ← when_at given.1
  Some (
    decls.Edit (record {
      name = name.0;
      table = table.0;
      master = master.0;
      x = map (λ (pair : List ℕ × List ℕ). pair.0) columns.0;
      xm = map (λ (pair : List ℕ × List ℕ). pair.1) columns.0;
      target = given.0.0;
      source = given.0.1;
      when = pattern.0;
    }),
    pattern.1,
  )

-- what stands behind the first word of a head
abbrev pub head_for : List ℕ → Reader Decl
head_for word rest =
    if bytes_eq word (codes "cfd") then cfd_at rest
    else (if bytes_eq word (codes "cind") then cind_at rest
    else (if bytes_eq word (codes "edit") then edit_at rest
    else None))

-- a declaration as far as its head says it: without rows
unfoldable pub head_at : Reader Decl
head_at tokens = name_at tokens >>= λ word. head_for word.0 word.1

-- ---- a dependency by itself

-- a declaration without a name, of one attribute on the right and one row
unfoldable pub dep_at : Reader CfdDecl
dep_at tokens = do
  table ← name_at tokens
  rest ← after_mark Colon table.1
  rest ← after_mark OpenBracket rest
  x ← list_until name_at CloseBracket rest
  rest ← after_mark Arrow x.1
  rest ← after_mark OpenBracket rest
  a ← name_at rest
  rest ← after_mark CloseBracket a.1
  rest ← after_word (codes "row") rest
  cells ← list_until cell_at Bars rest
  cell ← cell_at cells.1
  Some (
    record {
      name = [];
      table = table.0;
      x = x.0;
      y = a.0 ∷ [];
      rows = record { x = cells.0; y = cell.0 ∷ [] } ∷ [];
    },
    cell.1,
  )
