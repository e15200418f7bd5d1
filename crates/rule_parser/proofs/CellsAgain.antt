-- Cells, patterns and rows that are written so are read again.
use Rattle.std.proofs.Common.{◌≡◌, ℕ, ◌<◌, ◌≤◌, List, [], ◌∷◌, ◌++◌, length, Option, Some, None, refl, ap, sym, ◌∙◌, arith}
use Rattle.std.specs.Prelude.{codes}
use Rattle.std.specs.List.{AllByRecursion}
use Rattle.std.proofs.lemmas.Bool.{le-leb}
use Rattle.std.proofs.lemmas.List.{append-nil}
use Rattle.std.proofs.lemmas.List.Elements.{recursion_from_All}
use Rattle.text_lists.specs.Names.{IsName, IsConstant}
use Rattle.line_grammar.specs.Phrases.{constant_at, list_until}
use Rattle.line_grammar.specs.TokenLists.{list1_at, list_at}
use Rattle.line_grammar.specs.declared.tokens.Mark.TheVariants.{OpenBrace, CloseBrace, Bars}
use Rattle.line_grammar.specs.declared.tokens.Token.{Token}
use Rattle.line_grammar.specs.declared.tokens.Token.TheVariants.{Name, Sign}
use Rattle.line_grammar.specs.declared.writing.Part.{Part}
use Rattle.line_grammar.specs.declared.writing.Part.TheVariants.{Space}
use Rattle.line_grammar.specs.Spelling.{tokens_in, AreApart, IsReadable, mark, comma_separated, spaced_list}
use Rattle.line_grammar.proofs.PartLemmas.{tokens_then, tokens_in-append, tokens_in-spaced, AreGood, AreGood-append, AreGood-list, AreGood-spaced, IsLoose, IsLoose-nil, IsLoose-space, IsLoose-mark, AreApart-list, IsLoose-spaced, behind_mark, AreReadAgain, list1_at-written, list_at-written, list_until-written, is_constant-true, constants_again, constants_some, constants_good}
use Rattle.cfd_semantics.specs.declared.pattern.Pattern.{Pattern}
use Rattle.cfd_semantics.specs.declared.pattern.Pattern.TheVariants.{Any, Is, In, NotIn}
use Rattle.cfd_semantics.specs.declared.inclusion.InclusionRow.{InclusionRow}
use Rattle.rule_model.specs.declared.decl.CfdRow.{CfdRow}
use Rattle.rule_model.specs.declared.edit_rule.EditCell.{EditCell}
use Rattle.rule_model.specs.declared.edit_rule.EditCell.TheVariants as edit_cells
use Rattle.rule_model.specs.Declarations.{IsWrittenSet, IsWrittenCell, IsWrittenEditCell, IsWrittenRow, IsWrittenInclusionRow}
use Rattle.rule_parser.specs.RuleLines.{set_at, cell_at, pattern_at, row_at, inclusion_row_at}
use Rattle.rule_parser.specs.RuleText.{value_parts, members_parts, cell_parts, pattern_parts, beside_bars, row_line, cfd_row_line, cind_row_line}

-- ---- sets and cells

members_tokens : (members : List (List ℕ)) (rest : List Token) → tokens_in (comma_separated value_parts members ++ mark CloseBrace ∷ []) ++ rest ≡ tokens_in (comma_separated value_parts members) ++ Sign CloseBrace ∷ rest
members_tokens members rest = tokens_then (comma_separated value_parts members) (mark CloseBrace ∷ []) rest

set_again : (members : List (List ℕ)) (rest : List Token) → IsWrittenSet members → set_at (tokens_in (members_parts members) ++ rest) ≡ Some (members, rest)
unfolding set_at
set_again members rest is =
    let all = recursion_from_All IsConstant members is.constants in
    let read : list1_at constant_at (tokens_in (comma_separated value_parts members) ++ Sign CloseBrace ∷ rest) ≡ Some (members, Sign CloseBrace ∷ rest) =
    list1_at-written constant_at value_parts members (Sign CloseBrace ∷ rest) is.some (constants_again members all) (constants_some members) refl in
    rw (members_tokens members rest, read, le-leb (length members) 64 is.few) refl

pub cell_again : (cell : Pattern (List ℕ)) (rest : List Token) → IsWrittenCell cell → cell_at (tokens_in (cell_parts cell) ++ rest) ≡ Some (cell, rest)
unfolding cell_at
cell_again Any rest is = refl
cell_again (Is value) rest is = rw (is_constant-true value is) refl
cell_again (In members) rest is = rw (set_again members rest is) refl
cell_again (NotIn members) rest is = rw (set_again members rest is) refl

pub cells_again : (cells : List (Pattern (List ℕ))) → AllByRecursion IsWrittenCell cells → AreReadAgain cell_at cell_parts cells
cells_again [] are = tt
cells_again (cell ∷ cells) are = (λ rest. cell_again cell rest are.0, cells_again cells are.1)

cell_some : (cell : Pattern (List ℕ)) → 0 < length (tokens_in (cell_parts cell))
cell_some Any = omega arith
cell_some (Is value) = omega arith
cell_some (In members) = omega arith
cell_some (NotIn members) = omega arith

pub cells_some : (cells : List (Pattern (List ℕ))) → AllByRecursion (λ cell. 0 < length (tokens_in (cell_parts cell))) cells
cells_some [] = tt
cells_some (cell ∷ cells) = (cell_some cell, cells_some cells)

-- ---- patterns

pattern_again : (pattern : List ℕ × EditCell) (rest : List Token) → IsWrittenEditCell pattern.1 → pattern_at (tokens_in (pattern_parts pattern) ++ rest) ≡ Some (pattern, rest)
unfolding pattern_at
pattern_again (attr, edit_cells.Any) rest is = refl
pattern_again (attr, edit_cells.Is value) rest is = rw (is_constant-true value is) refl
pattern_again (attr, edit_cells.Not value) rest is = rw (is_constant-true value is) refl

pub patterns_again : (patterns : List (List ℕ × EditCell)) → AllByRecursion (λ p. IsWrittenEditCell p.1) patterns → AreReadAgain pattern_at pattern_parts patterns
patterns_again [] are = tt
patterns_again (p ∷ patterns) are = (λ rest. pattern_again p rest are.0, patterns_again patterns are.1)

pattern_some : (pattern : List ℕ × EditCell) → 0 < length (tokens_in (pattern_parts pattern))
pattern_some (attr, edit_cells.Any) = omega arith
pattern_some (attr, edit_cells.Is value) = omega arith
pattern_some (attr, edit_cells.Not value) = omega arith

pub patterns_some : (patterns : List (List ℕ × EditCell)) → AllByRecursion (λ p. 0 < length (tokens_in (pattern_parts p))) patterns
patterns_some [] = tt
patterns_some (p ∷ patterns) = (pattern_some p, patterns_some patterns)

-- ---- rows

-- a list on each side of the bars
pub bars_tokens : {A : Type 0} (p : A → List Part) (left right : List A) → tokens_in (beside_bars p left right) ≡ tokens_in (comma_separated p left) ++ Sign Bars ∷ tokens_in (comma_separated p right)
bars_tokens p left right =
    tokens_in-append (spaced_list p left) (Space ∷ mark Bars ∷ spaced_list p right) ∙ ap (λ ts. ts ++ Sign Bars ∷ tokens_in (spaced_list p right)) (tokens_in-spaced p left)
    ∙ ap (λ ts. tokens_in (comma_separated p left) ++ Sign Bars ∷ ts) (tokens_in-spaced p right)

alone : {A : Type 0} (p : A → List Part) (xs : List A) → tokens_in (comma_separated p xs) ≡ tokens_in (comma_separated p xs) ++ []
alone p xs = sym (append-nil (tokens_in (comma_separated p xs)))

pub no_cell : (rest : List Token) → ◌≡◌ {A = Option (Pattern (List ℕ) × List Token)} (cell_at (Sign Bars ∷ rest)) None
unfolding cell_at
no_cell rest = refl

pub row_again : (row : CfdRow) → IsWrittenRow row → 1 ≤ length row.y → row_at (tokens_in (cfd_row_line row)) ≡ Some (row, [])
unfolding row_at
row_again row is some =
    let lefts = recursion_from_All IsWrittenCell row.x is.x in
    let rights = recursion_from_All IsWrittenCell row.y is.y in
    let left : list_until cell_at Bars (tokens_in (comma_separated cell_parts row.x) ++ Sign Bars ∷ tokens_in (comma_separated cell_parts row.y)) ≡ Some (row.x, tokens_in (comma_separated cell_parts row.y)) =
    list_until-written cell_at cell_parts Bars row.x (tokens_in (comma_separated cell_parts row.y)) (cells_again row.x lefts) (cells_some row.x) refl (no_cell (tokens_in (comma_separated cell_parts row.y))) refl in
    let right : list1_at cell_at (tokens_in (comma_separated cell_parts row.y)) ≡ Some (row.y, []) =
    ap (list1_at cell_at) (alone cell_parts row.y) ∙ list1_at-written cell_at cell_parts row.y [] some (cells_again row.y rights) (cells_some row.y) refl in
    rw (bars_tokens cell_parts row.x row.y, left, right) refl

pub inclusion_row_again : (row : InclusionRow (List ℕ)) → IsWrittenInclusionRow row → inclusion_row_at (tokens_in (cind_row_line row)) ≡ Some (row, [])
unfolding inclusion_row_at
inclusion_row_again row is =
    let lefts = recursion_from_All IsConstant row.xp is.xp in
    let rights = recursion_from_All IsConstant row.yp is.yp in
    let left : list_until constant_at Bars (tokens_in (comma_separated value_parts row.xp) ++ Sign Bars ∷ tokens_in (comma_separated value_parts row.yp)) ≡ Some (row.xp, tokens_in (comma_separated value_parts row.yp)) =
    list_until-written constant_at value_parts Bars row.xp (tokens_in (comma_separated value_parts row.yp)) (constants_again row.xp lefts) (constants_some row.xp) refl refl refl in
    let right : list_at constant_at (tokens_in (comma_separated value_parts row.yp)) ≡ Some (row.yp, []) =
    ap (list_at constant_at) (alone value_parts row.yp) ∙ list_at-written constant_at value_parts row.yp [] (constants_again row.yp rights) (constants_some row.yp) refl refl in
    rw (bars_tokens value_parts row.xp row.yp, left, right) refl

-- ---- they can be read

set_good : (members : List (List ℕ)) → IsWrittenSet members → AreGood (members_parts members)
set_good members is = (tt, AreGood-append (comma_separated value_parts members) (mark CloseBrace ∷ []) (AreGood-list value_parts members (constants_good members (recursion_from_All IsConstant members is.constants))) (tt, tt))

cell_good : (cell : Pattern (List ℕ)) → IsWrittenCell cell → AreGood (cell_parts cell)
cell_good Any is = (tt, tt)
cell_good (Is value) is = (is.utf8, tt)
cell_good (In members) is = (refl, set_good members is)
cell_good (NotIn members) is = (refl, set_good members is)

cells_good : (cells : List (Pattern (List ℕ))) → AllByRecursion IsWrittenCell cells → AllByRecursion (λ cell. AreGood (cell_parts cell)) cells
cells_good [] are = tt
cells_good (cell ∷ cells) are = (cell_good cell are.0, cells_good cells are.1)

value_apart : (value : List ℕ) → AreApart None (value_parts value)
value_apart value = (refl, tt)

set_apart : (members : List (List ℕ)) → AreApart None (members_parts members)
set_apart members =
    (refl, behind_mark OpenBrace (comma_separated value_parts members ++ mark CloseBrace ∷ []) (AreApart-list value_parts members (mark CloseBrace ∷ []) value_apart (IsLoose-mark CloseBrace [] refl tt)))

cell_apart : (cell : Pattern (List ℕ)) → AreApart None (cell_parts cell)
cell_apart Any = (refl, tt)
cell_apart (Is value) = (refl, tt)
cell_apart (In members) = (refl, set_apart members)
cell_apart (NotIn members) = (refl, set_apart members)

loose_end : {A : Type 0} (p : A → List Part) (right : List A) → ((x : A) → AreApart None (p x)) → IsLoose (spaced_list p right)
loose_end p right apart = rw (append-nil (spaced_list p right)) at (IsLoose-spaced p right [] apart IsLoose-nil)

row_readable : {A : Type 0} (p : A → List Part) (left right : List A) → ((x : A) → AreApart None (p x)) → AllByRecursion (λ x. AreGood (p x)) left → AllByRecursion (λ x. AreGood (p x)) right → IsReadable (row_line p left right)
row_readable p left right apart lefts rights =
    let bars = Space ∷ mark Bars ∷ spaced_list p right in
    record {
      some = omega arith;
      good = (refl, AreGood-append (spaced_list p left) bars (AreGood-spaced p left lefts) (tt, AreGood-spaced p right rights));
      apart = (refl, IsLoose-spaced p left bars apart (IsLoose-space (mark Bars ∷ spaced_list p right) (refl, loose_end p right apart (Some (Sign Bars)))) (Some (Name (codes "row"))));
    }

pub cfd_row_readable : (row : CfdRow) → IsWrittenRow row → IsReadable (cfd_row_line row)
cfd_row_readable row is = row_readable cell_parts row.x row.y cell_apart (cells_good row.x (recursion_from_All IsWrittenCell row.x is.x)) (cells_good row.y (recursion_from_All IsWrittenCell row.y is.y))

pub cind_row_readable : (row : InclusionRow (List ℕ)) → IsWrittenInclusionRow row → IsReadable (cind_row_line row)
cind_row_readable row is =
    row_readable value_parts row.xp row.yp value_apart (constants_good row.xp (recursion_from_All IsConstant row.xp is.xp)) (constants_good row.yp (recursion_from_All IsConstant row.yp is.yp))

-- ---- patterns can be read

pub patterns_good : (patterns : List (List ℕ × EditCell)) → AllByRecursion (λ p. IsName p.0) patterns → AllByRecursion (λ p. IsWrittenEditCell p.1) patterns → AllByRecursion (λ p. AreGood (pattern_parts p)) patterns
patterns_good [] names are = tt
patterns_good ((attr, edit_cells.Any) ∷ patterns) names are = ((names.0, (tt, (tt, tt))), patterns_good patterns names.1 are.1)
patterns_good ((attr, edit_cells.Is value) ∷ patterns) names are = ((names.0, (tt, (are.0.utf8, tt))), patterns_good patterns names.1 are.1)
patterns_good ((attr, edit_cells.Not value) ∷ patterns) names are = ((names.0, (tt, (are.0.utf8, tt))), patterns_good patterns names.1 are.1)

pub pattern_apart : (pattern : List ℕ × EditCell) → AreApart None (pattern_parts pattern)
pattern_apart (attr, edit_cells.Any) = (refl, (refl, (refl, tt)))
pattern_apart (attr, edit_cells.Is value) = (refl, (refl, (refl, tt)))
pattern_apart (attr, edit_cells.Not value) = (refl, (refl, (refl, tt)))
