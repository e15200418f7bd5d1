-- A declaration joins a book with the rows that are held as it would with all that were read.
use Rattle.std.proofs.Common.{◌≡◌, ℕ, ◌≤◌, ◌<◌, ◌⊎◌, inl, inr, List, [], ◌∷◌, length, Option, Some, ap, sym, ◌∙◌, subst, arith}
use Rattle.std.specs.Prelude.{Ok, Err, Result}
use Rattle.line_grammar.specs.Faults.{Reading, GivesUnlessMemory, line_tells, ◌>>=◌}
use Rattle.line_grammar.specs.FileLines.{read_line}
use Rattle.line_grammar.specs.TokenLists.{Reader, none_after}
use Rattle.line_grammar.specs.declared.fault.LineFault.{LineFault}
use Rattle.line_grammar.specs.declared.line.Line.{Line}
use Rattle.text_lists.specs.declared.limits.Limits.{Limits}
use Rattle.schema_core.specs.declared.schema.Attr.{Attr}
use Rattle.schema_core.specs.Lookups.{attrs_of}
use Rattle.cfd_semantics.specs.declared.inclusion.InclusionRow.{InclusionRow}
use Rattle.rule_model.specs.declared.decl.CfdRow.{CfdRow}
use Rattle.rule_model.specs.declared.decl.CfdDecl.{CfdDecl}
use Rattle.rule_model.specs.declared.decl.CindDecl.{CindDecl}
use Rattle.rule_model.specs.declared.decl.Decl.{Decl}
use Rattle.rule_model.specs.declared.decl.Decl.TheVariants.{Cfd, Cind}
use Rattle.rule_model.specs.declared.fault.RuleFault.{RuleFault}
use Rattle.rule_model.specs.declared.shown.Shown.{Shown}
use Rattle.rule_model.specs.declared.shown.HeldRows.{HeldRows}
use Rattle.rule_model.specs.Books.{Book, with_decl, book_fault}
use Rattle.rule_model.specs.FewRows.{RowTests, cfd_row_tests, cind_row_tests, StandFor}
use Rattle.rule_model.proofs.FewRows.{cfd_same, cind_same}
use Rattle.rule_parser.specs.declared.fault.ParseCause.{ParseCause}
use Rattle.rule_parser.specs.ReadRules.{AreHeld, HoldsUnlessMemory, joined}
use Rattle.rule_parser.specs.RuleFiles.{rule_causes, rows_of, some_rows, unless_rule}

-- ---- one row at least

first_and_more : {R : Type 0} (first : Reading R ParseCause) (more : Reading (List R) ParseCause) (all : List R) → (first >>= λ x. more >>= λ xs. Ok (x ∷ xs)) ≡ Ok all → 1 ≤ length all
first_and_more (Ok x) (Ok xs) [] e = absurd cc
first_and_more (Ok x) (Ok xs) (y ∷ ys) e = omega arith
first_and_more (Ok x) (Err fault) all e = absurd cc
first_and_more (Err fault) more all e = absurd cc

one_read : {R : Type 0} (row : Reader R) (number : ℕ) (members : List Line) (all : List R) → some_rows row number members ≡ Ok all → 1 ≤ length all
one_read row number [] all e = absurd cc
one_read row number (line ∷ others) all e = first_and_more (read_line rule_causes (λ tokens. none_after (row tokens)) line) (rows_of row others) all e

one_stands : {R : Type 0} (most : ℕ) (all held : List R) → (held ≡ all) ⊎ ((most < length held) × (most < length all)) → 1 ≤ length all → 1 ≤ length held
one_stands most all held (inl same) one = omega (arith, ap length same)
one_stands most all held (inr both) one = omega (arith, both.0)

pub one_held : {R : Type 0} (row : Reader R) (tests : RowTests R) (most number : ℕ) (members : List Line) (held : HeldRows R) → AreHeld tests most (some_rows row number members) held → 1 ≤ length held.rows
one_held row tests most number members held are = one_stands most are.0 held.rows are.2.count (one_read row number members are.0 are.1)

-- ---- joining

told_same : (number : ℕ) (book : Book) (a b : Decl) (told : RuleFault) → book_fault book a ≡ Some told → book_fault book b ≡ Some told → joined number book (Ok a) ≡ joined number book (Ok b)
told_same number book a b told a-told b-told =
    ap (λ (found : Option RuleFault). unless_rule found number (with_decl book a)) a-told ∙ sym (ap (λ (found : Option RuleFault). unless_rule found number (with_decl book b)) b-told)

cfd_joined : (number : ℕ) (book : Book) (cfd : CfdDecl) (all held : List CfdRow) (shown : Shown) → StandFor (cfd_row_tests (attrs_of book.schema cfd.table) cfd) book.limits.tableau_rows all held shown
    → joined number book (Ok (Cfd (record cfd { rows = held }))) ≡ joined number book (Ok (Cfd (record cfd { rows = all })))
unfolding book_fault
cfd_joined number book cfd all held shown stand =
    elim (cfd_same book.schema book.limits book.decls cfd all held shown stand) [
      | inl same ↦ ap (λ (rows : List CfdRow). joined number book (Ok (Cfd (record cfd { rows = rows })))) same
      | inr both ↦ told_same number book (Cfd (record cfd { rows = held })) (Cfd (record cfd { rows = all })) both.0 both.1 both.2
    ]

cind_joined : (number : ℕ) (book : Book) (cind : CindDecl) (all held : List (InclusionRow (List ℕ))) (shown : Shown) → StandFor (cind_row_tests (attrs_of book.schema cind.left) (attrs_of book.schema cind.right) cind) book.limits.tableau_rows all held shown
    → joined number book (Ok (Cind (record cind { rows = held }))) ≡ joined number book (Ok (Cind (record cind { rows = all })))
unfolding book_fault
cind_joined number book cind all held shown stand =
    elim (cind_same book.schema book.limits book.decls cind all held shown stand) [
      | inl same ↦ ap (λ (rows : List (InclusionRow (List ℕ))). joined number book (Ok (Cind (record cind { rows = rows })))) same
      | inr both ↦ told_same number book (Cind (record cind { rows = held })) (Cind (record cind { rows = all })) both.0 both.1 both.2
    ]

-- what the call that joins the held rows gives, is what all rows give
pub cfd_given : (number : ℕ) (book new : Book) (cfd : CfdDecl) (said : Reading (List CfdRow) ParseCause) (held : HeldRows CfdRow) (result : Result (Unit {0}) (LineFault ParseCause))
    → AreHeld (cfd_row_tests (attrs_of book.schema cfd.table) cfd) book.limits.tableau_rows said held
    → GivesUnlessMemory line_tells (joined number book (Ok (Cfd (record cfd { rows = held.rows })))) (λ _. new) result
    → GivesUnlessMemory line_tells (joined number book (said >>= λ rows. Ok (Cfd (record cfd { rows = rows })))) (λ _. new) result
cfd_given number book new cfd said held result are given =
    subst (λ (reading : Reading (List CfdRow) ParseCause). GivesUnlessMemory line_tells (joined number book (reading >>= λ rows. Ok (Cfd (record cfd { rows = rows })))) (λ _. new) result) (sym are.1)
    (subst (λ (reading : Reading Book ParseCause). GivesUnlessMemory line_tells reading (λ _. new) result) (cfd_joined number book cfd are.0 held.rows held.shown are.2) given)

pub cind_given : (number : ℕ) (book new : Book) (cind : CindDecl) (said : Reading (List (InclusionRow (List ℕ))) ParseCause) (held : HeldRows (InclusionRow (List ℕ))) (result : Result (Unit {0}) (LineFault ParseCause))
    → AreHeld (cind_row_tests (attrs_of book.schema cind.left) (attrs_of book.schema cind.right) cind) book.limits.tableau_rows said held
    → GivesUnlessMemory line_tells (joined number book (Ok (Cind (record cind { rows = held.rows })))) (λ _. new) result
    → GivesUnlessMemory line_tells (joined number book (said >>= λ rows. Ok (Cind (record cind { rows = rows })))) (λ _. new) result
cind_given number book new cind said held result are given =
    subst (λ (reading : Reading (List (InclusionRow (List ℕ))) ParseCause). GivesUnlessMemory line_tells (joined number book (reading >>= λ rows. Ok (Cind (record cind { rows = rows })))) (λ _. new) result) (sym are.1)
    (subst (λ (reading : Reading Book ParseCause). GivesUnlessMemory line_tells reading (λ _. new) result) (cind_joined number book cind are.0 held.rows held.shown are.2) given)

-- ---- the tests of a declaration that is to join

pub cfd_holds : (attrs found : List Attr) (cfd lent : CfdDecl) (limits kept : Limits) (said : Reading (List CfdRow) ParseCause) (result : Result (HeldRows CfdRow) (LineFault ParseCause)) → found ≡ attrs → lent ≡ cfd → kept ≡ limits
    → HoldsUnlessMemory (cfd_row_tests found lent) kept.tableau_rows said result → HoldsUnlessMemory (cfd_row_tests attrs cfd) limits.tableau_rows said result
cfd_holds attrs found cfd lent limits kept said result found-is lent-is kept-is holds =
    subst (λ (l : Limits). HoldsUnlessMemory (cfd_row_tests attrs cfd) l.tableau_rows said result) kept-is
    (subst (λ (d : CfdDecl). HoldsUnlessMemory (cfd_row_tests attrs d) kept.tableau_rows said result) lent-is
    (subst (λ (a : List Attr). HoldsUnlessMemory (cfd_row_tests a lent) kept.tableau_rows said result) found-is holds))

pub cind_holds : (lefts left rights right : List Attr) (cind lent : CindDecl) (limits kept : Limits) (said : Reading (List (InclusionRow (List ℕ))) ParseCause) (result : Result (HeldRows (InclusionRow (List ℕ))) (LineFault ParseCause))
    → left ≡ lefts → right ≡ rights → lent ≡ cind → kept ≡ limits
    → HoldsUnlessMemory (cind_row_tests left right lent) kept.tableau_rows said result → HoldsUnlessMemory (cind_row_tests lefts rights cind) limits.tableau_rows said result
cind_holds lefts left rights right cind lent limits kept said result left-is right-is lent-is kept-is holds =
    subst (λ (l : Limits). HoldsUnlessMemory (cind_row_tests lefts rights cind) l.tableau_rows said result) kept-is
    (subst (λ (d : CindDecl). HoldsUnlessMemory (cind_row_tests lefts rights d) kept.tableau_rows said result) lent-is
    (subst (λ (a : List Attr). HoldsUnlessMemory (cind_row_tests lefts a lent) kept.tableau_rows said result) right-is
    (subst (λ (a : List Attr). HoldsUnlessMemory (cind_row_tests a right lent) kept.tableau_rows said result) left-is holds)))
