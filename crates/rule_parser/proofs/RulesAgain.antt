-- Reading the canonical text of the declarations of a book gives the book.
use Rattle.std.proofs.Common.{◌≡◌, ℕ, ◌+◌, ◌<◌, ◌≤◌, true, List, [], ◌∷◌, ◌++◌, length, get_or, take, map, Some, None, refl, ap, sym, ◌∙◌, append_assoc, arith, length-append}
use Rattle.std.specs.Prelude.{Ok, codes, nat_eq}
use Rattle.std.specs.List.{flat_map, AllByRecursion}
use Rattle.std.proofs.Math.Seq.{get_or-append_seam, take-append_seam}
use Rattle.std.proofs.lemmas.Bool.{eqb-true}
use Rattle.std.proofs.lemmas.List.{append-nil, take_all}
use Rattle.std.proofs.lemmas.List.Elements.{recursion_from_All}
use Rattle.line_grammar.specs.Faults.{◌>>=◌}
use Rattle.line_grammar.specs.FileLines.{first_is, found_at}
use Rattle.line_grammar.specs.TokenLists.{Reader, none_after}
use Rattle.line_grammar.specs.Groups.{read_groups}
use Rattle.line_grammar.specs.Spelling.{file_text, tokens_in, IsReadable}
use Rattle.schema_core.specs.Schemas.{IsValidSchema}
use Rattle.line_grammar.specs.declared.writing.Part.{Part}
use Rattle.schema_core.specs.declared.schema.Schema.{Schema}
use Rattle.schema_core.proofs.RoundTrip.{all_append}
use Rattle.line_grammar.proofs.WrittenFiles.{written_lines, Written, lines_of, group_at, IsGroup, Takes, read_groups-written}
use Rattle.cfd_semantics.specs.declared.inclusion.InclusionRow.{InclusionRow}
use Rattle.rule_model.specs.declared.decl.CfdRow.{CfdRow}
use Rattle.rule_model.specs.declared.decl.CfdDecl.{CfdDecl}
use Rattle.rule_model.specs.declared.decl.Decl.{Decl}
use Rattle.rule_model.specs.declared.decl.Decl.TheVariants.{Cfd, Cind, Edit}
use Rattle.rule_model.specs.Books.{Book, with_decl, book_fault, IsBook}
use Rattle.rule_model.specs.Declarations.{IsWrittenEditCell, IsWrittenRow, IsWrittenInclusionRow, IsWritten}
use Rattle.rule_model.specs.Faults.{is_as_wide, fault_of}
use Rattle.rule_model.proofs.Passing.{holds_if_none, both_true, all_pass}
use Rattle.rule_model.proofs.ValidRules.{Passes, passes_if_none}
use Rattle.rule_parser.specs.RuleLines.{row_at, inclusion_row_at}
use Rattle.rule_parser.specs.RuleFiles.{rule_causes, rows_of, some_rows, with_rows, unless_rule, no_strays, add_group, reads}
use Rattle.rule_parser.specs.RuleText.{cfd_line, cind_line, edit_line, cfd_row_line, cind_row_line, decl_lines, canonical}
use Rattle.rule_parser.proofs.CellsAgain.{row_again, inclusion_row_again, cfd_row_readable, cind_row_readable}
use Rattle.rule_parser.proofs.HeadsAgain.{cfd_again, cind_again, edit_again, cfd_readable, cind_readable, edit_readable}
use Rattle.rule_parser.proofs.NamesAgain.{cfd_names, cind_names, edit_names}

-- ---- rows

rows_again : {R : Type 0} (reader : Reader R) (p : R → List Part) (number : ℕ) (rows : List R) → AllByRecursion (λ row. reader (tokens_in (p row)) ≡ Some (row, [])) rows → rows_of reader (written_lines number (map p rows)) ≡ Ok rows
rows_again reader p number [] again = refl
rows_again reader p number (row ∷ rows) again =
    ap (λ found. found_at rule_causes number (none_after found) >>= λ first. rows_of reader (written_lines (number + 1) (map p rows)) >>= λ more. Ok (first ∷ more)) again.0
    ∙ ap (λ rest. rest >>= λ more. Ok (row ∷ more)) (rows_again reader p (number + 1) rows again.1)

some_rows_again : {R : Type 0} (reader : Reader R) (p : R → List Part) (head number : ℕ) (rows : List R) → 1 ≤ length rows → AllByRecursion (λ row. reader (tokens_in (p row)) ≡ Some (row, [])) rows
    → some_rows reader head (written_lines number (map p rows)) ≡ Ok rows
some_rows_again reader p head number [] some again = absurd (omega arith)
some_rows_again reader p head number (row ∷ rows) some again = rows_again reader p number (row ∷ rows) again

cfd_rows_again : (cfd : CfdDecl) (rows : List CfdRow) → 1 ≤ length cfd.y → AllByRecursion (λ row. is_as_wide cfd row ≡ true) rows → AllByRecursion IsWrittenRow rows → AllByRecursion (λ row. row_at (tokens_in (cfd_row_line row)) ≡ Some (row, [])) rows
cfd_rows_again cfd [] right wide written = tt
cfd_rows_again cfd (row ∷ rows) right wide written =
    let width : length row.y ≡ length cfd.y = eqb-true (length row.y) (length cfd.y) (both_true (nat_eq (length row.x) (length cfd.x)) (nat_eq (length row.y) (length cfd.y)) wide.0).1 in
    (row_again row written.0 (omega arith), cfd_rows_again cfd rows right wide.1 written.1)

cind_rows_again : (rows : List (InclusionRow (List ℕ))) → AllByRecursion IsWrittenInclusionRow rows → AllByRecursion (λ row. inclusion_row_at (tokens_in (cind_row_line row)) ≡ Some (row, [])) rows
cind_rows_again [] written = tt
cind_rows_again (row ∷ rows) written = (inclusion_row_again row written.0, cind_rows_again rows written.1)

-- ---- one declaration

abbrev decl_group : Decl → Written
decl_group (Cfd cfd) = record { head = cfd_line cfd; members = map cfd_row_line cfd.rows }
decl_group (Cind cind) = record { head = cind_line cind; members = map cind_row_line cind.rows }
decl_group (Edit edit) = record { head = edit_line edit; members = [] }

decl_added : (book : Book) (decl : Decl) (number : ℕ) → IsWritten decl → Passes book.schema decl → IsValidSchema book.schema → book_fault book decl ≡ None → add_group book (group_at number (decl_group decl)) ≡ Ok (with_decl book decl)
unfolding add_group
decl_added book (Cfd cfd) number written passes valid fine =
    let bare = record cfd { rows = [] } in
    let members = written_lines (number + 1) (map cfd_row_line cfd.rows) in
    let wide = all_pass (is_as_wide cfd) cfd.rows (holds_if_none _ _ passes.widths) in
    let again = cfd_rows_again cfd cfd.rows written.right wide (recursion_from_All IsWrittenRow cfd.rows written.each_row) in
    ap (λ found. found_at rule_causes number (none_after found) >>= λ head. with_rows number members head >>= λ decl. unless_rule (book_fault book decl) number (with_decl book decl) >>= λ more. no_strays members head more) (cfd_again cfd written.right)
    ∙ ap (λ rows. (rows >>= λ them. Ok (Cfd (record cfd { rows = them }))) >>= λ decl. unless_rule (book_fault book decl) number (with_decl book decl) >>= λ more. no_strays members (Cfd bare) more)
    (some_rows_again row_at cfd_row_line number (number + 1) cfd.rows written.rows again)
    ∙ ap (λ fault. unless_rule fault number (with_decl book (Cfd cfd)) >>= λ more. no_strays members (Cfd bare) more) fine
decl_added book (Cind cind) number written passes valid fine =
    let bare = record cind { rows = [] } in
    let members = written_lines (number + 1) (map cind_row_line cind.rows) in
    let again = cind_rows_again cind.rows (recursion_from_All IsWrittenInclusionRow cind.rows written.each_row) in
    ap (λ found. found_at rule_causes number (none_after found) >>= λ head. with_rows number members head >>= λ decl. unless_rule (book_fault book decl) number (with_decl book decl) >>= λ more. no_strays members head more) (cind_again cind)
    ∙ ap (λ rows. (rows >>= λ them. Ok (Cind (record cind { rows = them }))) >>= λ decl. unless_rule (book_fault book decl) number (with_decl book decl) >>= λ more. no_strays members (Cind bare) more)
    (some_rows_again inclusion_row_at cind_row_line number (number + 1) cind.rows written.rows again)
    ∙ ap (λ fault. unless_rule fault number (with_decl book (Cind cind)) >>= λ more. no_strays members (Cind bare) more) fine
decl_added book (Edit edit) number written passes valid fine =
    let names = edit_names book.schema edit valid passes in
    ap (λ found. found_at rule_causes number (none_after found) >>= λ head. with_rows number [] head >>= λ decl. unless_rule (book_fault book decl) number (with_decl book decl) >>= λ more. no_strays [] head more)
    (edit_again edit names.even (recursion_from_All (λ p. IsWrittenEditCell p.1) edit.when written.pattern))
    ∙ ap (λ fault. unless_rule fault number (with_decl book (Edit edit)) >>= λ more. no_strays [] (Edit edit) more) fine

-- ---- its lines can be read, and are a group

cfd_rows_readable : (rows : List CfdRow) → AllByRecursion IsWrittenRow rows → AllByRecursion IsReadable (map cfd_row_line rows)
cfd_rows_readable [] written = tt
cfd_rows_readable (row ∷ rows) written = (cfd_row_readable row written.0, cfd_rows_readable rows written.1)

cind_rows_readable : (rows : List (InclusionRow (List ℕ))) → AllByRecursion IsWrittenInclusionRow rows → AllByRecursion IsReadable (map cind_row_line rows)
cind_rows_readable [] written = tt
cind_rows_readable (row ∷ rows) written = (cind_row_readable row written.0, cind_rows_readable rows written.1)

decl_readable : (schema : Schema) (decl : Decl) → IsWritten decl → Passes schema decl → IsValidSchema schema → AllByRecursion IsReadable (lines_of (decl_group decl))
decl_readable schema (Cfd cfd) written passes valid =
    let names = cfd_names schema cfd valid passes in
    (cfd_readable cfd written.name names.table names.x names.y, cfd_rows_readable cfd.rows (recursion_from_All IsWrittenRow cfd.rows written.each_row))
decl_readable schema (Cind cind) written passes valid =
    let names = cind_names schema cind valid passes in
    (cind_readable cind written.name names.left names.x names.xp names.right names.y names.yp, cind_rows_readable cind.rows (recursion_from_All IsWrittenInclusionRow cind.rows written.each_row))
decl_readable schema (Edit edit) written passes valid =
    let names = edit_names schema edit valid passes in
    (edit_readable edit written.name names.table names.master names.x names.xm names.target names.source names.pattern (recursion_from_All (λ p. IsWrittenEditCell p.1) edit.when written.pattern), tt)

cfd_rows_are_members : (rows : List CfdRow) → AllByRecursion (λ line. first_is (codes "row") (tokens_in line) ≡ true) (map cfd_row_line rows)
cfd_rows_are_members [] = tt
cfd_rows_are_members (row ∷ rows) = (refl, cfd_rows_are_members rows)

cind_rows_are_members : (rows : List (InclusionRow (List ℕ))) → AllByRecursion (λ line. first_is (codes "row") (tokens_in line) ≡ true) (map cind_row_line rows)
cind_rows_are_members [] = tt
cind_rows_are_members (row ∷ rows) = (refl, cind_rows_are_members rows)

is_group : (decl : Decl) → IsGroup (codes "row") (decl_group decl)
is_group (Cfd cfd) = record { head = refl; members = cfd_rows_are_members cfd.rows }
is_group (Cind cind) = record { head = refl; members = cind_rows_are_members cind.rows }
is_group (Edit edit) = record { head = refl; members = tt }

-- ---- all declarations

are_groups : (decls : List Decl) → AllByRecursion (IsGroup (codes "row")) (map decl_group decls)
are_groups [] = tt
are_groups (decl ∷ decls) = (is_group decl, are_groups decls)

lines_of_decl : (decl : Decl) → lines_of (decl_group decl) ≡ decl_lines decl
lines_of_decl (Cfd cfd) = refl
lines_of_decl (Cind cind) = refl
lines_of_decl (Edit edit) = refl

lines_of_decls : (decls : List Decl) → flat_map lines_of (map decl_group decls) ≡ flat_map decl_lines decls
lines_of_decls [] = refl
lines_of_decls (decl ∷ decls) = ap (λ ls. ls ++ flat_map lines_of (map decl_group decls)) (lines_of_decl decl) ∙ ap (λ ls. decl_lines decl ++ ls) (lines_of_decls decls)

abbrev book_with : Book → List Decl → Book
book_with book decls = record { schema = book.schema; limits = book.limits; decls = decls }

-- a declaration of a book has no fault over those before it
fault_free : (book : Book) (before : List Decl) (decl : Decl) (later : List Decl) → IsBook book → book.decls ≡ before ++ decl ∷ later → fault_of book.schema book.limits before decl ≡ None
fault_free book before decl later is e =
    let inside : length before < length book.decls = omega (arith, ap (λ (ds : List Decl). length ds) e, length-append before (decl ∷ later)) in
    ap (λ ds. fault_of book.schema book.limits ds decl) (sym (ap (take (length before)) e ∙ take-append_seam before (decl ∷ later)))
    ∙ ap (fault_of book.schema book.limits (take (length before) book.decls)) (sym (ap (λ ds. get_or ds (length before) decl) e ∙ get_or-append_seam before decl later decl))
    ∙ is.faultless.each (length before) decl inside

decls_taken : (book : Book) (before later : List Decl) → IsBook book → book.decls ≡ before ++ later → AllByRecursion IsWritten later → Takes add_group (book_with book before) (map decl_group later) book
unfolding book_fault
decls_taken book before [] is e written = ap (book_with book) (sym (e ∙ append-nil before))
decls_taken book before (decl ∷ later) is e written =
    let fine = fault_free book before decl later is e in
    let passes = (passes_if_none book.schema book.limits before decl fine).0 in (
      book_with book (before ++ decl ∷ []),
      λ number. decl_added (book_with book before) decl number written.0 passes is.schema fine,
      decls_taken book (before ++ decl ∷ []) later is (e ∙ sym (append_assoc before (decl ∷ []) later)) written.1,
    )

decls_readable : (book : Book) (before later : List Decl) → IsBook book → book.decls ≡ before ++ later → AllByRecursion IsWritten later → AllByRecursion IsReadable (flat_map lines_of (map decl_group later))
decls_readable book before [] is e written = tt
decls_readable book before (decl ∷ later) is e written =
    let passes = (passes_if_none book.schema book.limits before decl (fault_free book before decl later is e)).0 in
    all_append IsReadable (lines_of (decl_group decl)) (flat_map lines_of (map decl_group later)) (decl_readable book.schema decl written.0 passes is.schema)
    (decls_readable book (before ++ decl ∷ []) later is (e ∙ sym (append_assoc before (decl ∷ []) later)) written.1)

pub reads-canonical : (book : Book) → IsBook book → reads book.schema book.limits (canonical book.decls) ≡ Ok book
unfolding reads canonical
reads-canonical book is =
    let written = recursion_from_All IsWritten book.decls is.written in
    let start = book_with book [] in
    ap (λ ls. read_groups rule_causes (codes "row") add_group start (file_text ls)) (sym (lines_of_decls book.decls))
    ∙ read_groups-written rule_causes (codes "row") add_group start (map decl_group book.decls) book (decls_readable book [] book.decls is refl written) (are_groups book.decls) (decls_taken book [] book.decls is refl written)

pub canonical-written : (decls : List Decl) (out : List ℕ) (items : List Decl) (n : ℕ) → length items ≤ n → items ≡ decls → out ≡ file_text (flat_map decl_lines (take n items)) → out ≡ canonical decls
unfolding canonical
canonical-written decls out items n all same written = written ∙ ap (λ ds. file_text (flat_map decl_lines ds)) (take_all n items all ∙ same)
