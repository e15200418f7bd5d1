-- A rule book is over the schema that its file is read over.
use Rattle.std.proofs.Common.{◌≡◌, ℕ, List, [], ◌∷◌, Option, Some, None, Ok, Err, codes, refl, sym, ap, ◌∙◌}
use Rattle.line_grammar.specs.Faults.{Reading, ◌>>=◌}
use Rattle.line_grammar.specs.FileLines.{begins_with, file_lines, no_lines, read_line}
use Rattle.line_grammar.specs.Groups.{Cut, cut, in_turn, read_cut, read_groups}
use Rattle.line_grammar.specs.TokenLists.{none_after}
use Rattle.line_grammar.specs.declared.group.Group.{Group}
use Rattle.line_grammar.specs.declared.line.Line.{Line}
use Rattle.text_lists.specs.declared.limits.Limits.{Limits}
use Rattle.schema_core.specs.declared.schema.Schema.{Schema}
use Rattle.rule_model.specs.Books.{Book, book_fault, with_decl}
use Rattle.rule_model.specs.declared.decl.Decl.{Decl}
use Rattle.rule_model.specs.declared.decl.Decl.TheVariants.{Cfd, Cind, Edit}
use Rattle.rule_model.specs.declared.fault.RuleFault.{RuleFault}
use Rattle.rule_parser.specs.declared.fault.ParseCause.{ParseCause}
use Rattle.rule_parser.specs.RuleFiles.{add_group, no_strays, reads, rule_causes, unless_rule, with_rows}
use Rattle.rule_parser.specs.RuleLines.{head_at}

-- what is read is over this schema
abbrev IsOver : Schema → Reading Book ParseCause → Type 0
IsOver schema read = (book : Book) → read ≡ Ok book → book.schema ≡ schema

-- the schema of a book that was read, or another
abbrev schema_in : Schema → Reading Book ParseCause → Schema
schema_in other (Ok book) = book.schema
schema_in other (Err fault) = other

over_book : (schema : Schema) (book : Book) → book.schema ≡ schema → IsOver schema (Ok book)
over_book schema book is other e = ap (schema_in schema) (sym e) ∙ is

over_fault : (schema : Schema) (fault : _) → IsOver schema (Err fault)
over_fault schema fault book e = absurd (cc)

-- one step after another
over_next : {X : Type 0} (schema : Schema) (first : Reading X ParseCause) (next : X → Reading Book ParseCause) → ((x : X) → IsOver schema (next x)) → IsOver schema (first >>= next)
over_next schema (Ok x) next each = each x
over_next schema (Err fault) next each = over_fault schema fault

over_lines : (schema : Schema) (lines : List Line) (book : Book) → book.schema ≡ schema → IsOver schema (no_lines rule_causes lines book)
over_lines schema [] book is = over_book schema book is
over_lines schema (line ∷ others) book is = over_fault schema _

over_strays : (schema : Schema) (lines : List Line) (head : Decl) (book : Book) → book.schema ≡ schema → IsOver schema (no_strays lines head book)
over_strays schema lines (Cfd cfd) book is = over_book schema book is
over_strays schema lines (Cind cind) book is = over_book schema book is
over_strays schema lines (Edit edit) book is = over_lines schema lines book is

over_unless : (schema : Schema) (fault : Option RuleFault) (number : ℕ) (book : Book) (next : Book → Reading Book ParseCause) → ((b : Book) → b.schema ≡ schema → IsOver schema (next b)) → book.schema ≡ schema → IsOver schema (unless_rule fault number book >>= next)
over_unless schema None number book next each is = each book is
over_unless schema (Some fault) number book next each is = over_fault schema _

over_group : (schema : Schema) (book : Book) (group : Group) → book.schema ≡ schema → IsOver schema (add_group book group)
unfolding add_group
over_group schema book group is =
    over_next schema (read_line rule_causes (λ tokens. none_after (head_at tokens)) group.head) _ (λ head.
    over_next schema (with_rows group.head.number group.members head) _ (λ decl.
    over_unless schema (book_fault book decl) group.head.number (with_decl book decl) (λ more. no_strays group.members head more) (λ more. over_strays schema group.members head more) is))

over_step : (schema : Schema) (added : Reading Book ParseCause) (next : Book → Reading Book ParseCause) → IsOver schema added → ((b : Book) → b.schema ≡ schema → IsOver schema (next b)) → IsOver schema (added >>= next)
over_step schema (Ok book) next over each = each book (over book refl)
over_step schema (Err fault) next over each = over_fault schema fault

over_groups : (schema : Schema) (groups : List Group) (book : Book) → book.schema ≡ schema → IsOver schema (in_turn add_group book groups)
over_groups schema [] book is = over_book schema book is
over_groups schema (group ∷ groups) book is =
    over_step schema (add_group book group) (λ next. in_turn add_group next groups) (over_group schema book group is) (λ next same. over_groups schema groups next same)

over_cut : (schema : Schema) (pieces : Cut) (book : Book) → book.schema ≡ schema → IsOver schema (read_cut rule_causes add_group book pieces)
over_cut schema pieces book is = go pieces.0
  where
    go : (strays : List Line) → IsOver schema (no_lines rule_causes strays book >>= λ start. in_turn add_group start pieces.1)
    go [] = over_groups schema pieces.1 book is
    go (line ∷ others) = over_fault schema _

pub same_schema : (schema : Schema) (limits : Limits) (bytes : List ℕ) (book : Book) → reads schema limits bytes ≡ Ok book → book.schema ≡ schema
unfolding reads read_groups
same_schema schema limits bytes book read = over_cut schema (cut (begins_with (codes "row")) (file_lines bytes)) (record { schema = schema; limits = limits; decls = [] }) refl book read
