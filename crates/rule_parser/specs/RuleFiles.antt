-- Rule files: the rule book that one spells, or its first faulty line with the first cause. A head and the `row` lines
-- behind it are a group, and a group is a declaration.
use Rattle.std.specs.Prelude.{ℕ, List, [], ◌∷◌, Option, Some, None, Ok, Err, Result, codes}
use Rattle.line_grammar.specs.Faults.{Causes, Reading, faulty, ◌>>=◌}
use Rattle.line_grammar.specs.FileLines.{read_line, read_content, no_lines, content_of}
use Rattle.line_grammar.specs.Groups.{read_groups}
use Rattle.line_grammar.specs.Tokens.{line_tokens}
use Rattle.line_grammar.specs.TokenLists.{Reader, none_after}
use Rattle.line_grammar.specs.declared.tokens.Token.{Token}
use Rattle.line_grammar.specs.Contents.{Content}
use Rattle.line_grammar.specs.declared.line.Line.{Line}
use Rattle.line_grammar.specs.declared.group.Group.{Group}
use Rattle.text_lists.specs.declared.limits.Limits.{Limits}
use Rattle.schema_core.specs.declared.schema.Schema.{Schema}
use Rattle.rule_model.specs.declared.decl.Decl.{Decl}
use Rattle.rule_model.specs.declared.decl.Decl.TheVariants.{Cfd, Cind, Edit}
use Rattle.rule_model.specs.declared.dep.Dep.{Dep}
use Rattle.rule_model.specs.declared.fault.RuleFault.{RuleFault}
use Rattle.rule_model.specs.Books.{Book, with_decl, book_fault}
use Rattle.rule_model.specs.Judged.{judged_dep}
use Rattle.rule_parser.specs.declared.fault.ParseCause.{ParseCause}
use Rattle.rule_parser.specs.declared.fault.ParseCause.TheVariants.{NotUtf8, BadLine, Rule}
use Rattle.rule_parser.specs.RuleLines.{row_at, inclusion_row_at, head_at, dep_at}

abbrev pub rule_causes : Causes ParseCause
rule_causes = record { not_utf8 = NotUtf8; bad_line = BadLine }

-- ---- declarations

-- the rows of lines
abbrev pub rows_of : {R : Type 0} → Reader R → List Line → Reading (List R) ParseCause
rows_of row [] = Ok []
rows_of row (line ∷ others) =
    read_line rule_causes (λ tokens. none_after (row tokens)) line >>= λ first. rows_of row others >>= λ more. Ok (first ∷ more)

-- the rows behind a head of that number, which without a row is a bad line
abbrev pub some_rows : {R : Type 0} → Reader R → ℕ → List Line → Reading (List R) ParseCause
some_rows row number [] = faulty number BadLine
some_rows row number (line ∷ others) = rows_of row (line ∷ others)

-- what a head and the lines behind it declare; an editing rule has no rows
abbrev pub with_rows : ℕ → List Line → Decl → Reading Decl ParseCause
with_rows number members (Cfd cfd) = some_rows row_at number members >>= λ rows. Ok (Cfd (record cfd { rows = rows }))
with_rows number members (Cind cind) = some_rows inclusion_row_at number members >>= λ rows. Ok (Cind (record cind { rows = rows }))
with_rows number members (Edit edit) = Ok (Edit edit)

-- what was read, unless a declaration whose head has that number has a fault
abbrev pub unless_rule : {X : Type 0} → Option RuleFault → ℕ → X → Reading X ParseCause
unless_rule None number x = Ok x
unless_rule (Some fault) number x = faulty number (Rule fault)

-- rows behind an editing rule are bad lines
abbrev pub no_strays : List Line → Decl → Book → Reading Book ParseCause
no_strays members (Cfd cfd) book = Ok book
no_strays members (Cind cind) book = Ok book
no_strays members (Edit edit) book = no_lines rule_causes members book

-- a book with the declaration of a group
unfoldable pub add_group : Book → Group → Reading Book ParseCause
add_group book group =
    read_line rule_causes (λ tokens. none_after (head_at tokens)) group.head
    >>= λ head. with_rows group.head.number group.members head
    >>= λ decl. unless_rule (book_fault book decl) group.head.number (with_decl book decl)
    >>= λ more. no_strays group.members head more

-- the rule book that the bytes spell, or the first fault
unfoldable pub reads : Schema → Limits → List ℕ → Reading Book ParseCause
reads schema limits bytes = read_groups rule_causes (codes "row") add_group (record { schema = schema; limits = limits; decls = [] }) bytes

-- ---- a dependency by itself

-- the text is one line; a blank one and a comment say nothing
abbrev pub read_alone : {X : Type 0} → (List Token → Option X) → Option Content → Reading X ParseCause
read_alone rule None = faulty 1 BadLine
read_alone rule (Some content) = read_content rule_causes rule 1 content

-- the dependency, or the first fault of its declaration
abbrev pub dep_or_fault : Result Dep RuleFault → Reading Dep ParseCause
dep_or_fault (Ok dep) = Ok dep
dep_or_fault (Err fault) = faulty 1 (Rule fault)

-- the dependency over a schema that a text spells, or its first fault
unfoldable pub reads_dep : Schema → List ℕ → Reading Dep ParseCause
reads_dep schema text =
    read_alone (λ tokens. none_after (dep_at tokens)) (content_of (line_tokens text)) >>= λ cfd. dep_or_fault (judged_dep schema cfd)
