-- The grammar of the lines of certificates. Questions:
--
--     consistent TABLE          implies DEPENDENCY
--
-- Answers to the first, and to the second:
--
--     witness LIST1(TEXT)       counter LIST1(TEXT), and on the next line: and LIST1(TEXT)
--     never                     implied
--     spent BUDGET              spent BUDGET
--
-- Nodes of a tree, one on a line behind `never`, `implied` or `spent`:
--
--     split VAR
--     leaf clause NUMBER        leaf two VAR VAR        leaf none CELL
--     open
--
-- Of one tuple VAR is ATTR=VALUE and CELL is ATTR. Of two VAR is 1.ATTR=VALUE, 2.ATTR=VALUE or =ATTR, and CELL is 1.ATTR
-- or 2.ATTR. NUMBER is a number from 1, BUDGET one from 1 to 1,000,000, and VALUE a text.
use Rattle.std.specs.Prelude.{ℕ, Bool, List, Option, Some, None, if◌then◌else◌, ◌==◌, ◌&&◌, nat_le, codes}
use Rattle.std.specs.Str.{bytes_eq}
use Rattle.line_grammar.specs.Phrases.{◌>>=◌, name_at, number_at, text_at, after_word, only_if}
use Rattle.line_grammar.specs.Marks.{after_mark}
use Rattle.line_grammar.specs.TokenLists.{Reader, list1_at}
use Rattle.line_grammar.specs.declared.tokens.Mark.TheVariants.{Equals, Dot}
use Rattle.line_grammar.specs.declared.tokens.Token.{Token}
use Rattle.rule_parser.specs.RuleLines.{said, dep_at}
use Rattle.cert_text.specs.declared.answers.AnswerLine.{AnswerLine}
use Rattle.cert_text.specs.declared.answers.AnswerLine.TheVariants.{Values, Closed, Spent}
use Rattle.cert_text.specs.declared.answers.Kind.{Kind}
use Rattle.cert_text.specs.declared.answers.Kind.TheVariants.{Consistency, Implication}
use Rattle.cert_text.specs.declared.cert.Question.{Question}
use Rattle.cert_text.specs.declared.cert.Question.TheVariants.{Consistent, Implies}
use Rattle.cell_values.specs.declared.which.Which.{Which}
use Rattle.cell_values.specs.declared.which.Which.TheVariants.{Only, First, Second}
use Rattle.cert_text.specs.declared.names.CellName.{CellName}
use Rattle.cert_text.specs.declared.names.VarName.{VarName}
use Rattle.cert_text.specs.declared.names.VarName.TheVariants.{Value, Equal}
use Rattle.cert_text.specs.declared.names.ReasonName.{ReasonName}
use Rattle.cert_text.specs.declared.names.ReasonName.TheVariants.{Clause, Two, NoneOf}
use Rattle.cert_text.specs.declared.names.NodeName.{NodeName}
use Rattle.cert_text.specs.declared.names.NodeName.TheVariants.{Split, Leaf, Open}

-- ---- cells and variables

-- the tuple of that number
abbrev pub tuple_of : ℕ → Option Which
tuple_of n = if n == 1 then Some First else (if n == 2 then Some Second else None)

-- CELL
unfoldable pub cell_at : Kind → Reader CellName
cell_at Consistency tokens = do
  attr ← name_at tokens
  Some (record { tuple = Only; attr = attr.0 }, attr.1)
cell_at Implication tokens = do
  number ← number_at tokens
  tuple ← tuple_of number.0
  rest ← after_mark Dot number.1
  attr ← name_at rest
  Some (record { tuple = tuple; attr = attr.0 }, attr.1)

-- CELL=VALUE
unfoldable pub value_at : Kind → Reader VarName
value_at kind tokens = do
  cell ← cell_at kind tokens
  rest ← after_mark Equals cell.1
  value ← text_at rest
  Some (Value cell.0 value.0, value.1)

-- `=` and ATTR, of two tuples
abbrev pub var_from : Kind → List Token → Option (List Token) → Option (VarName × List Token)
var_from Implication tokens (Some rest) = said (λ attr. Equal attr) (name_at rest)
var_from Implication tokens None = value_at Implication tokens
var_from Consistency tokens equals = value_at Consistency tokens

-- VAR
unfoldable pub var_at : Kind → Reader VarName
var_at kind tokens = var_from kind tokens (after_mark Equals tokens)

-- ---- nodes

abbrev pub is_counted : ℕ → Bool
is_counted n = nat_le 1 n && nat_le n 999999999999

abbrev pub clause_at : Reader ReasonName
clause_at tokens = said (λ n. Clause n) (number_at tokens >>= only_if is_counted)

abbrev pub two_at : Kind → Reader ReasonName
two_at kind tokens = do
  one ← var_at kind tokens
  other ← var_at kind one.1
  Some (Two one.0 other.0, other.1)

-- what stands behind `leaf` and the word after it
abbrev pub reason_for : Kind → List ℕ → Reader ReasonName
reason_for kind word rest =
    if bytes_eq word (codes "clause") then clause_at rest
    else (if bytes_eq word (codes "two") then two_at kind rest
    else (if bytes_eq word (codes "none") then said (λ cell. NoneOf cell) (cell_at kind rest)
    else None))

abbrev pub reason_at : Kind → Reader ReasonName
reason_at kind tokens = name_at tokens >>= λ word. reason_for kind word.0 word.1

-- what stands behind the first word of a node
abbrev pub node_for : Kind → List ℕ → Reader NodeName
node_for kind word rest =
    if bytes_eq word (codes "split") then said (λ v. Split v) (var_at kind rest)
    else (if bytes_eq word (codes "leaf") then said (λ reason. Leaf reason) (reason_at kind rest)
    else (if bytes_eq word (codes "open") then Some (Open, rest)
    else None))

unfoldable pub node_at : Kind → Reader NodeName
node_at kind tokens = name_at tokens >>= λ word. node_for kind word.0 word.1

-- ---- questions and answers

abbrev pub question_for : List ℕ → Reader Question
question_for word rest =
    if bytes_eq word (codes "consistent") then said (λ table. Consistent table) (name_at rest)
    else (if bytes_eq word (codes "implies") then said (λ dep. Implies dep) (dep_at rest)
    else None)

unfoldable pub question_at : Reader Question
question_at tokens = name_at tokens >>= λ word. question_for word.0 word.1

-- the words of the answers to a question of the kind
abbrev pub values_word : Kind → List ℕ
values_word Consistency = codes "witness"
values_word Implication = codes "counter"

abbrev pub closed_word : Kind → List ℕ
closed_word Consistency = codes "never"
closed_word Implication = codes "implied"

abbrev pub is_budget : ℕ → Bool
is_budget n = nat_le 1 n && nat_le n 1000000

abbrev pub budget_at : Reader AnswerLine
budget_at tokens = said (λ n. Spent n) (number_at tokens >>= only_if is_budget)

abbrev pub answer_for : Kind → List ℕ → Reader AnswerLine
answer_for kind word rest =
    if bytes_eq word (values_word kind) then said (λ values. Values values) (list1_at text_at rest)
    else (if bytes_eq word (closed_word kind) then Some (Closed, rest)
    else (if bytes_eq word (codes "spent") then budget_at rest
    else None))

unfoldable pub answer_at : Kind → Reader AnswerLine
answer_at kind tokens = name_at tokens >>= λ word. answer_for kind word.0 word.1

-- the second of two tuples
unfoldable pub and_at : Reader (List (List ℕ))
and_at tokens = after_word (codes "and") tokens >>= λ rest. list1_at text_at rest
