-- The canonical text of a certificate: the question on a line, the answer on the next, and behind it the second tuple or
-- the nodes of the tree in preorder, one on a line. There is one space behind each word and each comma, and none round `=`
-- and `.`.
use Rattle.std.specs.Prelude.{◌≡◌, ℕ, List, [], ◌∷◌, ◌++◌, map, Option, Some, None, Ok, codes}
use Rattle.std.specs.List.{flat_map}
use Rattle.line_grammar.specs.Spelling.{name, number, text, mark, spaced_list, file_text}
use Rattle.line_grammar.specs.declared.tokens.Mark.TheVariants.{Equals, Dot}
use Rattle.line_grammar.specs.declared.writing.Part.{Part}
use Rattle.line_grammar.specs.declared.writing.Part.TheVariants.{Space}
use Rattle.rule_model.specs.declared.decl.CfdDecl.{CfdDecl}
use Rattle.rule_model.specs.declared.decl.CfdRow.{CfdRow}
use Rattle.rule_parser.specs.RuleText.{value_parts, cfd_parts, cfd_row_line}
use Rattle.cert_text.specs.declared.answers.Kind.{Kind}
use Rattle.cert_text.specs.declared.cert.Question.{Question}
use Rattle.cert_text.specs.declared.cert.Question.TheVariants.{Consistent, Implies}
use Rattle.cert_text.specs.declared.cert.NodeLine.{NodeLine}
use Rattle.cert_text.specs.declared.cert.Answer.{Answer}
use Rattle.cert_text.specs.declared.cert.Answer.TheVariants.{Witness, Counter, Tree}
use Rattle.cert_text.specs.declared.cert.CertParts.{CertParts}
use Rattle.cell_values.specs.declared.which.Which.{Which}
use Rattle.cell_values.specs.declared.which.Which.TheVariants.{Only, First, Second}
use Rattle.cert_text.specs.declared.names.CellName.{CellName}
use Rattle.cert_text.specs.declared.names.VarName.{VarName}
use Rattle.cert_text.specs.declared.names.VarName.TheVariants.{Value, Equal}
use Rattle.cert_text.specs.declared.names.ReasonName.{ReasonName}
use Rattle.cert_text.specs.declared.names.ReasonName.TheVariants.{Clause, Two, NoneOf}
use Rattle.cert_text.specs.declared.names.NodeName.{NodeName}
use Rattle.cert_text.specs.declared.names.NodeName.TheVariants.{Split, Leaf, Open}
use Rattle.cert_text.specs.CertFiles.{kind_of, reads_cert}
use Rattle.cert_text.specs.CertLines.{closed_word}

-- ---- nodes

-- nothing, `1.` or `2.`
abbrev pub tuple_parts : Which → List Part
tuple_parts Only = []
tuple_parts First = number 1 ∷ mark Dot ∷ []
tuple_parts Second = number 2 ∷ mark Dot ∷ []

-- `ATTR`, `1.ATTR` or `2.ATTR`
abbrev pub cell_name_parts : CellName → List Part
cell_name_parts cell = tuple_parts cell.tuple ++ name cell.attr ∷ []

-- `CELL=VALUE` or `=ATTR`
abbrev pub var_parts : VarName → List Part
var_parts (Value cell value) = cell_name_parts cell ++ mark Equals ∷ text value ∷ []
var_parts (Equal attr) = mark Equals ∷ name attr ∷ []

-- `clause NUMBER`, `two VAR VAR` or `none CELL`
abbrev pub reason_parts : ReasonName → List Part
reason_parts (Clause n) = name (codes "clause") ∷ Space ∷ number n ∷ []
reason_parts (Two one other) = name (codes "two") ∷ Space ∷ (var_parts one ++ Space ∷ var_parts other)
reason_parts (NoneOf cell) = name (codes "none") ∷ Space ∷ cell_name_parts cell

-- `split VAR`, `leaf` with its reason, or `open`
abbrev pub node_parts : NodeName → List Part
node_parts (Split v) = name (codes "split") ∷ Space ∷ var_parts v
node_parts (Leaf reason) = name (codes "leaf") ∷ Space ∷ reason_parts reason
node_parts Open = name (codes "open") ∷ []

abbrev pub node_line : NodeLine → List Part
node_line node = node_parts node.node

-- ---- questions and answers

-- ` row LIST(CELL) || CELL`
abbrev pub row_parts : CfdRow → List Part
row_parts row = Space ∷ cfd_row_line row

-- `TABLE: [LIST(ATTR)] -> [ATTR] row LIST(CELL) || CELL`, as one dependency is printed
abbrev pub dep_parts : CfdDecl → List Part
dep_parts dep = cfd_parts dep.table dep.x dep.y ++ flat_map row_parts dep.rows

-- `consistent TABLE` or `implies DEPENDENCY`
abbrev pub question_line : Question → List Part
question_line (Consistent table) = name (codes "consistent") ∷ Space ∷ name table ∷ []
question_line (Implies dep) = name (codes "implies") ∷ Space ∷ dep_parts dep

-- a word and texts
abbrev pub texts_line : List ℕ → List (List ℕ) → List Part
texts_line word values = name word ∷ spaced_list value_parts values

-- `never` or `implied`; `spent BUDGET` where a budget was spent
abbrev pub tree_line : Kind → Option ℕ → List Part
tree_line kind None = name (closed_word kind) ∷ []
tree_line kind (Some budget) = name (codes "spent") ∷ Space ∷ number budget ∷ []

-- the first two lines of a certificate with a tree
abbrev pub tree_head : Question → Option ℕ → List (List Part)
tree_head question budget = question_line question ∷ tree_line (kind_of question) budget ∷ []

-- an answer to a question of the kind
abbrev pub answer_lines : Kind → Answer → List (List Part)
answer_lines kind (Witness one) = texts_line (codes "witness") one.values ∷ []
answer_lines kind (Counter one other) = texts_line (codes "counter") one.values ∷ texts_line (codes "and") other.values ∷ []
answer_lines kind (Tree tree) = tree_line kind tree.budget ∷ map node_line tree.nodes

-- ---- the whole

abbrev pub cert_lines : CertParts → List (List Part)
cert_lines cert = question_line cert.asked.question ∷ answer_lines (kind_of cert.asked.question) cert.answer

unfoldable pub cert_text : CertParts → List ℕ
cert_text cert = file_text (cert_lines cert)

-- the text of a certificate, which is read again as that certificate
pub record IsCertText (cert : CertParts) (bytes : List ℕ) : Type 0 where
  pub written : bytes ≡ cert_text cert
  pub read_again : reads_cert bytes ≡ Ok cert
