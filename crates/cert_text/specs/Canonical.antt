-- Certificates whose lines are those of the canonical text: the question stands on the first, the answer on the second,
-- and behind it the second tuple, or the nodes in preorder one on a line.
use Rattle.std.specs.Prelude.{ℕ, ◌+◌, List, [], ◌∷◌, map, Option}
use Rattle.rule_model.specs.declared.decl.CfdDecl.{CfdDecl}
use Rattle.cert_text.specs.declared.cert.Question.{Question}
use Rattle.cert_text.specs.declared.cert.Question.TheVariants.{Consistent, Implies}
use Rattle.cert_text.specs.declared.cert.Asked.{Asked}
use Rattle.cert_text.specs.declared.cert.NodeLine.{NodeLine}
use Rattle.cert_text.specs.declared.cert.TreeLines.{TreeLines}
use Rattle.cert_text.specs.declared.cert.Answer.{Answer}
use Rattle.cert_text.specs.declared.cert.Answer.TheVariants.{Witness, Counter, Tree}
use Rattle.cert_text.specs.declared.cert.CertParts.{CertParts}
use Rattle.cert_text.specs.declared.names.NodeName.{NodeName}
use Rattle.cert_text.specs.CertFiles.{tuple_line, cert_of, counter_of, tree_cert}

-- the question, on the first line
abbrev pub asked_first : Question → Asked
asked_first question = record { line = 1; question = question }

-- the nodes, one on a line from that one on
abbrev pub node_lines : ℕ → List NodeName → List NodeLine
node_lines number [] = []
node_lines number (node ∷ nodes) = record { line = number; node = node } ∷ node_lines (number + 1) nodes

abbrev pub tree_lines : Option ℕ → List NodeName → TreeLines
tree_lines budget nodes = record { line = 2; budget = budget; nodes = node_lines 3 nodes }

-- a tuple that shows that the rules of the table are consistent
abbrev pub witness_cert : List ℕ → List (List ℕ) → CertParts
witness_cert table values = cert_of (asked_first (Consistent table)) (tuple_line 2 values)

-- two tuples that show that the dependency isn't implied
abbrev pub counter_cert : CfdDecl → List (List ℕ) → List (List ℕ) → CertParts
counter_cert dep one other = counter_of (asked_first (Implies dep)) (tuple_line 2 one) (tuple_line 3 other)

-- a tree of cases, with the budget where it was spent
abbrev pub case_cert : Question → Option ℕ → List NodeName → CertParts
case_cert question budget nodes = tree_cert (asked_first question) (tree_lines budget nodes)

-- an answer, from the second line on
abbrev pub from_second : Answer → Answer
from_second (Witness one) = Witness (tuple_line 2 one.values)
from_second (Counter one other) = Counter (tuple_line 2 one.values) (tuple_line 3 other.values)
from_second (Tree tree) = Tree (tree_lines tree.budget (map (λ (node : NodeLine). node.node) tree.nodes))

-- a certificate with the lines of its canonical text
abbrev pub with_canonical_lines : CertParts → CertParts
with_canonical_lines cert = record { asked = asked_first cert.asked.question; answer = from_second cert.answer }
