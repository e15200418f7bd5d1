-- Certificate files: the certificate that one spells, or its first faulty line. Lines come in order: a question, an answer,
-- and behind it a second tuple or the nodes of one tree in preorder. No line follows, and none is missing.
use Rattle.std.specs.Prelude.{ℕ, ◌+◌, ◌-◌, List, [], ◌∷◌, ◌++◌, length, Option, Some, None, Ok, if◌then◌else◌, ◌==◌}
use Rattle.line_grammar.specs.Faults.{Causes, Reading, faulty, ◌>>=◌}
use Rattle.line_grammar.specs.FileLines.{read_line}
use Rattle.line_grammar.specs.Groups.{read_lines}
use Rattle.line_grammar.specs.Lines.{lines}
use Rattle.line_grammar.specs.TokenLists.{Reader, none_after}
use Rattle.line_grammar.specs.declared.line.Line.{Line}
use Rattle.cert_text.specs.declared.answers.AnswerLine.{AnswerLine}
use Rattle.cert_text.specs.declared.answers.AnswerLine.TheVariants.{Values, Closed, Spent}
use Rattle.cert_text.specs.declared.answers.Kind.{Kind}
use Rattle.cert_text.specs.declared.answers.Kind.TheVariants.{Consistency, Implication}
use Rattle.cert_text.specs.declared.cert.Question.{Question}
use Rattle.cert_text.specs.declared.cert.Question.TheVariants.{Consistent, Implies}
use Rattle.cert_text.specs.declared.cert.Asked.{Asked}
use Rattle.cert_text.specs.declared.cert.TupleLine.{TupleLine}
use Rattle.cert_text.specs.declared.cert.TreeLines.{TreeLines}
use Rattle.cert_text.specs.declared.cert.Answer.TheVariants.{Witness, Counter, Tree}
use Rattle.cert_text.specs.declared.cert.CertParts.{CertParts}
use Rattle.cert_text.specs.declared.fault.CertCause.{CertCause}
use Rattle.cert_text.specs.declared.fault.CertCause.TheVariants.{NotUtf8, BadLine}
use Rattle.cert_text.specs.declared.names.NodeName.{NodeName}
use Rattle.cert_text.specs.declared.names.NodeName.TheVariants.{Split, Leaf, Open}
use Rattle.cert_text.specs.declared.answers.Draft.{Draft}
use Rattle.cert_text.specs.declared.answers.Draft.TheVariants as draft
use Rattle.cert_text.specs.CertLines.{question_at, answer_at, and_at, node_at}

abbrev pub cert_causes : Causes CertCause
cert_causes = record { not_utf8 = NotUtf8; bad_line = BadLine }

abbrev pub kind_of : Question → Kind
kind_of (Consistent table) = Consistency
kind_of (Implies dep) = Implication

-- a line by a rule that its tokens meet to the last
abbrev pub read_whole : {X : Type 0} → Reader X → Line → Reading X CertCause
read_whole rule line = read_line cert_causes (λ tokens. none_after (rule tokens)) line

-- no line may stand here
abbrev pub no_line : {X : Type 0} → Line → Reading X CertCause
no_line line = read_line cert_causes (λ tokens. None) line

-- how many subtrees are missing behind a node
abbrev pub missing_behind : NodeName → ℕ → ℕ
missing_behind (Split v) missing = missing + 1
missing_behind (Leaf reason) missing = missing - 1
missing_behind Open missing = missing - 1

abbrev pub tuple_line : ℕ → List (List ℕ) → TupleLine
tuple_line number values = record { line = number; values = values }

-- a tree of which no node was read yet
abbrev pub bare_tree : ℕ → Option ℕ → TreeLines
bare_tree number budget = record { line = number; budget = budget; nodes = [] }

abbrev pub with_node : TreeLines → ℕ → NodeName → TreeLines
with_node tree number node = record { line = tree.line; budget = tree.budget; nodes = tree.nodes ++ record { line = number; node = node } ∷ [] }

abbrev pub cert_of : Asked → TupleLine → CertParts
cert_of asked one = record { asked = asked; answer = Witness one }

abbrev pub counter_of : Asked → TupleLine → TupleLine → CertParts
counter_of asked one other = record { asked = asked; answer = Counter one other }

abbrev pub tree_cert : Asked → TreeLines → CertParts
tree_cert asked tree = record { asked = asked; answer = Tree tree }

-- an answer of one tuple is whole where the question is about one
abbrev pub with_tuple : Asked → Kind → TupleLine → Draft
with_tuple asked Consistency one = draft.Whole (cert_of asked one)
with_tuple asked Implication one = draft.Half asked one

abbrev pub with_answer : Asked → ℕ → AnswerLine → Draft
with_answer asked number (Values values) = with_tuple asked (kind_of asked.question) (tuple_line number values)
with_answer asked number Closed = draft.Nodes asked (bare_tree number None) 1
with_answer asked number (Spent budget) = draft.Nodes asked (bare_tree number (Some budget)) 1

-- what was read so far, with a line
unfoldable pub with_line : Draft → Line → Reading Draft CertCause
with_line draft.Nothing line = read_whole question_at line >>= λ question. Ok (draft.Asked (record { line = line.number; question = question }))
with_line (draft.Asked asked) line = read_whole (answer_at (kind_of asked.question)) line >>= λ answer. Ok (with_answer asked line.number answer)
with_line (draft.Half asked one) line = read_whole and_at line >>= λ values. Ok (draft.Whole (counter_of asked one (tuple_line line.number values)))
with_line (draft.Nodes asked tree missing) line =
    if missing == 0 then no_line line
    else (read_whole (node_at (kind_of asked.question)) line >>= λ node. Ok (draft.Nodes asked (with_node tree line.number node) (missing_behind node missing)))
with_line (draft.Whole cert) line = no_line line

-- the whole of what was read, or the number behind the last line
abbrev pub whole : ℕ → Draft → Reading CertParts CertCause
whole number draft.Nothing = faulty number BadLine
whole number (draft.Asked asked) = faulty number BadLine
whole number (draft.Half asked one) = faulty number BadLine
whole number (draft.Nodes asked tree missing) = if missing == 0 then Ok (tree_cert asked tree) else faulty number BadLine
whole number (draft.Whole cert) = Ok cert

-- the certificate that the bytes spell, or the first fault
unfoldable pub reads_cert : List ℕ → Reading CertParts CertCause
reads_cert bytes = read_lines with_line draft.Nothing bytes >>= whole (length (lines bytes) + 1)
