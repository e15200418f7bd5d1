-- Reading the canonical text of a certificate gives the certificate, with the lines of that text.
use Rattle.std.proofs.Common.{◌≡◌, ℕ, zero, suc, ◌+◌, List, [], ◌∷◌, ◌++◌, length, map, Some, None, refl, sym, ap, ◌∙◌, subst, append_assoc, arith}
use Rattle.std.specs.Prelude.{Ok, codes, IfSome, Option, ◌==◌}
use Rattle.std.specs.List.{AllByRecursion}
use Rattle.std.proofs.lemmas.Bool.{cond-false, ne_eqb}
use Rattle.std.proofs.lemmas.List.{append-nil}
use Rattle.std.proofs.lemmas.List.Elements.{recursion_from_All}
use Rattle.case_tree.specs.declared.tree.Node.{Node}
use Rattle.case_tree.proofs.Preorder.{AreTrees, AreTrees-from_tree}
use Rattle.line_grammar.specs.Faults.{◌>>=◌}
use Rattle.line_grammar.specs.FileLines.{found_at}
use Rattle.line_grammar.specs.Groups.{in_turn, read_lines}
use Rattle.line_grammar.specs.Lines.{lines}
use Rattle.line_grammar.specs.TokenLists.{Reader, none_after}
use Rattle.line_grammar.specs.Spelling.{tokens_in, file_text, IsReadable}
use Rattle.line_grammar.specs.declared.writing.Part.{Part}
use Rattle.line_grammar.proofs.WrittenFiles.{written_line, written_lines, file_lines-written}
use Rattle.cert_text.specs.declared.answers.Kind.{Kind}
use Rattle.cert_text.specs.declared.answers.Draft.TheVariants as draft
use Rattle.cert_text.specs.declared.answers.AnswerLine.{AnswerLine}
use Rattle.cert_text.specs.declared.answers.AnswerLine.TheVariants.{Values, Closed, Spent}
use Rattle.cert_text.specs.declared.answers.Kind.TheVariants.{Consistency, Implication}
use Rattle.cert_text.specs.declared.cert.TupleLine.{TupleLine}
use Rattle.cert_text.specs.declared.cert.Asked.{Asked}
use Rattle.cert_text.specs.declared.cert.Question.{Question}
use Rattle.cert_text.specs.declared.cert.Question.TheVariants.{Consistent, Implies}
use Rattle.cert_text.specs.declared.cert.NodeLine.{NodeLine}
use Rattle.cert_text.specs.declared.cert.TreeLines.{TreeLines}
use Rattle.cert_text.specs.declared.cert.Answer.{Answer}
use Rattle.cert_text.specs.declared.cert.Answer.TheVariants.{Witness, Counter, Tree}
use Rattle.cert_text.specs.declared.cert.CertParts.{CertParts}
use Rattle.cert_text.specs.declared.names.NodeName.{NodeName}
use Rattle.cert_text.specs.declared.names.NodeName.TheVariants.{Split, Leaf, Open}
use Rattle.cert_text.specs.Canonical.{asked_first, node_lines, from_second, with_canonical_lines}
use Rattle.cert_text.specs.CertFiles.{cert_causes, kind_of, read_whole, missing_behind, tuple_line, bare_tree, with_node, counter_of, with_answer, with_line, whole, reads_cert}
use Rattle.cert_text.specs.CertLines.{answer_at, node_at}
use Rattle.cert_text.specs.CertText.{node_line, question_line, texts_line, tree_line, answer_lines, cert_lines, cert_text}
use Rattle.cert_text.specs.Written.{AreTexts, IsNodeOf, IsBudget, IsQuestion, IsAnswerTo, IsWrittenCert, shape_of, shapes}
use Rattle.cert_text.proofs.LinesAgain.{question_again, question_readable, values_again, and_again, texts_readable, closed_again, closed_readable, spent_again, spent_readable}
use Rattle.cert_text.proofs.NodeLines.{whole_if_none_missing}
use Rattle.cert_text.proofs.NodesAgain.{node_again, node_readable}

-- ---- one line

read_written : {X : Type 0} (rule : Reader X) (number : ℕ) (line : List Part) (x : X) → rule (tokens_in line) ≡ Some (x, []) → read_whole rule (written_line number line) ≡ Ok x
read_written rule number line x again = ap (λ found. found_at cert_causes number (none_after found)) again

-- ---- the nodes

-- what is left behind a node is read as the trees that are missing there
trees_behind : (node : NodeName) (missing : ℕ) (rest : List Node) → AreTrees (suc missing) (shape_of node ∷ rest) → AreTrees (missing_behind node (suc missing)) rest
trees_behind (Split v) missing rest trees =
    let same : suc (suc missing) ≡ suc missing + 1 = omega arith in subst (λ n. AreTrees n rest) same trees
trees_behind (Leaf reason) missing rest trees =
    let same : missing ≡ missing_behind (Leaf reason) (suc missing) = omega arith in subst (λ n. AreTrees n rest) same trees
trees_behind Open missing rest trees =
    let same : missing ≡ missing_behind Open (suc missing) = omega arith in subst (λ n. AreTrees n rest) same trees

abbrev names : List NodeLine → List NodeName
names nodes = map (λ (node : NodeLine). node.node) nodes

abbrev with_nodes : TreeLines → List NodeLine → TreeLines
with_nodes tree nodes = record { line = tree.line; budget = tree.budget; nodes = nodes }

node_step : (asked : Asked) (tree : TreeLines) (missing number : ℕ) (node : NodeLine) → IsNodeOf (kind_of asked.question) node.node
    → with_line (draft.Nodes asked tree (suc missing)) (written_line number (node_line node)) ≡ Ok (draft.Nodes asked (with_node tree number node.node) (missing_behind node.node (suc missing)))
unfolding with_line
node_step asked tree missing number node is =
    cond-false (suc missing == 0) _ _ (ne_eqb (suc missing) 0 (λ same. omega arith))
    ∙ ap (λ found. found_at cert_causes number (none_after found) >>= λ n. Ok (draft.Nodes asked (with_node tree number n) (missing_behind n (suc missing))))
    (ap (node_at (kind_of asked.question)) (sym (append-nil (tokens_in (node_line node)))) ∙ node_again (kind_of asked.question) node.node is)

nodes_read : (asked : Asked) (tree : TreeLines) (missing number : ℕ) (nodes : List NodeLine) → AreTrees missing (shapes nodes) → AllByRecursion (λ (node : NodeLine). IsNodeOf (kind_of asked.question) node.node) nodes
    → in_turn with_line (draft.Nodes asked tree missing) (written_lines number (map node_line nodes)) ≡ Ok (draft.Nodes asked (with_nodes tree (tree.nodes ++ node_lines number (names nodes))) 0)
nodes_read asked tree zero number [] trees are = ap (λ ns. Ok (draft.Nodes asked (with_nodes tree ns) 0)) (sym (append-nil tree.nodes))
nodes_read asked tree zero number (node ∷ nodes) trees are = absurd trees
nodes_read asked tree (suc missing) number [] trees are = absurd trees
nodes_read asked tree (suc missing) number (node ∷ nodes) trees are =
    let next = with_node tree number node.node in
    ap (λ read. read >>= λ later. in_turn with_line later (written_lines (number + 1) (map node_line nodes))) (node_step asked tree missing number node are.0)
    ∙ nodes_read asked next (missing_behind node.node (suc missing)) (number + 1) nodes (trees_behind node.node missing (shapes nodes) trees) are.1
    ∙ ap (λ ns. Ok (draft.Nodes asked (with_nodes tree ns) 0)) (append_assoc tree.nodes (record { line = number; node = node.node } ∷ []) (node_lines (number + 1) (names nodes)))

nodes_readable : (kind : Kind) (nodes : List NodeLine) → AllByRecursion (λ (node : NodeLine). IsNodeOf kind node.node) nodes → AllByRecursion IsReadable (map node_line nodes)
nodes_readable kind [] are = tt
nodes_readable kind (node ∷ nodes) are = (node_readable kind node.node are.0, nodes_readable kind nodes are.1)

-- ---- the answer

answer_step : (question : Question) (line : List Part) (answer : AnswerLine) → answer_at (kind_of question) (tokens_in line) ≡ Some (answer, [])
    → with_line (draft.Asked (asked_first question)) (written_line 2 line) ≡ Ok (with_answer (asked_first question) 2 answer)
unfolding with_line
answer_step question line answer again = ap (λ found. found_at cert_causes 2 (none_after found) >>= λ a. Ok (with_answer (asked_first question) 2 a)) again

second_step : (asked : Asked) (one : TupleLine) (values : List (List ℕ)) → AreTexts values
    → with_line (draft.Half asked one) (written_line 3 (texts_line (codes "and") values)) ≡ Ok (draft.Whole (counter_of asked one (tuple_line 3 values)))
unfolding with_line
second_step asked one values are = ap (λ found. found_at cert_causes 3 (none_after found) >>= λ vs. Ok (draft.Whole (counter_of asked one (tuple_line 3 vs)))) (and_again values are)

tree_step : (question : Question) (budget : Option ℕ) → IfSome budget IsBudget
    → with_line (draft.Asked (asked_first question)) (written_line 2 (tree_line (kind_of question) budget)) ≡ Ok (draft.Nodes (asked_first question) (bare_tree 2 budget) 1)
tree_step question None is = answer_step question (tree_line (kind_of question) None) Closed (closed_again (kind_of question))
tree_step question (Some budget) is = answer_step question (tree_line (kind_of question) (Some budget)) (Spent budget) (spent_again (kind_of question) budget is)

-- the lines behind the question, n being the number that a missing line would be told at
answer_read : (question : Question) (answer : Answer) (n : ℕ) → IsAnswerTo (kind_of question) answer
    → (in_turn with_line (draft.Asked (asked_first question)) (written_lines 2 (answer_lines (kind_of question) answer)) >>= whole n) ≡ Ok (record { asked = asked_first question; answer = from_second answer })
answer_read (Consistent table) (Witness one) n is =
    ap (λ read. (read >>= λ later. in_turn with_line later []) >>= whole n)
    (answer_step (Consistent table) (texts_line (codes "witness") one.values) (Values one.values) (values_again Consistency one.values is.1))
answer_read (Implies dep) (Witness one) n is = let e : Implication ≡ Consistency = is.0 in absurd cc
answer_read (Consistent table) (Counter one other) n is = let e : Consistency ≡ Implication = is.0 in absurd cc
answer_read (Implies dep) (Counter one other) n is =
    ap (λ read. (read >>= λ later. in_turn with_line later (written_lines 3 (texts_line (codes "and") other.values ∷ []))) >>= whole n)
    (answer_step (Implies dep) (texts_line (codes "counter") one.values) (Values one.values) (values_again Implication one.values is.1))
    ∙ ap (λ read. (read >>= λ later. in_turn with_line later []) >>= whole n) (second_step (asked_first (Implies dep)) (tuple_line 2 one.values) other.values is.2)
answer_read question (Tree tree) n is =
    let trees = AreTrees-from_tree (shapes tree.nodes) (whole_if_none_missing tree.nodes is.trees) in
    let each = recursion_from_All (λ (node : NodeLine). IsNodeOf (kind_of question) node.node) tree.nodes is.nodes in
    ap (λ read. (read >>= λ later. in_turn with_line later (written_lines 3 (map node_line tree.nodes))) >>= whole n) (tree_step question tree.budget is.budget)
    ∙ ap (λ read. read >>= whole n) (nodes_read (asked_first question) (bare_tree 2 tree.budget) 1 3 tree.nodes trees each)

tree_readable : (kind : Kind) (budget : Option ℕ) → IfSome budget IsBudget → IsReadable (tree_line kind budget)
tree_readable kind None is = closed_readable kind
tree_readable kind (Some budget) is = spent_readable kind budget is

answer_readable : (kind : Kind) (answer : Answer) → IsAnswerTo kind answer → AllByRecursion IsReadable (answer_lines kind answer)
answer_readable kind (Witness one) is = (texts_readable (codes "witness") one.values refl is.1, tt)
answer_readable kind (Counter one other) is = (texts_readable (codes "counter") one.values refl is.1, (texts_readable (codes "and") other.values refl is.2, tt))
answer_readable kind (Tree tree) is =
    (tree_readable kind tree.budget is.budget, nodes_readable kind tree.nodes (recursion_from_All (λ (node : NodeLine). IsNodeOf kind node.node) tree.nodes is.nodes))

-- ---- the whole

question_step : (question : Question) → IsQuestion question → with_line draft.Nothing (written_line 1 (question_line question)) ≡ Ok (draft.Asked (asked_first question))
unfolding with_line
question_step question is = ap (λ found. found_at cert_causes 1 (none_after found) >>= λ q. Ok (draft.Asked (asked_first q))) (question_again question is)

pub reads_cert-cert_text : (cert : CertParts) → IsWrittenCert cert → reads_cert (cert_text cert) ≡ Ok (with_canonical_lines cert)
unfolding reads_cert read_lines cert_text
reads_cert-cert_text cert is =
    let question = cert.asked.question in
    let n = length (lines (file_text (cert_lines cert))) + 1 in
    let readable : AllByRecursion IsReadable (cert_lines cert) = (question_readable question is.question, answer_readable (kind_of question) cert.answer is.answer) in
    ap (λ ls. in_turn with_line draft.Nothing ls >>= whole n) (file_lines-written (cert_lines cert) readable)
    ∙ ap (λ read. (read >>= λ later. in_turn with_line later (written_lines 2 (answer_lines (kind_of question) cert.answer))) >>= whole n) (question_step question is.question)
    ∙ answer_read question cert.answer n is.answer
