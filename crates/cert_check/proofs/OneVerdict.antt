-- A certificate has one verdict.
use Rattle.std.proofs.Common.{inl, inr, ◌≡◌, ℕ, List, [], ◌∷◌, Option, Some, None, refl, sym, ap, ◌∙◌, subst}
use Rattle.case_tree.specs.CaseTree.{CaseTree, ClauseSet, Place, preorder, places}
use Rattle.case_tree.specs.declared.tree.Node.{Node}
use Rattle.case_tree.proofs.Preorder.{same_tree}
use Rattle.schema_core.specs.Schemas.{table_place}
use Rattle.rule_model.specs.Books.{Book}
use Rattle.rule_model.specs.Judged.{judged_dep}
use Rattle.rule_model.specs.declared.dep.Dep.{Dep}
use Rattle.cert_text.specs.declared.cert.NodeLine.{NodeLine}
use Rattle.cert_text.specs.declared.cert.Question.{Question}
use Rattle.cert_text.specs.declared.cert.Question.TheVariants.{Consistent, Implies}
use Rattle.cert_text.specs.declared.cert.TreeLines.{TreeLines}
use Rattle.cert_text.specs.declared.cert.Answer.{Answer}
use Rattle.cert_text.specs.declared.cert.Answer.TheVariants.{Witness, Counter, Tree}
use Rattle.cert_text.specs.declared.cert.CertParts.{CertParts}
use Rattle.cert_check.specs.Shown.{Asks, accepted, nodes_of}
use Rattle.cert_check.specs.Verdict.{BudgetLine, ConsistencyLines, End, ImplicationLines, IsSpent, IsCertVerdict, Line, LineOf, NodesPass, Passes, QuestionLines, TreePasses}
use Rattle.cert_check.specs.declared.verdict.CertVerdict.{CertVerdict}
use Rattle.cert_check.specs.declared.verdict.CertVerdict.TheVariants.{Holds, Fails}

-- there is at most one
abbrev IsOne : (CertVerdict → Type 0) → Type 0
IsOne P = (one other : CertVerdict) → P one → P other → one ≡ other

end_one : IsOne End
end_one Holds Holds first second = refl
end_one Holds (Fails at) first second = absurd second
end_one (Fails at) other first second = absurd first

line_one : (line : ℕ) (claim : Type 0) (rest : CertVerdict → Type 0) → IsOne rest → IsOne (Line line claim rest)
line_one line claim rest one Holds Holds first second = refl
line_one line claim rest one Holds (Fails at) first (inl fails) = absurd (fails.0 first.0)
line_one line claim rest one Holds (Fails at) first (inr behind) = one Holds (Fails at) first.1 behind.1
line_one line claim rest one (Fails at) Holds (inl fails) second = absurd (fails.0 second.0)
line_one line claim rest one (Fails at) Holds (inr behind) second = one (Fails at) Holds behind.1 second.1
line_one line claim rest one (Fails at) (Fails other) (inl fails) (inl also) = ap Fails (fails.1 ∙ sym also.1)
line_one line claim rest one (Fails at) (Fails other) (inl fails) (inr behind) = absurd (fails.0 behind.0)
line_one line claim rest one (Fails at) (Fails other) (inr behind) (inl fails) = absurd (fails.0 behind.0)
line_one line claim rest one (Fails at) (Fails other) (inr behind) (inr also) = one (Fails at) (Fails other) behind.1 also.1

line_of_one : {X : Type 0} (line : ℕ) (found : Option X) (rest : X → CertVerdict → Type 0) → ((x : X) → IsOne (rest x)) → IsOne (LineOf line found rest)
line_of_one line None rest each = λ one other first second. first ∙ sym second
line_of_one line (Some x) rest each = each x

nodes_one : (set : ClauseSet) (budget : Option ℕ) (nodes : List NodeLine) (them : List Place) (rest : CertVerdict → Type 0) → IsOne rest → IsOne (NodesPass set budget nodes them rest)
nodes_one set budget [] them rest one = one
nodes_one set budget (node ∷ nodes) [] rest one = one
nodes_one set budget (node ∷ nodes) (place ∷ them) rest one = line_one node.line (Passes set budget place) (NodesPass set budget nodes them rest) (nodes_one set budget nodes them rest one)

budget_one : (line : ℕ) (budget : Option ℕ) (nodes : List Node) → IsOne (BudgetLine line budget nodes)
budget_one line None nodes = end_one
budget_one line (Some budget) nodes = line_one line (IsSpent budget nodes) End end_one

tree_one : (asks : Asks) (lines : TreeLines) → IsOne (TreePasses asks lines)
tree_one asks lines one other first second =
    let same : second.tree ≡ first.tree = same_tree second.tree first.tree (nodes_of asks.names lines.nodes) second.listed first.listed in
    let rest : CaseTree → CertVerdict → Type 0 = λ tree. NodesPass asks.set lines.budget lines.nodes (places tree) (BudgetLine lines.line lines.budget (preorder tree)) in
    nodes_one asks.set lines.budget lines.nodes (places first.tree) (BudgetLine lines.line lines.budget (preorder first.tree)) (budget_one lines.line lines.budget (preorder first.tree)) one other first.passes (subst (λ (tree : CaseTree). rest tree other) same second.passes)

consistency_one : (rules : Book) (answer : Answer) (table : ℕ) → IsOne (ConsistencyLines rules answer table)
consistency_one rules (Witness one) table = line_one one.line _ _ (line_one one.line _ _ end_one)
consistency_one rules (Tree lines) table = tree_one _ lines
consistency_one rules (Counter one other) table = λ first second impossible also. absurd impossible

implication_one : (rules : Book) (answer : Answer) (dep : Dep) → IsOne (ImplicationLines rules answer dep)
implication_one rules (Counter one other) dep = line_one one.line _ _ (line_one other.line _ _ (line_one other.line _ _ end_one))
implication_one rules (Tree lines) dep = tree_one _ lines
implication_one rules (Witness one) dep = λ first second impossible also. absurd impossible

question_one : (rules : Book) (line : ℕ) (question : Question) (answer : Answer) → IsOne (QuestionLines rules line question answer)
question_one rules line (Consistent table) answer = line_of_one line (table_place rules.schema table) (ConsistencyLines rules answer) (consistency_one rules answer)
question_one rules line (Implies decl) answer = line_of_one line (accepted (judged_dep rules.schema decl)) (ImplicationLines rules answer) (implication_one rules answer)

pub one_verdict : (rules : Book) (cert : CertParts) (one other : CertVerdict) → IsCertVerdict rules cert one → IsCertVerdict rules cert other → one ≡ other
one_verdict rules cert = question_one rules cert.asked.line cert.asked.question cert.answer
