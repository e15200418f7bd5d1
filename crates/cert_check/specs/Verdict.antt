-- When a certificate holds over a rule book, and which line is the first that doesn't.
use Rattle.std.specs.Prelude.{◌≡◌, ◌≢◌, ℕ, List, [], ◌∷◌, ◌⊎◌, Option, Some, None, IfNone}
use Rattle.std.specs.List.{Any}
use Rattle.schema_core.specs.Lookups.{attrs_at}
use Rattle.schema_core.specs.Schemas.{table_place}
use Rattle.case_tree.specs.CaseTree.{CaseTree, ClauseSet, Place, preorder, places, IsRightAt, leaf_count}
use Rattle.case_tree.specs.declared.tree.Node.{Node}
use Rattle.case_tree.specs.declared.tree.Node.TheVariants.{Unclosed}
use Rattle.rule_model.specs.Books.{Book, book_deps}
use Rattle.rule_model.specs.Judged.{judged_dep}
use Rattle.rule_model.specs.declared.dep.Dep.{Dep}
use Rattle.cfd_implication.specs.Implied.{SatisfyTable}
use Rattle.cert_text.specs.declared.cert.Question.{Question}
use Rattle.cert_text.specs.declared.cert.Question.TheVariants.{Consistent, Implies}
use Rattle.cert_text.specs.declared.cert.TupleLine.{TupleLine}
use Rattle.cert_text.specs.declared.cert.NodeLine.{NodeLine}
use Rattle.cert_text.specs.declared.cert.TreeLines.{TreeLines}
use Rattle.cert_text.specs.declared.cert.Answer.{Answer}
use Rattle.cert_text.specs.declared.cert.Answer.TheVariants.{Witness, Counter, Tree}
use Rattle.cert_text.specs.declared.cert.CertParts.{CertParts}
use Rattle.cert_check.specs.Shown.{Asks, IsShortTuple, Refute, accepted, asks_consistency, asks_implication, nodes_of}
use Rattle.cert_check.specs.declared.verdict.CertVerdict.{CertVerdict}
use Rattle.cert_check.specs.declared.verdict.CertVerdict.TheVariants.{Holds, Fails}

-- ---- lines in order

-- A line says something, and what comes behind it says the rest. The first line of which that isn't so is the one that
-- fails.
abbrev pub Line : ℕ → Type 0 → (CertVerdict → Type 0) → CertVerdict → Type 0
Line line claim rest Holds = claim × rest Holds
Line line claim rest (Fails at) = (¬ claim × (at ≡ line)) ⊎ (claim × rest (Fails at))

-- no line fails any more
abbrev pub End : CertVerdict → Type 0
End Holds = Unit {0}
End (Fails at) = ⊥

-- a line names something, and what comes behind it speaks of that
abbrev pub LineOf : {X : Type 0} → ℕ → Option X → (X → CertVerdict → Type 0) → CertVerdict → Type 0
LineOf line None rest verdict = verdict ≡ Fails line
LineOf line (Some x) rest verdict = rest x verdict

-- ---- tuples

-- a tuple that alone satisfies the dependencies of its table
abbrev pub WitnessLines : Book → ℕ → TupleLine → CertVerdict → Type 0
WitnessLines rules table one =
    Line one.line (IsShortTuple (attrs_at rules.schema table) one.values)
    (Line one.line (SatisfyTable table (book_deps rules) (one.values ∷ [])) End)

abbrev pub CounterLines : Book → Dep → TupleLine → TupleLine → CertVerdict → Type 0
CounterLines rules dep one other =
    let attrs = attrs_at rules.schema dep.table in
    Line one.line (IsShortTuple attrs one.values)
    (Line other.line (IsShortTuple attrs other.values)
    (Line other.line (Refute rules dep (one.values ∷ other.values ∷ [])) End))

-- ---- trees

-- a node is right under its path, and where no budget was spent it isn't open
pub record Passes (set : ClauseSet) (budget : Option ℕ) (place : Place) : Type 0 where
  pub right : IsRightAt set place
  pub closed : IfNone budget (place.node ≢ Unclosed)

-- each node passes, on its line
abbrev pub NodesPass : ClauseSet → Option ℕ → List NodeLine → List Place → (CertVerdict → Type 0) → CertVerdict → Type 0
NodesPass set budget [] places rest = rest
NodesPass set budget (node ∷ nodes) [] rest = rest
NodesPass set budget (node ∷ nodes) (place ∷ places) rest = Line node.line (Passes set budget place) (NodesPass set budget nodes places rest)

-- as many leaves as the budget, and a case that is open
pub record IsSpent (budget : ℕ) (nodes : List Node) : Type 0 where
  pub leaves : leaf_count nodes ≡ budget
  pub open_node : Any (λ (node : Node). node ≡ Unclosed) nodes

-- where a budget was spent, its line is looked at behind the nodes
abbrev pub BudgetLine : ℕ → Option ℕ → List Node → CertVerdict → Type 0
BudgetLine line None nodes = End
BudgetLine line (Some budget) nodes = Line line (IsSpent budget nodes) End

-- The nodes are one tree in preorder. Each passes, and then the budget was spent, where there is one.
pub record TreePasses (asks : Asks) (lines : TreeLines) (verdict : CertVerdict) : Type 0 where
  pub tree : CaseTree
  pub listed : preorder tree ≡ nodes_of asks.names lines.nodes
  pub passes : NodesPass asks.set lines.budget lines.nodes (places tree) (BudgetLine lines.line lines.budget (preorder tree)) verdict

-- ---- certificates

abbrev pub ConsistencyLines : Book → Answer → ℕ → CertVerdict → Type 0
ConsistencyLines rules (Witness one) table = WitnessLines rules table one
ConsistencyLines rules (Tree lines) table = TreePasses (asks_consistency rules table) lines
ConsistencyLines rules (Counter one other) table = λ verdict. ⊥

abbrev pub ImplicationLines : Book → Answer → Dep → CertVerdict → Type 0
ImplicationLines rules (Counter one other) dep = CounterLines rules dep one other
ImplicationLines rules (Tree lines) dep = TreePasses (asks_implication rules dep) lines
ImplicationLines rules (Witness one) dep = λ verdict. ⊥

-- the question, and then its answer
abbrev pub QuestionLines : Book → ℕ → Question → Answer → CertVerdict → Type 0
QuestionLines rules line (Consistent table) answer = LineOf line (table_place rules.schema table) (ConsistencyLines rules answer)
QuestionLines rules line (Implies decl) answer = LineOf line (accepted (judged_dep rules.schema decl)) (ImplicationLines rules answer)

-- the certificate holds, or that is its first line that doesn't
abbrev pub IsCertVerdict : Book → CertParts → CertVerdict → Type 0
IsCertVerdict rules cert = QuestionLines rules cert.asked.line cert.asked.question cert.answer
