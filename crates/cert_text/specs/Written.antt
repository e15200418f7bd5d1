-- Which certificates can be written.
use Rattle.std.specs.Prelude.{◌≡◌, ℕ, ◌≤◌, List, ◌++◌, length, map, flat_map, IfSome, All}
use Rattle.std.specs.Str.{IsUtf8}
use Rattle.case_tree.specs.CaseTree.{CaseTree, IsOneTree, preorder}
use Rattle.case_tree.specs.declared.tree.Node.{Node}
use Rattle.case_tree.specs.declared.tree.Node.TheVariants as shape
use Rattle.case_tree.specs.declared.tree.Reason.TheVariants as reasons
use Rattle.text_lists.specs.Names.{IsName}
use Rattle.rule_parser.specs.ReadRules.{IsDepDecl}
use Rattle.cert_text.specs.declared.answers.AnswerLine.{AnswerLine}
use Rattle.cert_text.specs.declared.answers.AnswerLine.TheVariants.{Values, Closed, Spent}
use Rattle.cert_text.specs.declared.answers.Kind.{Kind}
use Rattle.cert_text.specs.declared.answers.Kind.TheVariants.{Consistency, Implication}
use Rattle.cert_text.specs.declared.answers.Draft.{Draft}
use Rattle.cert_text.specs.declared.answers.Draft.TheVariants as draft
use Rattle.cert_text.specs.declared.cert.Question.{Question}
use Rattle.cert_text.specs.declared.cert.Question.TheVariants.{Consistent, Implies}
use Rattle.cert_text.specs.declared.cert.NodeLine.{NodeLine}
use Rattle.cert_text.specs.declared.cert.TreeLines.{TreeLines}
use Rattle.cert_text.specs.declared.cert.Answer.{Answer}
use Rattle.cert_text.specs.declared.cert.Answer.TheVariants.{Witness, Counter, Tree}
use Rattle.cert_text.specs.declared.cert.CertParts.{CertParts}
use Rattle.cell_values.specs.declared.which.Which.{Which}
use Rattle.cell_values.specs.declared.which.Which.TheVariants.{Only, First, Second}
use Rattle.cert_text.specs.declared.names.CellName.{CellName}
use Rattle.cert_text.specs.declared.names.VarName.{VarName}
use Rattle.cert_text.specs.declared.names.VarName.TheVariants.{Value, Equal}
use Rattle.cert_text.specs.declared.names.ReasonName.{ReasonName}
use Rattle.cert_text.specs.declared.names.ReasonName.TheVariants.{Clause, Two, NoneOf}
use Rattle.cert_text.specs.declared.names.NodeName.{NodeName}
use Rattle.cert_text.specs.declared.names.NodeName.TheVariants.{Split, Leaf, Open}
use Rattle.cert_text.specs.CertFiles.{kind_of}

-- ---- names

-- a question of the kind is about that tuple
abbrev pub IsOfKind : Kind → Which → Type 0
IsOfKind Consistency Only = Unit {0}
IsOfKind Consistency First = ⊥
IsOfKind Consistency Second = ⊥
IsOfKind Implication Only = ⊥
IsOfKind Implication First = Unit {0}
IsOfKind Implication Second = Unit {0}

pub record IsCellOf (kind : Kind) (cell : CellName) : Type 0 where
  pub tuple : IsOfKind kind cell.tuple
  pub attr : IsName cell.attr

-- whether two tuples agree is asked where there are two
abbrev pub IsVarOf : Kind → VarName → Type 0
IsVarOf kind (Value cell value) = IsCellOf kind cell × IsUtf8 value
IsVarOf kind (Equal attr) = (kind ≡ Implication) × IsName attr

abbrev pub IsReasonOf : Kind → ReasonName → Type 0
IsReasonOf kind (Clause n) = (1 ≤ n) × (n ≤ 999999999999)
IsReasonOf kind (Two one other) = IsVarOf kind one × IsVarOf kind other
IsReasonOf kind (NoneOf cell) = IsCellOf kind cell

abbrev pub IsNodeOf : Kind → NodeName → Type 0
IsNodeOf kind (Split v) = IsVarOf kind v
IsNodeOf kind (Leaf reason) = IsReasonOf kind reason
IsNodeOf kind Open = Unit {0}

-- ---- trees

-- a node without its names
abbrev pub shape_of : NodeName → Node
shape_of (Split v) = shape.Split 0
shape_of (Leaf reason) = shape.Leaf (reasons.Clause 0)
shape_of Open = shape.Unclosed

abbrev pub shapes : List NodeLine → List Node
shapes nodes = map (λ (node : NodeLine). shape_of node.node) nodes

-- the nodes are one tree with any that many subtrees behind them
abbrev pub Misses : ℕ → List NodeLine → Type 0
Misses missing nodes = (trees : List CaseTree) → length trees ≡ missing → IsOneTree (shapes nodes ++ flat_map preorder trees)

pub record IsBudget (n : ℕ) : Type 0 where
  pub some : 1 ≤ n
  pub within : n ≤ 1000000

-- ---- questions and answers

abbrev pub IsQuestion : Question → Type 0
IsQuestion (Consistent table) = IsName table
IsQuestion (Implies dep) = IsDepDecl dep

-- some texts
pub record AreTexts (values : List (List ℕ)) : Type 0 where
  pub some : 1 ≤ length values
  pub utf8 : All IsUtf8 values

abbrev pub IsAnswerLine : AnswerLine → Type 0
IsAnswerLine (Values values) = AreTexts values
IsAnswerLine Closed = Unit {0}
IsAnswerLine (Spent budget) = IsBudget budget

-- the nodes of a tree, of which that many subtrees are missing
pub record IsTreeOf (kind : Kind) (tree : TreeLines) (missing : ℕ) : Type 0 where
  pub budget : IfSome tree.budget IsBudget
  pub nodes : All (λ (node : NodeLine). IsNodeOf kind node.node) tree.nodes
  pub trees : Misses missing tree.nodes

-- the answer is one to a question of the kind
abbrev pub IsAnswerTo : Kind → Answer → Type 0
IsAnswerTo kind (Witness one) = (kind ≡ Consistency) × AreTexts one.values
IsAnswerTo kind (Counter one other) = (kind ≡ Implication) × AreTexts one.values × AreTexts other.values
IsAnswerTo kind (Tree tree) = IsTreeOf kind tree 0

pub record IsWrittenCert (cert : CertParts) : Type 0 where
  pub question : IsQuestion cert.asked.question
  pub answer : IsAnswerTo (kind_of cert.asked.question) cert.answer

-- a certificate as far as it was read
abbrev pub IsDraft : Draft → Type 0
IsDraft draft.Nothing = Unit {0}
IsDraft (draft.Asked asked) = IsQuestion asked.question
IsDraft (draft.Half asked one) = IsQuestion asked.question × (kind_of asked.question ≡ Implication) × AreTexts one.values
IsDraft (draft.Nodes asked tree missing) = IsQuestion asked.question × IsTreeOf (kind_of asked.question) tree missing
IsDraft (draft.Whole cert) = IsWrittenCert cert
