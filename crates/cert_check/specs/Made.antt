-- The certificates of the deciders' answers, and their texts.
use Rattle.std.specs.Prelude.{◌≡◌, ℕ, ◌+◌, ◌≤◌, List, [], ◌∷◌, length, map, Option, Some, None, slice_get, All, IfSome, IsSome}
use Rattle.std.specs.List.{AllZip}
use Rattle.std.specs.Option.{option_map, option_map_or}
use Rattle.schema_core.specs.Lookups.{attrs_at}
use Rattle.schema_core.specs.declared.schema.Schema.{Schema}
use Rattle.case_tree.specs.CaseTree.{CaseTree, ClauseSet, IsRightAt, leaf_count, places, preorder}
use Rattle.case_tree.specs.declared.tree.Node.{Node}
use Rattle.case_tree.specs.declared.tree.Node.TheVariants as nodes
use Rattle.case_tree.specs.declared.tree.Reason.{Reason}
use Rattle.case_tree.specs.declared.tree.Reason.TheVariants as reasons
use Rattle.cfd_semantics.specs.declared.dependency.TableauRow.{TableauRow}
use Rattle.rule_model.specs.Books.{Book}
use Rattle.rule_model.specs.declared.decl.CfdDecl.{CfdDecl}
use Rattle.rule_model.specs.declared.decl.CfdRow.{CfdRow}
use Rattle.rule_model.specs.declared.dep.Dep.{Dep}
use Rattle.rule_parser.specs.RuleText.{table_name, attr_name}
use Rattle.cfd_consistency.specs.Answer as consistency
use Rattle.cfd_consistency.specs.Question.{AskedTable}
use Rattle.cfd_consistency.specs.declared.decider.Consistency.{Consistency}
use Rattle.cfd_consistency.specs.declared.decider.Consistency.TheVariants as found
use Rattle.cfd_implication.specs.Answers as implication
use Rattle.cfd_implication.specs.Question.{AskedDep}
use Rattle.cfd_implication.specs.declared.answer.Implication.{Implication}
use Rattle.cfd_implication.specs.declared.answer.Implication.TheVariants as told
use Rattle.cert_text.specs.Written.{IsBudget, IsNodeOf}
use Rattle.cert_text.specs.CertText.{IsCertText, node_parts}
use Rattle.line_grammar.specs.Spelling.{file_text}
use Rattle.line_grammar.specs.declared.writing.Part.{Part}
use Rattle.cert_text.specs.Canonical.{witness_cert, counter_cert, case_cert}
use Rattle.cert_text.specs.declared.cert.Question.{Question}
use Rattle.cert_text.specs.declared.cert.Question.TheVariants.{Consistent, Implies}
use Rattle.cert_text.specs.declared.cert.CertParts.{CertParts}
use Rattle.cert_text.specs.declared.names.ReasonName.{ReasonName}
use Rattle.cert_text.specs.declared.names.ReasonName.TheVariants.{Clause, Two, NoneOf}
use Rattle.cert_text.specs.declared.names.NodeName.{NodeName}
use Rattle.cert_text.specs.declared.names.NodeName.TheVariants.{Split, Leaf, Open}
use Rattle.cert_check.specs.Names.{Names, named_cell}
use Rattle.cert_check.specs.Shown.{IsRightCert, asks_consistency, asks_from}

-- ---- nodes by names

-- f of two values, where both are there
abbrev pub both : {A B C : Type 0} → (A → B → C) → Option A → Option B → Option C
both f None other = None
both f (Some a) None = None
both f (Some a) (Some b) = Some (f a b)

-- a reason with names in place of numbers, where its numbers are those of names
abbrev pub named_reason : Names → Reason → Option ReasonName
named_reason names (reasons.Clause at) = Some (Clause (at + 1))
named_reason names (reasons.Two v w) = both (λ one other. Two one other) (slice_get names.vars v) (slice_get names.vars w)
named_reason names (reasons.NoneOf at) = option_map (λ cell. NoneOf cell) (named_cell names.cells at)

abbrev pub named_node : Names → Node → Option NodeName
named_node names (nodes.Split v) = option_map (λ var. Split var) (slice_get names.vars v)
named_node names (nodes.Leaf reason) = option_map (λ named. Leaf named) (named_reason names reason)
named_node names nodes.Unclosed = Some Open

-- the line of a node that has a name
abbrev pub named_parts : Names → Node → List Part
named_parts names node = option_map_or node_parts (named_node names node) []

-- its name can stand in a certificate of the question
abbrev pub IsFitNode : Names → Node → Type 0
IsFitNode names node = IfSome (named_node names node) (IsNodeOf names.kind)

-- these are the nodes by names, place by place
abbrev pub AreNamed : Names → List Node → List NodeName → Type 0
AreNamed names tree named = AllZip (λ node name. named_node names node ≡ Some name) tree named

-- each node of an answer has a name
abbrev pub HaveNames : Names → List Node → Type 0
HaveNames names tree = All (λ node. IsSome (named_node names node)) tree

-- an answer that a certificate can say: of some texts, or of nodes with names, and with a number of leaves that can be a budget
abbrev pub IsWrittenAnswer : Names → Consistency → Type 0
IsWrittenAnswer names (found.Witness tuple) = 1 ≤ length tuple
IsWrittenAnswer names (found.Never tree) = HaveNames names tree
IsWrittenAnswer names (found.Spent tree) = HaveNames names tree × IsBudget (leaf_count tree)

abbrev pub IsWrittenDepAnswer : Names → Implication → Type 0
IsWrittenDepAnswer names (told.Counter one other) = (1 ≤ length one) × (1 ≤ length other)
IsWrittenDepAnswer names (told.Implied tree) = HaveNames names tree
IsWrittenDepAnswer names (told.Spent tree) = HaveNames names tree × IsBudget (leaf_count tree)

-- the nodes are one tree, and each is right under its path
pub record IsRightTree (set : ClauseSet) (nodes : List Node) : Type 0 where
  pub tree : CaseTree
  pub listed : preorder tree ≡ nodes
  pub right : All (IsRightAt set) (places tree)

-- the lines of the nodes by names
pub record IsTreeText (names : Names) (tree : List Node) (text : List ℕ) : Type 0 where
  pub named : List NodeName
  pub nodes : AreNamed names tree named
  pub lines : text ≡ file_text (map node_parts named)

-- ---- questions by names

abbrev pub names_asked : AskedTable → Names
names_asked asked = (asks_consistency asked.rules asked.table).names

abbrev pub names_asked_of : AskedDep → Names
names_asked_of asked = (asks_from asked.schema asked.deps asked.dep).names

-- the name of the table that is asked about
abbrev pub name_of : AskedTable → List ℕ
name_of asked = table_name asked.rules.schema asked.table

abbrev pub decl_row : TableauRow (List ℕ) → CfdRow
decl_row row = record { x = row.x; y = row.a ∷ [] }

-- the declaration of a dependency: without a name, with names in place of numbers
abbrev pub decl_of : Schema → Dep → CfdDecl
decl_of schema dep =
    let attrs = attrs_at schema dep.table in
    record {
      name = [];
      table = table_name schema dep.table;
      x = map (attr_name attrs) dep.rule.x;
      y = attr_name attrs dep.rule.a ∷ [];
      rows = map decl_row dep.rule.rows;
    }

-- ---- certificates of answers

-- a tree, with the budget where it was spent
pub record IsTreeCert (names : Names) (question : Question) (budget : Option ℕ) (tree : List Node) (cert : CertParts) : Type 0 where
  pub named : List NodeName
  pub nodes : AreNamed names tree named
  pub whole : cert ≡ case_cert question budget named

-- the canonical certificate of an answer about a table of that name
abbrev pub IsNamedCert : Names → List ℕ → Consistency → CertParts → Type 0
IsNamedCert names name (found.Witness tuple) cert = cert ≡ witness_cert name tuple
IsNamedCert names name (found.Never tree) cert = IsTreeCert names (Consistent name) None tree cert
IsNamedCert names name (found.Spent tree) cert = IsTreeCert names (Consistent name) (Some (leaf_count tree)) tree cert

-- and about a dependency that is declared so
abbrev pub IsDeclaredCert : Names → CfdDecl → Implication → CertParts → Type 0
IsDeclaredCert names decl (told.Counter one other) cert = cert ≡ counter_cert decl one other
IsDeclaredCert names decl (told.Implied tree) cert = IsTreeCert names (Implies decl) None tree cert
IsDeclaredCert names decl (told.Spent tree) cert = IsTreeCert names (Implies decl) (Some (leaf_count tree)) tree cert

-- of what was answered to a question: about the table by its name, and about the dependency by its declaration
abbrev pub IsCertOf : AskedTable → Consistency → CertParts → Type 0
IsCertOf asked answer cert = IsNamedCert (names_asked asked) (name_of asked) answer cert

abbrev pub IsCertOfDep : AskedDep → Implication → CertParts → Type 0
IsCertOfDep asked answer cert = IsDeclaredCert (names_asked_of asked) (decl_of asked.schema asked.dep) answer cert

-- the text of some certificate
pub record IsSomeText (IsOne : CertParts → Type 0) (text : List ℕ) : Type 0 where
  pub cert : CertParts
  pub is : IsOne cert
  pub spelled : IsCertText cert text

-- and of one that is right
abbrev pub IsRightText : Book → (CertParts → Type 0) → List ℕ → Type 0
IsRightText rules IsOne text = IsSomeText (λ cert. IsOne cert × IsRightCert rules cert) text

-- ---- right answers

-- the answer of a decider within some budget
pub record IsFound (asked : AskedTable) (given : Consistency) : Type 0 where
  pub budget : ℕ
  pub some : 1 ≤ budget
  pub within : budget ≤ 1000000
  pub answer : consistency.IsConsistencyAnswer asked.rules budget asked.table given

pub record IsFoundOfDep (asked : AskedDep) (given : Implication) : Type 0 where
  pub budget : ℕ
  pub some : 1 ≤ budget
  pub within : budget ≤ 1000000
  pub answer : implication.IsImplicationAnswer asked.schema asked.deps asked.dep budget given
