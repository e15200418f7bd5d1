-- When a certificate is right: what its tuples or its tree show. It is exactly where it holds, line by line.
use Rattle.std.specs.Prelude.{◌≡◌, ℕ, ◌≤◌, List, [], ◌∷◌, length, map, Option, Some, None, IsSomeAnd, Result, Ok, Err}
use Rattle.std.specs.List.{AllZip}
use Rattle.schema_core.specs.Lookups.{attrs_at}
use Rattle.schema_core.specs.Schemas.{Admits, table_place}
use Rattle.schema_core.specs.declared.schema.Attr.{Attr}
use Rattle.schema_core.specs.declared.schema.Schema.{Schema}
use Rattle.case_tree.specs.CaseTree.{ClauseSet, IsPartial, Refutes, leaf_count}
use Rattle.case_tree.specs.declared.tree.Node.{Node}
use Rattle.rule_model.specs.Books.{Book, book_deps}
use Rattle.rule_model.specs.Judged.{judged_dep}
use Rattle.rule_model.specs.Satisfied.{SatisfyDep}
use Rattle.rule_model.specs.declared.dep.Dep.{Dep}
use Rattle.rule_model.specs.declared.fault.RuleFault.{RuleFault}
use Rattle.cell_values.specs.Tuples.{answer_bytes}
use Rattle.cfd_consistency.specs.Question as consistency
use Rattle.cfd_implication.specs.Implied.{SatisfyTable}
use Rattle.cfd_implication.specs.Question as implication
use Rattle.cert_text.specs.declared.answers.Kind.TheVariants.{Consistency, Implication}
use Rattle.cert_text.specs.declared.cert.Question.{Question}
use Rattle.cert_text.specs.declared.cert.Question.TheVariants.{Consistent, Implies}
use Rattle.cert_text.specs.declared.cert.NodeLine.{NodeLine}
use Rattle.cert_text.specs.declared.cert.Answer.{Answer}
use Rattle.cert_text.specs.declared.cert.Answer.TheVariants.{Witness, Counter, Tree}
use Rattle.cert_text.specs.declared.cert.CertParts.{CertParts}
use Rattle.cert_check.specs.Names.{Names, names_of}
use Rattle.cert_check.specs.Nodes.{node_of}

-- ---- tuples

-- a text of the domain, which isn't long
pub record IsShortText (attr : Attr) (text : List ℕ) : Type 0 where
  pub admitted : Admits attr.domain text
  pub short : length text ≤ answer_bytes

-- such a text for each attribute
abbrev pub IsShortTuple : List Attr → List (List ℕ) → Type 0
IsShortTuple attrs tuple = AllZip IsShortText attrs tuple

-- two tuples satisfy the dependencies of a table and not the asked one
pub record Refute (rules : Book) (dep : Dep) (tuples : List (List (List ℕ))) : Type 0 where
  pub satisfy : SatisfyTable dep.table (book_deps rules) tuples
  pub break : ¬ SatisfyDep dep tuples

-- ---- trees

-- the clauses of a question, and its names
pub record Asks : Type 0 where
  pub set : ClauseSet
  pub names : Names

abbrev pub asks_consistency : Book → ℕ → Asks
asks_consistency rules table = record {
  set = consistency.question rules table;
  names = names_of Consistency (attrs_at rules.schema table) (consistency.table_values rules table);
}

abbrev pub asks_from : Schema → List Dep → Dep → Asks
asks_from schema deps dep = record {
  set = implication.question schema deps dep;
  names = names_of Implication (attrs_at schema dep.table) (implication.asked_values schema deps dep);
}

abbrev pub asks_implication : Book → Dep → Asks
asks_implication rules dep = asks_from rules.schema (book_deps rules) dep

-- the nodes with numbers in place of names
abbrev pub nodes_of : Names → List NodeLine → List Node
nodes_of names nodes = map (λ (node : NodeLine). node_of names node.node) nodes

-- a tree refutes the clauses; where a budget was spent, it is right as far as it goes, with as many leaves as the budget
abbrev pub TreeShows : ClauseSet → Option ℕ → List Node → Type 0
TreeShows set None nodes = Refutes set nodes
TreeShows set (Some budget) nodes = IsPartial set nodes × (leaf_count nodes ≡ budget)

-- ---- certificates

-- the dependency that is asked about, where it has no fault
abbrev pub accepted : Result Dep RuleFault → Option Dep
accepted (Ok dep) = Some dep
accepted (Err fault) = None

-- of a table: a tuple alone satisfies its dependencies, or a tree shows that none does
abbrev pub TableShows : Book → Answer → ℕ → Type 0
TableShows rules (Witness one) table = IsShortTuple (attrs_at rules.schema table) one.values × SatisfyTable table (book_deps rules) (one.values ∷ [])
TableShows rules (Tree lines) table = let asks = asks_consistency rules table in TreeShows asks.set lines.budget (nodes_of asks.names lines.nodes)
TableShows rules (Counter one other) table = ⊥

-- of a dependency: two tuples satisfy those of its table and not it, or a tree shows that none do
abbrev pub DepShows : Book → Answer → Dep → Type 0
DepShows rules (Counter one other) dep =
    let attrs = attrs_at rules.schema dep.table in
    IsShortTuple attrs one.values × IsShortTuple attrs other.values × Refute rules dep (one.values ∷ other.values ∷ [])
DepShows rules (Tree lines) dep = let asks = asks_implication rules dep in TreeShows asks.set lines.budget (nodes_of asks.names lines.nodes)
DepShows rules (Witness one) dep = ⊥

abbrev pub AnswerShows : Book → Question → Answer → Type 0
AnswerShows rules (Consistent table) answer = IsSomeAnd (table_place rules.schema table) (TableShows rules answer)
AnswerShows rules (Implies decl) answer = IsSomeAnd (accepted (judged_dep rules.schema decl)) (DepShows rules answer)

-- the certificate is right
abbrev pub IsRightCert : Book → CertParts → Type 0
IsRightCert rules cert = AnswerShows rules cert.asked.question cert.answer
