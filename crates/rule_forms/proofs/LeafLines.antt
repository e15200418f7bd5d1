-- A certificate has as many lines that are leaves as its tree has leaves.
use Rattle.std.proofs.Common.{◌≡◌, ℕ, ◌+◌, ◌≤◌, Bool, true, false, cond, List, [], ◌∷◌, Option, None, Some, refl, sym, ap, ◌∙◌, arith}
use Rattle.std.specs.Prelude.{slice_get}
use Rattle.std.specs.List.{count_by}
use Rattle.std.specs.Option.{option_map}
use Rattle.std.proofs.lemmas.List.Sums.{sum_by-cons}
use Rattle.case_tree.specs.CaseTree as cases
use Rattle.case_tree.specs.CaseTree.{leaf_count}
use Rattle.case_tree.specs.declared.tree.Node.{Node}
use Rattle.case_tree.specs.declared.tree.Node.TheVariants as nodes
use Rattle.cert_text.specs.Canonical.{node_lines}
use Rattle.cert_text.specs.declared.cert.CertParts.{CertParts}
use Rattle.cert_text.specs.declared.cert.NodeLine.{NodeLine}
use Rattle.cert_text.specs.declared.cert.Question.{Question}
use Rattle.cert_text.specs.declared.names.NodeName.{NodeName}
use Rattle.cert_text.specs.declared.names.NodeName.TheVariants.{Split, Leaf, Open}
use Rattle.cert_text.specs.declared.names.ReasonName.{ReasonName}
use Rattle.cert_text.specs.declared.names.VarName.{VarName}
use Rattle.cert_check.specs.Made.{AreNamed, IsTreeCert, named_node, named_reason}
use Rattle.cert_check.specs.Names.{Names}
use Rattle.rule_forms.specs.Certificates.{is_leaf, leaf_lines}

-- ---- a node and its name

split_named : (found : Option VarName) (name : NodeName) → option_map (λ var. Split var) found ≡ Some name → is_leaf name ≡ false
split_named None name is = absurd cc
split_named (Some var) name is = let name-is : Split var ≡ name = cc in ap is_leaf (sym name-is)

leaf_named : (found : Option ReasonName) (name : NodeName) → option_map (λ named. Leaf named) found ≡ Some name → is_leaf name ≡ true
leaf_named None name is = absurd cc
leaf_named (Some named) name is = let name-is : Leaf named ≡ name = cc in ap is_leaf (sym name-is)

both_leaves : (names : Names) (node : Node) (name : NodeName) → named_node names node ≡ Some name → is_leaf name ≡ cases.is_leaf node
both_leaves names (nodes.Split v) name is = split_named (slice_get names.vars v) name is
both_leaves names (nodes.Leaf reason) name is = leaf_named (named_reason names reason) name is
both_leaves names nodes.Unclosed name is = let name-is : Open ≡ name = cc in ap is_leaf (sym name-is)

-- ---- a tree and its lines

abbrev of_line : NodeLine → ℕ
of_line line = cond (is_leaf line.node) 1 0

abbrev of_node : Node → ℕ
of_node node = cond (cases.is_leaf node) 1 0

same_leaves : (names : Names) (tree : List Node) (named : List NodeName) (number : ℕ) → AreNamed names tree named → count_by (λ (line : NodeLine). is_leaf line.node) (node_lines number named) ≡ leaf_count tree
same_leaves names [] [] number are = refl
same_leaves names [] (name ∷ rest) number are = absurd are
same_leaves names (node ∷ tree) [] number are = absurd are
same_leaves names (node ∷ tree) (name ∷ rest) number are =
    sum_by-cons of_line (record { line = number; node = name }) (node_lines (number + 1) rest)
    ∙ ap (λ (yes : Bool). cond yes 1 0 + count_by (λ (line : NodeLine). is_leaf line.node) (node_lines (number + 1) rest)) (both_leaves names node name are.0)
    ∙ ap (λ (n : ℕ). of_node node + n) (same_leaves names tree rest (number + 1) are.1)
    ∙ sym (sum_by-cons of_node node tree)

-- ---- certificates

leaves_of_tree : (names : Names) (question : Question) (spent : Option ℕ) (tree : List Node) (cert : CertParts) → IsTreeCert names question spent tree cert → leaf_lines cert.answer ≡ leaf_count tree
leaves_of_tree names question spent tree cert is = ap (λ (c : CertParts). leaf_lines c.answer) is.whole ∙ same_leaves names tree is.named 3 is.nodes

at_most : (leaves count budget : ℕ) → leaves ≡ count → count ≤ budget → leaves ≤ budget
at_most leaves count budget same most = omega (arith, same, most)

-- a certificate without a tree, one of a tree within the budget, and one of a tree that is as large
pub none_within : (cert : CertParts) (budget : ℕ) → leaf_lines cert.answer ≡ 0 → leaf_lines cert.answer ≤ budget
none_within cert budget none = at_most (leaf_lines cert.answer) 0 budget none (omega arith)

pub tree_within : (names : Names) (question : Question) (spent : Option ℕ) (tree : List Node) (cert : CertParts) (budget : ℕ) → IsTreeCert names question spent tree cert → leaf_count tree ≤ budget → leaf_lines cert.answer ≤ budget
tree_within names question spent tree cert budget is most = at_most (leaf_lines cert.answer) (leaf_count tree) budget (leaves_of_tree names question spent tree cert is) most

pub all_within : (names : Names) (question : Question) (spent : Option ℕ) (tree : List Node) (cert : CertParts) (budget : ℕ) → IsTreeCert names question spent tree cert → leaf_count tree ≡ budget → leaf_lines cert.answer ≤ budget
all_within names question spent tree cert budget is same = tree_within names question spent tree cert budget is (omega (arith, same))
