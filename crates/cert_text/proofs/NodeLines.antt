-- Nodes with their lines, and trees whose names are left away.
use Rattle.std.proofs.Common.{◌≡◌, ℕ, ◌+◌, List, [], ◌∷◌, refl, ap, sym, subst, arith}
use Rattle.std.specs.Prelude.{map, All}
use Rattle.std.specs.List.{AllByRecursion}
use Rattle.std.proofs.lemmas.List.{append-nil}
use Rattle.std.proofs.lemmas.List.Elements.{recursion_from_All, All-from_recursion}
use Rattle.case_tree.specs.CaseTree.{IsOneTree}
use Rattle.cert_text.specs.declared.cert.NodeLine.{NodeLine}
use Rattle.cert_text.specs.declared.answers.Kind.{Kind}
use Rattle.cert_text.specs.declared.names.NodeName.{NodeName}
use Rattle.cert_text.specs.Canonical.{node_lines}
use Rattle.cert_text.specs.Written.{IsNodeOf, shape_of, shapes, Misses}

pub shapes-node_lines : (number : ℕ) (nodes : List NodeName) → shapes (node_lines number nodes) ≡ map shape_of nodes
shapes-node_lines number [] = refl
shapes-node_lines number (node ∷ nodes) = ap (λ s. shape_of node ∷ s) (shapes-node_lines (number + 1) nodes)

by_lines : (kind : Kind) (number : ℕ) (nodes : List NodeName) → AllByRecursion (IsNodeOf kind) nodes → AllByRecursion (λ (node : NodeLine). IsNodeOf kind node.node) (node_lines number nodes)
by_lines kind number [] are = tt
by_lines kind number (node ∷ nodes) are = (are.0, by_lines kind (number + 1) nodes are.1)

pub All-node_lines : (kind : Kind) (number : ℕ) (nodes : List NodeName) → All (IsNodeOf kind) nodes → All (λ (node : NodeLine). IsNodeOf kind node.node) (node_lines number nodes)
All-node_lines kind number nodes are =
    All-from_recursion (λ (node : NodeLine). IsNodeOf kind node.node) (node_lines number nodes) (by_lines kind number nodes (recursion_from_All (IsNodeOf kind) nodes are))

-- a whole tree misses no subtree
pub misses_none : (nodes : List NodeLine) → IsOneTree (shapes nodes) → Misses 0 nodes
misses_none nodes tree [] none = subst IsOneTree (sym (append-nil (shapes nodes))) tree
misses_none nodes tree (other ∷ trees) none = absurd (omega arith)

pub whole_if_none_missing : (nodes : List NodeLine) → Misses 0 nodes → IsOneTree (shapes nodes)
whole_if_none_missing nodes misses = subst IsOneTree (append-nil (shapes nodes)) (misses [] refl)

pub names-node_lines : (number : ℕ) (nodes : List NodeName) → map (λ (node : NodeLine). node.node) (node_lines number nodes) ≡ nodes
names-node_lines number [] = refl
names-node_lines number (node ∷ nodes) = ap (λ ns. node ∷ ns) (names-node_lines (number + 1) nodes)
