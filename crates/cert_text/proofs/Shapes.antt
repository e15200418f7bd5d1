-- How a tree grows by one node.
use Rattle.std.proofs.Common.{◌≡◌, ℕ, ◌≤◌, List, [], ◌∷◌, ◌++◌, sym, ap, ◌∙◌, subst, append_assoc, arith}
use Rattle.std.specs.List.{flat_map}
use Rattle.std.proofs.lemmas.List.{append-nil, map-append}
use Rattle.case_tree.specs.CaseTree.{split, leaf, unclosed, preorder, IsOneTree}
use Rattle.case_tree.specs.declared.tree.Node.{Node}
use Rattle.case_tree.specs.declared.tree.Node.TheVariants as shape
use Rattle.case_tree.specs.declared.tree.Reason.TheVariants as reasons
use Rattle.cert_text.specs.declared.cert.NodeLine.{NodeLine}
use Rattle.cert_text.specs.declared.names.NodeName.{NodeName}
use Rattle.cert_text.specs.declared.names.NodeName.TheVariants.{Split, Leaf, Open}
use Rattle.cert_text.specs.CertFiles.{missing_behind}
use Rattle.cert_text.specs.Written.{shape_of, shapes, Misses}

pub misses_start : Misses 1 []
misses_start [] one = absurd (omega arith)
misses_start (tree ∷ []) one = (tree, sym (append-nil (preorder tree)))
misses_start (tree ∷ other ∷ trees) one = absurd (omega arith)

-- the nodes with one more, before others
shapes_more : (nodes : List NodeLine) (number : ℕ) (node : NodeName) (rest : List Node) → shapes nodes ++ (shape_of node ∷ rest) ≡ shapes (nodes ++ record { line = number; node = node } ∷ []) ++ rest
shapes_more nodes number node rest =
    let last : List NodeLine = record { line = number; node = node } ∷ [] in
    sym (ap (λ s. s ++ rest) (map-append (λ (n : NodeLine). shape_of n.node) nodes last) ∙ append_assoc (shapes nodes) (shape_of node ∷ []) rest)

pub misses_more : (missing : ℕ) (nodes : List NodeLine) (number : ℕ) (node : NodeName) → 1 ≤ missing → Misses missing nodes → Misses (missing_behind node missing) (nodes ++ record { line = number; node = node } ∷ [])
misses_more missing nodes number (Split v) some old [] count = absurd (omega arith)
misses_more missing nodes number (Split v) some old (one ∷ []) count = absurd (omega arith)
misses_more missing nodes number (Split v) some old (one ∷ other ∷ trees) count =
    let whole = old (split 0 one other ∷ trees) (omega arith) in
    subst IsOneTree (ap (λ s. shapes nodes ++ shape.Split 0 ∷ s) (append_assoc (preorder one) (preorder other) (flat_map preorder trees)) ∙ shapes_more nodes number (Split v) (preorder one ++ (preorder other ++ flat_map preorder trees))) whole
misses_more missing nodes number (Leaf reason) some old trees count =
    let whole = old (leaf (reasons.Clause 0) ∷ trees) (omega arith) in
    subst IsOneTree (shapes_more nodes number (Leaf reason) (flat_map preorder trees)) whole
misses_more missing nodes number Open some old trees count =
    let whole = old (unclosed ∷ trees) (omega arith) in
    subst IsOneTree (shapes_more nodes number Open (flat_map preorder trees)) whole
