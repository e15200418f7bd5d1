-- Nodes of one tree: with other names and numbers they are one tree too.
use Rattle.std.proofs.Common.{◌≡◌, ℕ, zero, suc, true, false, List, [], ◌∷◌, ◌++◌, refl, ap, ◌∙◌, subst}
use Rattle.std.specs.Prelude.{map, slice_get, Option, Some, None}
use Rattle.std.specs.Option.{option_map}
use Rattle.std.proofs.lemmas.List.{append-nil, map-append}
use Rattle.case_tree.specs.CaseTree.{CaseTree, split, leaf, unclosed, Place, preorder, places, places_under, IsOneTree}
use Rattle.case_tree.specs.declared.clauses.Literal.{Literal}
use Rattle.case_tree.specs.declared.tree.Node.{Node}
use Rattle.case_tree.specs.declared.tree.Node.TheVariants as nodes
use Rattle.case_tree.proofs.Preorder.{AreTrees, AreTrees-from_tree, tree_of}
use Rattle.cert_text.specs.declared.cert.NodeLine.{NodeLine}
use Rattle.cert_text.specs.declared.names.NodeName.{NodeName}
use Rattle.cert_text.specs.declared.names.NodeName.TheVariants.{Split, Leaf, Open}
use Rattle.cert_text.specs.declared.answers.Kind.{Kind}
use Rattle.cert_text.specs.declared.cert.TreeLines.{TreeLines}
use Rattle.cert_text.specs.Written.{IsTreeOf, shape_of, shapes}
use Rattle.cert_text.specs.declared.names.ReasonName.{ReasonName}
use Rattle.cert_text.specs.declared.names.VarName.{VarName}
use Rattle.cert_check.specs.Made.{AreNamed, named_reason}
use Rattle.cert_check.specs.Names.{Names}
use Rattle.cert_check.specs.Nodes.{node_of}
use Rattle.cert_check.specs.Shown.{nodes_of}

-- the kinds of nodes alone say whether they are trees
kind_as : (names : Names) (n : ℕ) (lines : List NodeLine) (node : NodeName) → ((m : ℕ) → AreTrees m (shapes lines) → AreTrees m (nodes_of names lines)) → AreTrees (suc n) (shape_of node ∷ shapes lines) → AreTrees (suc n) (node_of names node ∷ nodes_of names lines)
kind_as names n lines (Split v) rest are = rest (suc (suc n)) are
kind_as names n lines (Leaf reason) rest are = rest n are
kind_as names n lines Open rest are = rest n are

trees_as : (names : Names) (n : ℕ) (lines : List NodeLine) → AreTrees n (shapes lines) → AreTrees n (nodes_of names lines)
trees_as names zero [] are = are
trees_as names zero (line ∷ lines) are = absurd are
trees_as names (suc n) [] are = absurd are
trees_as names (suc n) (line ∷ lines) are = kind_as names n lines line.node (λ m. trees_as names m lines) are

pub one_tree : (names : Names) (lines : List NodeLine) → IsOneTree (shapes lines) → IsOneTree (nodes_of names lines)
one_tree names lines one = tree_of (nodes_of names lines) (trees_as names 1 lines (AreTrees-from_tree (shapes lines) one))

-- ---- places

abbrev pub place_node : Place → Node
place_node place = place.node

places_nodes : (path : List Literal) (tree : CaseTree) → map place_node (places_under path tree) ≡ preorder tree
places_nodes path (split v if_true if_false) =
    let yes : List Literal = record { var = v; positive = true } ∷ path in
    let no : List Literal = record { var = v; positive = false } ∷ path in
    ap (λ (rest : List Node). nodes.Split v ∷ rest)
    (map-append place_node (places_under yes if_true) (places_under no if_false)
    ∙ ap (λ (front : List Node). front ++ map place_node (places_under no if_false)) (places_nodes yes if_true)
    ∙ ap (λ (behind : List Node). preorder if_true ++ behind) (places_nodes no if_false))
places_nodes path (leaf reason) = refl
places_nodes path unclosed = refl

pub nodes_at_places : (tree : CaseTree) → map place_node (places tree) ≡ preorder tree
nodes_at_places tree = places_nodes [] tree

-- the lines of a tree none of which is missing
pub whole_tree : (kind : Kind) (lines : TreeLines) → IsTreeOf kind lines 0 → IsOneTree (shapes lines.nodes)
whole_tree kind lines is = subst IsOneTree (append-nil (shapes lines.nodes)) (is.trees [] refl)

-- ---- nodes by their names

split_kind : (name : NodeName) (found : Option VarName) → option_map (λ var. Split var) found ≡ Some name → (var : VarName) × (Split var ≡ name)
split_kind name None is = absurd cc
split_kind name (Some var) is = (var, cc)

leaf_kind : (name : NodeName) (found : Option ReasonName) → option_map (λ reason. Leaf reason) found ≡ Some name → (reason : ReasonName) × (Leaf reason ≡ name)
leaf_kind name None is = absurd cc
leaf_kind name (Some reason) is = (reason, cc)

named_trees : (names : Names) (n : ℕ) (tree : List Node) (named : List NodeName) → AreNamed names tree named → AreTrees n tree → AreTrees n (map shape_of named)
named_trees names zero [] [] named are = are
named_trees names zero [] (name ∷ rest) named are = absurd named
named_trees names zero (node ∷ tree) rest named are = absurd are
named_trees names (suc n) [] rest named are = absurd are
named_trees names (suc n) (node ∷ tree) [] named are = absurd named
named_trees names (suc n) (nodes.Split v ∷ tree) (name ∷ rest) named are =
    let its = split_kind name (slice_get names.vars v) named.0 in
    subst (λ (it : NodeName). AreTrees (suc n) (shape_of it ∷ map shape_of rest)) its.1 (named_trees names (suc (suc n)) tree rest named.1 are)
named_trees names (suc n) (nodes.Leaf reason ∷ tree) (name ∷ rest) named are =
    let its = leaf_kind name (named_reason names reason) named.0 in
    subst (λ (it : NodeName). AreTrees (suc n) (shape_of it ∷ map shape_of rest)) its.1 (named_trees names n tree rest named.1 are)
named_trees names (suc n) (nodes.Unclosed ∷ tree) (name ∷ rest) named are =
    let its : Open ≡ name = cc in
    subst (λ (it : NodeName). AreTrees (suc n) (shape_of it ∷ map shape_of rest)) its (named_trees names n tree rest named.1 are)

pub named_tree : (names : Names) (tree : List Node) (named : List NodeName) → AreNamed names tree named → IsOneTree tree → IsOneTree (map shape_of named)
named_tree names tree named are one = tree_of (map shape_of named) (named_trees names 1 tree named are (AreTrees-from_tree tree one))
