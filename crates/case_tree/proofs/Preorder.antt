-- Lists of nodes that are trees in preorder.
use Rattle.std.proofs.Common.{◌≡◌, ℕ, zero, suc, ◌+◌, List, [], ◌∷◌, ◌++◌, length, refl, sym, ap, ◌∙◌, arith, append_assoc, subst, ◌↔◌, ◌-◌, ◌<◌, get_or, drop, add-one, sub-one}
use Rattle.std.proofs.lemmas.List.{append-nil, drop_more}
use Rattle.case_tree.specs.declared.tree.Node.{Node}
use Rattle.case_tree.specs.declared.tree.Node.TheVariants.{Split, Leaf, Unclosed}
use Rattle.case_tree.specs.CaseTree.{CaseTree, split, leaf, unclosed, preorder, IsOneTree}

-- the nodes are n trees, one after another, read node by node: a split asks for one tree more
abbrev pub AreTrees : ℕ → List Node → Type 0
AreTrees zero [] = Unit {0}
AreTrees zero (node ∷ nodes) = ⊥
AreTrees (suc n) [] = ⊥
AreTrees (suc n) (Split v ∷ nodes) = AreTrees (suc (suc n)) nodes
AreTrees (suc n) (Leaf reason ∷ nodes) = AreTrees n nodes
AreTrees (suc n) (Unclosed ∷ nodes) = AreTrees n nodes

-- the nodes of a list of trees
abbrev pub preorder_all : List CaseTree → List Node
preorder_all [] = []
preorder_all (tree ∷ trees) = preorder tree ++ preorder_all trees

-- a tree before n trees makes one more
pub AreTrees-preorder : (tree : CaseTree) (n : ℕ) (nodes : List Node) → AreTrees n nodes → AreTrees (suc n) (preorder tree ++ nodes)
AreTrees-preorder (split v if_true if_false) n nodes rest =
    rw append_assoc (AreTrees-preorder if_true (suc n) (preorder if_false ++ nodes) (AreTrees-preorder if_false n nodes rest))
AreTrees-preorder (leaf reason) n nodes rest = rest
AreTrees-preorder unclosed n nodes rest = rest

-- n trees, as a list
pub record Forest (n : ℕ) (nodes : List Node) : Type 0 where
  pub trees : List CaseTree
  pub count : length trees ≡ n
  pub listed : preorder_all trees ≡ nodes

-- the first two trees of a forest joined under a split
join : (v n : ℕ) (nodes : List Node) → Forest (suc (suc n)) nodes → Forest (suc n) (Split v ∷ nodes)
join v n nodes forest = joined forest.trees forest.count forest.listed where
  joined : (trees : List CaseTree) → length trees ≡ suc (suc n) → preorder_all trees ≡ nodes → Forest (suc n) (Split v ∷ nodes)
  joined [] count listed = absurd (omega arith)
  joined (one ∷ []) count listed = absurd (omega arith)
  joined (one ∷ two ∷ trees) count listed = record {
    trees = split v one two ∷ trees;
    count = omega arith;
    listed = ap (λ l. Split v ∷ l) (append_assoc (preorder one) (preorder two) (preorder_all trees) ∙ listed);
  }

-- what is read as n trees are n trees
pub forest_of : (n : ℕ) (nodes : List Node) → AreTrees n nodes → Forest n nodes
forest_of zero [] read = record { trees = []; count = refl; listed = refl }
forest_of zero (node ∷ nodes) read = absurd read
forest_of (suc n) [] read = absurd read
forest_of (suc n) (Split v ∷ nodes) read = join v n nodes (forest_of (suc (suc n)) nodes read)
forest_of (suc n) (Leaf reason ∷ nodes) read =
    let rest = forest_of n nodes read in
    record { trees = leaf reason ∷ rest.trees; count = ap suc rest.count; listed = ap (λ l. Leaf reason ∷ l) rest.listed }
forest_of (suc n) (Unclosed ∷ nodes) read =
    let rest = forest_of n nodes read in
    record { trees = unclosed ∷ rest.trees; count = ap suc rest.count; listed = ap (λ l. Unclosed ∷ l) rest.listed }

-- one tree is what is read as one tree
pub tree_of : (nodes : List Node) → AreTrees 1 nodes → IsOneTree nodes
tree_of nodes read = only (forest_of 1 nodes read).trees (forest_of 1 nodes read).count (forest_of 1 nodes read).listed where
  only : (trees : List CaseTree) → length trees ≡ 1 → preorder_all trees ≡ nodes → IsOneTree nodes
  only [] count listed = absurd (omega arith)
  only (tree ∷ []) count listed = (tree, sym (append-nil (preorder tree)) ∙ listed)
  only (tree ∷ next ∷ trees) count listed = absurd (omega arith)

pub AreTrees-from_tree : (nodes : List Node) → IsOneTree nodes → AreTrees 1 nodes
AreTrees-from_tree nodes (tree, listed) =
    subst (AreTrees 1) (append-nil (preorder tree) ∙ listed) (AreTrees-preorder tree 0 [] tt)

-- the trees of two lists of nodes are equal where the lists begin with them and are equal
pub same_trees : (tree other : CaseTree) (xs ys : List Node) → preorder tree ++ xs ≡ preorder other ++ ys → (tree ≡ other) × (xs ≡ ys)
same_trees (split v a b) (split w c d) xs ys e =
    let same_v : v ≡ w = cc in
    let rest : (preorder a ++ preorder b) ++ xs ≡ (preorder c ++ preorder d) ++ ys = cc in
    let first = same_trees a c (preorder b ++ xs) (preorder d ++ ys) (sym (append_assoc (preorder a) (preorder b) xs) ∙ rest ∙ append_assoc (preorder c) (preorder d) ys) in
    let second = same_trees b d xs ys first.1 in
    let first_same = first.0 in
    let second_same = second.0 in
    (cc, second.1)
same_trees (split v a b) (leaf r) xs ys e = cc
same_trees (split v a b) unclosed xs ys e = cc
same_trees (leaf r) (split w c d) xs ys e = cc
same_trees (leaf r) (leaf q) xs ys e = (cc, cc)
same_trees (leaf r) unclosed xs ys e = cc
same_trees unclosed (split w c d) xs ys e = cc
same_trees unclosed (leaf q) xs ys e = cc
same_trees unclosed unclosed xs ys e = (refl, cc)

-- a list of nodes is at most one tree
pub same_tree : (tree other : CaseTree) (nodes : List Node) → preorder tree ≡ nodes → preorder other ≡ nodes → tree ≡ other
same_tree tree other nodes first second =
    (same_trees tree other [] [] (append-nil (preorder tree) ∙ first ∙ sym second ∙ sym (append-nil (preorder other)))).0

-- how many trees are asked for after a node, of n before it
abbrev pub asked_after : Node → ℕ → ℕ
asked_after (Split v) n = n + 1
asked_after (Leaf reason) n = n - 1
asked_after Unclosed n = n - 1

AreTrees-cons : (node : Node) (nodes : List Node) (n : ℕ) → 0 < n → AreTrees n (node ∷ nodes) ≡ AreTrees (asked_after node n) nodes
AreTrees-cons node nodes zero asked = absurd (omega arith)
AreTrees-cons (Split v) nodes (suc n) asked = rw add-one refl
AreTrees-cons (Leaf reason) nodes (suc n) asked = rw sub-one refl
AreTrees-cons Unclosed nodes (suc n) asked = rw sub-one refl

-- reading the node at place i
pub AreTrees-more : (n m i : ℕ) (d node : Node) (nodes : List Node) → i < length nodes → get_or nodes i d ≡ node → 0 < n → m ≡ asked_after node n → AreTrees n (drop i nodes) ↔ AreTrees m (drop (i + 1) nodes)
AreTrees-more n m i d node nodes in_range is asked after =
    let step : AreTrees n (drop i nodes) ≡ AreTrees m (drop (i + 1) nodes) =
    ap (AreTrees n) (drop_more nodes i d in_range ∙ ap (λ x. x ∷ drop (i + 1) nodes) is)
    ∙ AreTrees-cons node (drop (i + 1) nodes) n asked ∙ ap (λ k. AreTrees k (drop (i + 1) nodes)) (sym after)
    in
    let along : Type 0 → Type 0 = λ T. T in
    (subst along step, subst along (sym step))

-- no node is left where no tree is asked for
pub AreTrees-past : (i : ℕ) (nodes : List Node) → i < length nodes → AreTrees 0 (drop i nodes) → ⊥
AreTrees-past i [] in_range read = omega arith
AreTrees-past zero (node ∷ nodes) in_range read = read
AreTrees-past (suc i) (node ∷ nodes) in_range read = AreTrees-past i nodes (omega arith) read

-- and none is asked for where no node is left
pub AreTrees-nil : (n : ℕ) → AreTrees n [] → n ≡ 0
AreTrees-nil zero read = refl
AreTrees-nil (suc n) read = absurd read
