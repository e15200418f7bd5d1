-- The places of a tree as a walk over its nodes meets them: with the paths of the subtrees that are still to come.
use Rattle.std.proofs.Common.{◌≡◌, ℕ, true, false, List, [], ◌∷◌, ◌++◌, length, refl, sym, ap, ◌∙◌, inl, inr, ⊎_elim, ◌⊎◌, arith, append_assoc, length-append}
use Rattle.std.specs.Prelude.{if◌then◌else◌}
use Rattle.std.proofs.lemmas.List.{append-nil}
use Rattle.std.proofs.lemmas.Bool.{cases_Bool}
use Rattle.case_tree.specs.declared.clauses.Literal.{Literal}
use Rattle.case_tree.specs.declared.tree.Node.{Node}
use Rattle.case_tree.specs.declared.tree.Node.TheVariants.{Split, Leaf, Unclosed}
use Rattle.case_tree.specs.CaseTree.{CaseTree, split, leaf, unclosed, preorder, Place, places_under, places}
use Rattle.case_tree.specs.Walk.{next_path}

-- the literal that a split makes true in its true subtree, and in its false one
abbrev pub yes : ℕ → Literal
yes v = record { var = v; positive = true }

abbrev pub no : ℕ → Literal
no v = record { var = v; positive = false }

-- the paths of the subtrees to come after a node, where `path` leads to the node and `paths` to those after its subtree
abbrev pub paths_after : List Literal → Node → List (List Literal) → List (List Literal)
paths_after path (Split v) paths = (yes v ∷ path) ∷ (no v ∷ path) ∷ paths
paths_after path (Leaf reason) paths = paths
paths_after path Unclosed paths = paths

-- the places of nodes that are trees, one after another, where `paths` lead to their roots
abbrev pub places_from : List Node → List (List Literal) → List Place
places_from [] paths = []
places_from (node ∷ nodes) [] = []
places_from (node ∷ nodes) (path ∷ paths) =
    record { path = path; node = node } ∷ places_from nodes (paths_after path node paths)

-- the first tree's places come first
places_from-append : (tree : CaseTree) (path : List Literal) (paths : List (List Literal)) (nodes : List Node) → places_from (preorder tree ++ nodes) (path ∷ paths) ≡ places_under path tree ++ places_from nodes paths
places_from-append (split v if_true if_false) path paths nodes =
    let agenda : List (List Literal) = (yes v ∷ path) ∷ (no v ∷ path) ∷ paths in
    ap (λ (places : List Place). record { path = path; node = Split v } ∷ places)
    (ap (λ (xs : List Node). places_from xs agenda) (append_assoc (preorder if_true) (preorder if_false) nodes)
    ∙ places_from-append if_true (yes v ∷ path) ((no v ∷ path) ∷ paths) (preorder if_false ++ nodes)
    ∙ ap (λ (places : List Place). places_under (yes v ∷ path) if_true ++ places) (places_from-append if_false (no v ∷ path) paths nodes)
    ∙ sym (append_assoc (places_under (yes v ∷ path) if_true) (places_under (no v ∷ path) if_false) (places_from nodes paths)))
places_from-append (leaf reason) path paths nodes = refl
places_from-append unclosed path paths nodes = refl

-- the places of one tree
pub places_from-preorder : (tree : CaseTree) (nodes : List Node) → preorder tree ≡ nodes → places_from nodes ([] ∷ []) ≡ places tree
places_from-preorder tree nodes listed =
    rw (sym listed) (ap (λ (xs : List Node). places_from xs ([] ∷ [])) (sym (append-nil (preorder tree))) ∙ places_from-append tree [] [] [] ∙ append-nil (places tree))

-- a tree has as many places as nodes
length-places_under : (tree : CaseTree) (path : List Literal) → length (places_under path tree) ≡ length (preorder tree)
length-places_under (split v if_true if_false) path =
    let trues = length-places_under if_true (yes v ∷ path) in
    let falses = length-places_under if_false (no v ∷ path) in
    omega (arith, length-append (places_under (yes v ∷ path) if_true) (places_under (no v ∷ path) if_false), length-append (preorder if_true) (preorder if_false))
length-places_under (leaf reason) path = refl
length-places_under unclosed path = refl

pub length-places : (tree : CaseTree) → length (places tree) ≡ length (preorder tree)
length-places tree = length-places_under tree []

-- the paths of the subtrees that come after the one that `path` leads to: the false subtree of each split whose true
-- one is on the path, the nearest first
abbrev pub waiting : List Literal → List (List Literal)
waiting [] = []
waiting (last ∷ above) = if last.positive then (no last.var ∷ above) ∷ waiting above else waiting above

-- the walk goes on to the first that waits, or is at its end
pub waiting_next : (path : List Literal) → ((waiting path ≡ []) × (next_path path ≡ [])) ⊎ (waiting path ≡ next_path path ∷ waiting (next_path path))
waiting_next [] = inl (refl, refl)
waiting_next (last ∷ above) =
    ⊎_elim
    (λ on_true. rw on_true (inr refl))
    (λ on_false. rw on_false (waiting_next above))
    (cases_Bool last.positive)
