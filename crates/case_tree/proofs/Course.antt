-- How far the checker's walk has come.
use Rattle.std.proofs.Common.{◌≡◌, ℕ, zero, suc, ◌+◌, ◌<◌, ◌≤◌, List, [], ◌∷◌, length, get_or, drop, take, Some, refl, sym, ap, ◌∙◌, subst, inl, inr, ⊎_elim, ◌⊎◌, arith}
use Rattle.std.specs.Prelude.{slice_get}
use Rattle.std.proofs.lemmas.List.{drop_more, drop-drop, drop_all}
use Rattle.std.specs.List.{All}
use Rattle.std.proofs.lemmas.List.Elements.{All-more}
use Rattle.std.proofs.lemmas.Option.{slice_get_within, get_or_from_slice_get}
use Rattle.std.proofs.lemmas.Bool.{cases_lt}
use Rattle.case_tree.specs.declared.clauses.Literal.{Literal}
use Rattle.case_tree.specs.declared.tree.Node.{Node}
use Rattle.case_tree.specs.declared.tree.Node.TheVariants.{Split, Leaf, Unclosed}
use Rattle.case_tree.specs.declared.tree.Reason.{Reason}
use Rattle.case_tree.specs.CaseTree.{ClauseSet, Place, IsRight, IsRightAt}
use Rattle.case_tree.specs.Walk.{next_path}
use Rattle.case_tree.proofs.Preorder.{AreTrees, AreTrees-past}
use Rattle.case_tree.proofs.Walk.{places_from, paths_after, waiting, waiting_next, yes}

-- the places of nodes that are one tree
abbrev pub all_places : List Node → List Place
all_places nodes = places_from nodes ([] ∷ [])

-- before node `at` the walk is at `path`: what is left are the subtree there and those that wait
pub record IsBefore (nodes : List Node) (at : ℕ) (path : List Literal) : Type 0 where
  pub trees : AreTrees (suc (length (waiting path))) (drop at nodes)
  pub left : drop at (all_places nodes) ≡ places_from (drop at nodes) (path ∷ waiting path)

-- the walk is before a node, or at its end with an empty path
abbrev pub IsOnCourse : List Node → ℕ → List Literal → Type 0
IsOnCourse nodes at path = ((length nodes ≤ at) × (path ≡ [])) ⊎ IsBefore nodes at path

-- where it begins
pub IsOnCourse-start : (nodes : List Node) → AreTrees 1 nodes → IsOnCourse nodes 0 []
IsOnCourse-start nodes one = inr (record { trees = one; left = refl })

-- where it ends
pub IsOnCourse-end : (nodes : List Node) (at : ℕ) (path : List Literal) → length nodes ≤ at → IsOnCourse nodes at path → path ≡ []
IsOnCourse-end nodes at path done (inl ended) = ended.1
IsOnCourse-end nodes at path done (inr before) =
    absurd (subst (AreTrees (suc (length (waiting path)))) (drop_all at nodes done) before.trees)

-- it is before a node while one is left
before : (nodes : List Node) (at : ℕ) (path : List Literal) → at < length nodes → IsOnCourse nodes at path → IsBefore nodes at path
before nodes at path in_range (inl ended) = absurd (omega (arith, ended.0))
before nodes at path in_range (inr here) = here

slice_get_left : {X : Type 0} (xs ys : List X) (x : X) (i : ℕ) → drop i xs ≡ x ∷ ys → slice_get xs i ≡ Some x
slice_get_left [] ys x zero e = cc
slice_get_left [] ys x (suc i) e = cc
slice_get_left (a ∷ xs) ys x zero e = cc
slice_get_left (a ∷ xs) ys x (suc i) e = slice_get_left xs ys x i e

module _ (nodes : List Node) (at : ℕ) (path : List Literal) (node d : Node) (in_range : at < length nodes) (is : get_or nodes at d ≡ node) (course : IsOnCourse nodes at path) where
  left_is : drop at nodes ≡ node ∷ drop (at + 1) nodes
  left_is = drop_more nodes at d in_range ∙ ap (λ (x : Node). x ∷ drop (at + 1) nodes) is

  left_places : drop at (all_places nodes) ≡ record { path = path; node = node } ∷ places_from (drop (at + 1) nodes) (paths_after path node (waiting path))
  left_places =
      (before nodes at path in_range course).left ∙ ap (λ (xs : List Node). places_from xs (path ∷ waiting path)) left_is

  -- the place of the node
  pub place_here : slice_get (all_places nodes) at ≡ Some (record { path = path; node = node })
  place_here = slice_get_left (all_places nodes) _ _ at left_places

  -- where the node is right too, all nodes up to it are
  pub right_more : (set : ClauseSet) → All (IsRightAt set) (take at (all_places nodes)) → IsRight set path node → All (IsRightAt set) (take (at + 1) (all_places nodes))
  right_more set right here =
      let place : Place = record { path = path; node = node } in
      let there = slice_get_within (all_places nodes) at place place_here in
      All-more (IsRightAt set) (all_places nodes) at place there right
      (subst (IsRightAt set) (sym (get_or_from_slice_get (all_places nodes) at place place place_here)) here)

  places_next : drop (at + 1) (all_places nodes) ≡ places_from (drop (at + 1) nodes) (paths_after path node (waiting path))
  places_next = sym (drop-drop 1 at (all_places nodes)) ∙ ap (drop 1) left_places

  trees_here : AreTrees (suc (length (waiting path))) (node ∷ drop (at + 1) nodes)
  trees_here = subst (AreTrees (suc (length (waiting path)))) left_is (before nodes at path in_range course).trees

-- after a subtree the walk goes on to the first that waits, or ends
IsOnCourse-after : (nodes : List Node) (next : ℕ) (path : List Literal) → AreTrees (length (waiting path)) (drop next nodes) → drop next (all_places nodes) ≡ places_from (drop next nodes) (waiting path) → IsOnCourse nodes next (next_path path)
IsOnCourse-after nodes next path trees left =
    ⊎_elim
    (λ (none, ended).
    ⊎_elim
    (λ more. absurd (AreTrees-past next nodes more (subst (λ (paths : List (List Literal)). AreTrees (length paths) (drop next nodes)) none trees)))
    (λ past. inl (past, ended))
    (cases_lt next (length nodes)))
    (λ some. inr (record {
      trees = subst (λ (paths : List (List Literal)). AreTrees (length paths) (drop next nodes)) some trees;
      left = left ∙ ap (places_from (drop next nodes)) some;
    }))
    (waiting_next path)

-- after a split it goes on to the true subtree
pub IsOnCourse-split : (nodes : List Node) (at v : ℕ) (path : List Literal) (d : Node) → at < length nodes → get_or nodes at d ≡ Split v → IsOnCourse nodes at path → IsOnCourse nodes (at + 1) (yes v ∷ path)
IsOnCourse-split nodes at v path d in_range is course = inr (record {
  trees = trees_here nodes at path (Split v) d in_range is course;
  left = places_next nodes at path (Split v) d in_range is course;
})

-- after a leaf, and after an unclosed node, it goes on to the subtree that comes next
pub IsOnCourse-leaf : (nodes : List Node) (at : ℕ) (reason : Reason) (path : List Literal) (d : Node) → at < length nodes → get_or nodes at d ≡ Leaf reason → IsOnCourse nodes at path → IsOnCourse nodes (at + 1) (next_path path)
IsOnCourse-leaf nodes at reason path d in_range is course =
    IsOnCourse-after nodes (at + 1) path (trees_here nodes at path (Leaf reason) d in_range is course) (places_next nodes at path (Leaf reason) d in_range is course)

pub IsOnCourse-unclosed : (nodes : List Node) (at : ℕ) (path : List Literal) (d : Node) → at < length nodes → get_or nodes at d ≡ Unclosed → IsOnCourse nodes at path → IsOnCourse nodes (at + 1) (next_path path)
IsOnCourse-unclosed nodes at path d in_range is course =
    IsOnCourse-after nodes (at + 1) path (trees_here nodes at path Unclosed d in_range is course) (places_next nodes at path Unclosed d in_range is course)
