-- What the checker has found among the nodes before the present one.
use Rattle.std.proofs.Common.{◌≡◌, ℕ, ◌+◌, ◌<◌, ◌≤◌, Bool, true, false, List, [], ◌∷◌, length, get_or, take, refl, sym, ap, ◌∙◌, subst, arith}
use Rattle.std.specs.Prelude.{◌≢◌, slice_get}
use Rattle.std.specs.Bool.{MatchBool}
use Rattle.std.specs.List.{All, Any}
use Rattle.std.proofs.lemmas.List.{take_all}
use Rattle.std.proofs.lemmas.List.Elements.{All-more}
use Rattle.std.proofs.lemmas.List.Sums.{count_by_more_yes, count_by_more_no}
use Rattle.case_tree.specs.declared.clauses.Literal.{Literal}
use Rattle.case_tree.specs.declared.tree.Node.{Node}
use Rattle.case_tree.specs.declared.tree.Node.TheVariants.{Split, Leaf, Unclosed}
use Rattle.case_tree.specs.declared.tree.Reason.{Reason}
use Rattle.case_tree.specs.CaseTree.{ClauseSet, Place, IsRight, IsRightAt, IsOneTree, IsFirstWrong, IsPartial, Refutes, is_leaf, leaf_count, places}
use Rattle.case_tree.specs.Walk.{next_path}
use Rattle.case_tree.proofs.Course.{IsOnCourse, IsOnCourse-start, IsOnCourse-split, IsOnCourse-leaf, IsOnCourse-unclosed, all_places, place_here, right_more}
use Rattle.case_tree.proofs.Lists.{Any-more, Any-here, IsSomeAnd-from}
use Rattle.case_tree.proofs.Preorder.{AreTrees-from_tree}
use Rattle.case_tree.proofs.Walk.{places_from-preorder, length-places, yes}

-- some of the nodes is unclosed, or none
abbrev pub TellsOpen : Bool → List Node → Type 0
TellsOpen is_open nodes =
    MatchBool is_open (Any (λ (node : Node). node ≡ Unclosed) nodes) (All (λ (node : Node). node ≢ Unclosed) nodes)

-- the nodes before `at` are right, their leaves are counted, and `is_open` tells whether one is unclosed
pub record HasWalked (set : ClauseSet) (nodes : List Node) (at : ℕ) (path : List Literal) (leaves : ℕ) (is_open : Bool) : Type 0 where
  pub course : IsOnCourse nodes at path
  pub right : All (IsRightAt set) (take at (all_places nodes))
  pub leaves_are : leaves ≡ leaf_count (take at nodes)
  pub tells_open : TellsOpen is_open (take at nodes)

-- the same where the code has the same path, count and answer
pub HasWalked-same : (set : ClauseSet) (nodes : List Node) (at : ℕ) (path other : List Literal) (leaves count : ℕ) (is_open told : Bool) → HasWalked set nodes at path leaves is_open → other ≡ path → count ≡ leaves → told ≡ is_open → HasWalked set nodes at other count told
HasWalked-same set nodes at path other leaves count is_open told walked same_path same_count same_answer =
    rw (same_path, same_count, same_answer) walked

pub HasWalked-start : (set : ClauseSet) (nodes : List Node) → IsOneTree nodes → HasWalked set nodes 0 [] 0 false
HasWalked-start set nodes one = record {
  course = IsOnCourse-start nodes (AreTrees-from_tree nodes one);
  right = λ k d none. absurd (omega arith);
  leaves_are = refl;
  tells_open = λ k d none. absurd (omega arith);
}

-- a node that isn't unclosed changes nothing of what `is_open` tells
tells_more : (nodes : List Node) (at : ℕ) (d : Node) (is_open : Bool) → at < length nodes → get_or nodes at d ≢ Unclosed → TellsOpen is_open (take at nodes) → TellsOpen is_open (take (at + 1) nodes)
tells_more nodes at d true in_range closed tells = Any-more (λ (node : Node). node ≡ Unclosed) nodes at in_range tells
tells_more nodes at d false in_range closed tells = All-more (λ (node : Node). node ≢ Unclosed) nodes at d in_range tells closed

module _ (set : ClauseSet) (nodes : List Node) (at : ℕ) (path : List Literal) (leaves : ℕ) (is_open : Bool) (d : Node) (in_range : at < length nodes) (walked : HasWalked set nodes at path leaves is_open) where
  pub HasWalked-split : (v : ℕ) → get_or nodes at d ≡ Split v → IsRight set path (get_or nodes at d) → HasWalked set nodes (at + 1) (yes v ∷ path) leaves is_open
  HasWalked-split v is here = record {
    course = IsOnCourse-split nodes at v path d in_range is walked.course;
    right = right_more nodes at path (get_or nodes at d) d in_range refl walked.course set walked.right here;
    leaves_are = walked.leaves_are ∙ sym (count_by_more_no is_leaf nodes at d in_range (rw is refl));
    tells_open = tells_more nodes at d is_open in_range (λ e. cc) walked.tells_open;
  }

  pub HasWalked-leaf : (reason : Reason) → get_or nodes at d ≡ Leaf reason → IsRight set path (get_or nodes at d) → HasWalked set nodes (at + 1) (next_path path) (leaves + 1) is_open
  HasWalked-leaf reason is here = record {
    course = IsOnCourse-leaf nodes at reason path d in_range is walked.course;
    right = right_more nodes at path (get_or nodes at d) d in_range refl walked.course set walked.right here;
    leaves_are = ap (λ n. n + 1) walked.leaves_are ∙ sym (count_by_more_yes is_leaf nodes at d in_range (rw is refl));
    tells_open = tells_more nodes at d is_open in_range (λ e. cc) walked.tells_open;
  }

  pub HasWalked-unclosed : get_or nodes at d ≡ Unclosed → IsRight set path (get_or nodes at d) → HasWalked set nodes (at + 1) (next_path path) leaves true
  HasWalked-unclosed is here = record {
    course = IsOnCourse-unclosed nodes at path d in_range is walked.course;
    right = right_more nodes at path (get_or nodes at d) d in_range refl walked.course set walked.right here;
    leaves_are = walked.leaves_are ∙ sym (count_by_more_no is_leaf nodes at d in_range (rw is refl));
    tells_open = Any-here (λ (node : Node). node ≡ Unclosed) nodes at d in_range is;
  }

  -- a node that isn't right is the first
  pub HasWalked-wrong : IsOneTree nodes → ¬ IsRight set path (get_or nodes at d) → IsFirstWrong set nodes at
  HasWalked-wrong (tree, listed) wrong =
      let same = places_from-preorder tree nodes listed in
      let place : Place = record { path = path; node = get_or nodes at d } in
      record {
        tree = tree;
        listed = listed;
        right_before = subst (λ (xs : List Place). All (IsRightAt set) (take at xs)) same walked.right;
        wrong =
            IsSomeAnd-from (slice_get (places tree) at) (λ (x : Place). ¬ IsRightAt set x) place
            (ap (λ (xs : List Place). slice_get xs at) (sym same) ∙ place_here nodes at path (get_or nodes at d) d in_range refl walked.course) wrong;
      }

-- at the end of the nodes
module _ (set : ClauseSet) (nodes : List Node) (at : ℕ) (path : List Literal) (leaves : ℕ) (one : IsOneTree nodes) (past : length nodes ≤ at) where
  all_right : All (IsRightAt set) (take at (all_places nodes)) → All (IsRightAt set) (places one.0)
  all_right right =
      let same = places_from-preorder one.0 nodes one.1 in
      subst (All (IsRightAt set)) (take_all at (places one.0) (omega (arith, length-places one.0, ap length one.1))) (subst (λ (xs : List Place). All (IsRightAt set) (take at xs)) same right)

  pub HasWalked-closed : HasWalked set nodes at path leaves false → Refutes set nodes × (leaf_count nodes ≡ leaves)
  HasWalked-closed walked =
      let all = take_all at nodes past in (
        record {
          tree = one.0;
          listed = one.1;
          right = all_right walked.right;
          closed = subst (All (λ (node : Node). node ≢ Unclosed)) all walked.tells_open;
        },
        sym (walked.leaves_are ∙ ap leaf_count all),
      )

  pub HasWalked-open : HasWalked set nodes at path leaves true → IsPartial set nodes × (leaf_count nodes ≡ leaves)
  HasWalked-open walked =
      let all = take_all at nodes past in (
        record {
          tree = one.0;
          listed = one.1;
          right = all_right walked.right;
          open_node = subst (Any (λ (node : Node). node ≡ Unclosed)) all walked.tells_open;
        },
        sym (walked.leaves_are ∙ ap leaf_count all),
      )
