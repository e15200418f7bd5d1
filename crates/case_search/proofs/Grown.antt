-- The nodes that the search has written, and the subtrees that are still to come.
use Rattle.std.proofs.Common.{◌≡◌, ◌≢◌, ℕ, zero, suc, ◌+◌, ◌*◌, ◌<◌, ◌≤◌, ◌⊎◌, List, [], ◌∷◌, ◌++◌, length, replicate, refl, sym, ap, subst, ⊎_elim, arith}
use Rattle.std.specs.Prelude.{cond}
use Rattle.std.proofs.lemmas.Bool.{cases_Bool}
use Rattle.std.specs.List.{All, Any}
use Rattle.std.proofs.lemmas.List.{append-nil}
use Rattle.std.proofs.lemmas.List.Elements.{All-nil, All-cons, All-append, All-push}
use Rattle.std.proofs.lemmas.List.Sums.{sum_by-append, sum_by_push}
use Rattle.case_tree.specs.declared.clauses.Literal.{Literal}
use Rattle.case_tree.specs.declared.tree.Node.{Node}
use Rattle.case_tree.specs.declared.tree.Node.TheVariants.{Split, Leaf, Unclosed}
use Rattle.case_tree.specs.declared.tree.Reason.{Reason}
use Rattle.case_tree.specs.CaseTree.{ClauseSet, FollowFrom, Holds, HoldsAbove, IsOneTree, IsPartial, IsRightAt, Place, Refutes, is_leaf, leaf_count, var_count}
use Rattle.case_tree.specs.Walk.{next_path}
use Rattle.case_tree.proofs.Preorder.{AreTrees, tree_of}
use Rattle.case_tree.proofs.Walk.{no, paths_after, places_from, places_from-preorder, waiting, waiting_next, yes}
use Rattle.case_search.specs.Enough.{choices}
use Rattle.case_search.specs.Step.{IsForced, IsOpen, IsWanted, NoReason, QuietAbove}
use Rattle.case_search.proofs.Weights.{Fits, halves, root_fits}

-- reading the nodes, with the paths of the subtrees to come before and after
abbrev pub Reads : List Node → List (List Literal) → List (List Literal) → Type 0
Reads [] paths rest = paths ≡ rest
Reads (node ∷ nodes) [] rest = ⊥
Reads (node ∷ nodes) (path ∷ paths) rest = Reads nodes (paths_after path node paths) rest

Reads-push : (nodes : List Node) (node : Node) (paths : List (List Literal)) (path : List Literal) (rest : List (List Literal)) → Reads nodes paths (path ∷ rest) → Reads (nodes ++ node ∷ []) paths (paths_after path node rest)
Reads-push [] node paths path rest read =
    subst (λ (ps : List (List Literal)). Reads (node ∷ []) ps (paths_after path node rest)) (sym read) refl
Reads-push (x ∷ nodes) node [] path rest read = read
Reads-push (x ∷ nodes) node (p ∷ paths) path rest read = Reads-push nodes node (paths_after p x paths) path rest read

places_from-append : (nodes more : List Node) (paths rest : List (List Literal)) → Reads nodes paths rest → places_from (nodes ++ more) paths ≡ places_from nodes paths ++ places_from more rest
places_from-append [] more paths rest read = ap (places_from more) read
places_from-append (x ∷ nodes) more [] rest read = absurd read
places_from-append (x ∷ nodes) more (p ∷ paths) rest read =
    ap (λ (ps : List Place). record { path = p; node = x } ∷ ps) (places_from-append nodes more (paths_after p x paths) rest read)

AreTrees-reads : (nodes more : List Node) (paths rest : List (List Literal)) → Reads nodes paths rest → AreTrees (length rest) more → AreTrees (length paths) (nodes ++ more)
AreTrees-reads [] more paths rest read trees = subst (λ (ps : List (List Literal)). AreTrees (length ps) more) (sym read) trees
AreTrees-reads (x ∷ nodes) more [] rest read trees = absurd read
AreTrees-reads (Split v ∷ nodes) more (p ∷ paths) rest read trees = AreTrees-reads nodes more (paths_after p (Split v) paths) rest read trees
AreTrees-reads (Leaf reason ∷ nodes) more (p ∷ paths) rest read trees = AreTrees-reads nodes more paths rest read trees
AreTrees-reads (Unclosed ∷ nodes) more (p ∷ paths) rest read trees = AreTrees-reads nodes more paths rest read trees

-- no more subtrees are to come than nodes were read, and one
Reads-length : (nodes : List Node) (paths rest : List (List Literal)) → Reads nodes paths rest → length rest ≤ length paths + length nodes
Reads-length [] paths rest read = omega (arith, ap length read)
Reads-length (x ∷ nodes) [] rest read = absurd read
Reads-length (Split v ∷ nodes) (p ∷ paths) rest read = omega (arith, Reads-length nodes (paths_after p (Split v) paths) rest read)
Reads-length (Leaf reason ∷ nodes) (p ∷ paths) rest read = omega (arith, Reads-length nodes paths rest read)
Reads-length (Unclosed ∷ nodes) (p ∷ paths) rest read = omega (arith, Reads-length nodes paths rest read)

-- n unclosed nodes are n trees, and right wherever they stand
AreTrees-unclosed : (n : ℕ) → AreTrees n (replicate n Unclosed)
AreTrees-unclosed zero = tt
AreTrees-unclosed (suc n) = AreTrees-unclosed n

right_unclosed : (set : ClauseSet) (n : ℕ) (paths : List (List Literal)) → All (IsRightAt set) (places_from (replicate n Unclosed) paths)
right_unclosed set zero paths = All-nil (IsRightAt set)
right_unclosed set (suc n) [] = All-nil (IsRightAt set)
right_unclosed set (suc n) (p ∷ paths) =
    All-cons (IsRightAt set) (record { path = p; node = Unclosed }) _ tt (right_unclosed set n paths)

leaf_count-unclosed : (n : ℕ) → leaf_count (replicate n Unclosed) ≡ 0
leaf_count-unclosed zero = refl
leaf_count-unclosed (suc n) = leaf_count-unclosed n

-- the bounds of the subtrees to come, and their sum
abbrev pub Bounded : ClauseSet → List (List Literal) → List ℕ → Type 0
Bounded set [] [] = Unit {0}
Bounded set [] (w ∷ ws) = ⊥
Bounded set (path ∷ paths) [] = ⊥
Bounded set (path ∷ paths) (w ∷ ws) = Fits set path w × Bounded set paths ws

abbrev pub total : List ℕ → ℕ
total [] = 0
total (w ∷ ws) = w + total ws

-- the leaves so far and the bounds of what is to come are at most `most`
abbrev pub HasRoom : ClauseSet → List (List Literal) → ℕ → ℕ → Type 0
HasRoom set paths leaves most = (ws : List ℕ) × Bounded set paths ws × (leaves + total ws ≤ most)

HasRoom-split : (set : ClauseSet) (path : List Literal) (paths : List (List Literal)) (v leaves most : ℕ) → NoReason set path → IsOpen set path v → IsForced set path v ⊎ IsWanted set path v → suc (length path) ≤ var_count set.cells → HasRoom set (path ∷ paths) leaves most → HasRoom set ((yes v ∷ path) ∷ (no v ∷ path) ∷ paths) leaves most
HasRoom-split set path paths v leaves most quiet opens why room ([], are, bound) = absurd are
HasRoom-split set path paths v leaves most quiet opens why room (w ∷ ws, (fits, are), bound) =
    let both = halves set path v w quiet opens why room fits in
    (both.if_true ∷ both.if_false ∷ ws, (both.true_fits, (both.false_fits, are)), omega (arith, both.within))

HasRoom-leaf : (set : ClauseSet) (path : List Literal) (paths : List (List Literal)) (leaves most : ℕ) → HasRoom set (path ∷ paths) leaves most → HasRoom set paths (leaves + 1) most
HasRoom-leaf set path paths leaves most ([], are, bound) = absurd are
HasRoom-leaf set path paths leaves most (w ∷ ws, (fits, are), bound) = (ws, are, omega (arith, fits.0))

-- where a subtree is to come, there is room for a leaf
HasRoom-more : (set : ClauseSet) (paths : List (List Literal)) (leaves most : ℕ) → 0 < length paths → HasRoom set paths leaves most → leaves < most
HasRoom-more set [] leaves most some room = absurd (omega arith)
HasRoom-more set (path ∷ paths) leaves most some ([], are, bound) = absurd are
HasRoom-more set (path ∷ paths) leaves most some (w ∷ ws, (fits, are), bound) = omega (arith, fits.0)

-- no reason holds at any node above
abbrev pub QuietUp : ClauseSet → List Literal → Type 0
QuietUp set [] = Unit {0}
QuietUp set (last ∷ above) = NoReason set above × QuietUp set above

pub quiet_above : (set : ClauseSet) (path : List Literal) → QuietUp set path → QuietAbove set path
quiet_above set [] quiet = tt
quiet_above set (last ∷ above) quiet = quiet.0

QuietUp-next : (set : ClauseSet) (path : List Literal) → QuietUp set path → QuietUp set (next_path path)
QuietUp-next set [] quiet = tt
QuietUp-next set (last ∷ above) quiet =
    ⊎_elim
    (λ on_true. rw on_true quiet)
    (λ on_false. rw on_false (QuietUp-next set above quiet.1))
    (cases_Bool last.positive)

not_above : (set : ClauseSet) (path : List Literal) (reason : Reason) → QuietUp set path → HoldsAbove set path reason → ⊥
not_above set [] reason quiet held = held
not_above set (last ∷ above) reason quiet held = quiet.0 reason held

-- the nodes are right as far as they go, closed, and so many leaves, and `paths` are the subtrees to come
pub record IsWritten (set : ClauseSet) (nodes : List Node) (paths : List (List Literal)) (leaves most : ℕ) : Type 0 where
  pub reads : Reads nodes ([] ∷ []) paths
  pub right : All (IsRightAt set) (places_from nodes ([] ∷ []))
  pub closed : All (λ (node : Node). node ≢ Unclosed) nodes
  pub leaves_are : leaves ≡ leaf_count nodes
  pub room : HasRoom set paths leaves most

-- the search is at a path, with these nodes written
pub record IsAt (set : ClauseSet) (nodes : List Node) (path : List Literal) (leaves most : ℕ) : Type 0 where
  pub written : IsWritten set nodes (path ∷ waiting path) leaves most
  pub quiet : QuietUp set path

pub IsAt-start : (set : ClauseSet) → FollowFrom 0 set.cells → IsAt set [] [] 0 (choices set.cells * (var_count set.cells + 1))
IsAt-start set follow = record {
  written = record {
    reads = refl;
    right = All-nil (IsRightAt set);
    closed = All-nil (λ (node : Node). node ≢ Unclosed);
    leaves_are = refl;
    room = (choices set.cells * (var_count set.cells + 1) ∷ [], (root_fits set follow, tt), omega arith);
  };
  quiet = tt;
}

module _ (set : ClauseSet) (nodes : List Node) (path : List Literal) (leaves most : ℕ) (at : IsAt set nodes path leaves most) where
  -- the place of the next node
  places_push : (node : Node) → places_from (nodes ++ node ∷ []) ([] ∷ []) ≡ places_from nodes ([] ∷ []) ++ record { path = path; node = node } ∷ []
  places_push node = places_from-append nodes (node ∷ []) ([] ∷ []) (path ∷ waiting path) at.written.reads

  pub IsAt-split : (v : ℕ) → NoReason set path → IsOpen set path v → IsForced set path v ⊎ IsWanted set path v → suc (length path) ≤ var_count set.cells → IsAt set (nodes ++ Split v ∷ []) (yes v ∷ path) leaves most
  IsAt-split v none opens why room = record {
    written = record {
      reads = Reads-push nodes (Split v) ([] ∷ []) path (waiting path) at.written.reads;
      right = subst (All (IsRightAt set)) (sym (places_push (Split v))) (All-push (IsRightAt set) (places_from nodes ([] ∷ [])) (record { path = path; node = Split v }) at.written.right opens);
      closed = All-push (λ (node : Node). node ≢ Unclosed) nodes (Split v) at.written.closed (λ e. cc);
      leaves_are = omega (arith, at.written.leaves_are, sum_by_push (λ (x : Node). cond (is_leaf x) 1 0) nodes (Split v));
      room = HasRoom-split set path (waiting path) v leaves most none opens why room at.written.room;
    };
    quiet = (none, at.quiet);
  }

  pub IsWritten-leaf : (reason : Reason) → Holds set path reason → IsWritten set (nodes ++ Leaf reason ∷ []) (waiting path) (leaves + 1) most
  IsWritten-leaf reason held = record {
    reads = Reads-push nodes (Leaf reason) ([] ∷ []) path (waiting path) at.written.reads;
    right = subst (All (IsRightAt set)) (sym (places_push (Leaf reason))) (All-push (IsRightAt set) (places_from nodes ([] ∷ [])) (record { path = path; node = Leaf reason }) at.written.right (held, not_above set path reason at.quiet));
    closed = All-push (λ (node : Node). node ≢ Unclosed) nodes (Leaf reason) at.written.closed (λ e. cc);
    leaves_are = omega (arith, at.written.leaves_are, sum_by_push (λ (x : Node). cond (is_leaf x) 1 0) nodes (Leaf reason));
    room = HasRoom-leaf set path (waiting path) leaves most at.written.room;
  }

  -- the number of subtrees to come is bounded by the nodes
  pub pending_bound : length (waiting path) ≤ length nodes
  pending_bound = omega (arith, Reads-length nodes ([] ∷ []) (path ∷ waiting path) at.written.reads)

-- after a leaf the search goes on to the next subtree
pub IsAt-next : (set : ClauseSet) (nodes : List Node) (path : List Literal) (leaves most : ℕ) → QuietUp set path → 0 < length (waiting path) → IsWritten set nodes (waiting path) leaves most → IsAt set nodes (next_path path) leaves most
IsAt-next set nodes path leaves most quiet some written =
    ⊎_elim
    (λ (none, ended). let empty = ap length none in absurd (omega arith))
    (λ next. record {
      written = subst (λ (paths : List (List Literal)). IsWritten set nodes paths leaves most) next written;
      quiet = QuietUp-next set path quiet;
    })
    (waiting_next path)

-- one subtree fewer waits there
pub waiting-next : (path : List Literal) → 0 < length (waiting path) → length (waiting path) ≡ suc (length (waiting (next_path path)))
waiting-next path some =
    ⊎_elim
    (λ (none, ended). let empty = ap length none in absurd (omega arith))
    (λ next. ap length next)
    (waiting_next path)

-- where none is to come, the nodes refute the clauses
pub is_refuted : (set : ClauseSet) (nodes : List Node) (paths : List (List Literal)) (leaves most : ℕ) → length paths ≡ 0 → IsWritten set nodes paths leaves most → IsOneTree nodes × Refutes set nodes
is_refuted set nodes [] leaves most none written =
    let one : IsOneTree nodes = tree_of nodes (subst (AreTrees 1) (append-nil nodes) (AreTrees-reads nodes [] ([] ∷ []) [] written.reads tt)) in (
      one,
      record {
        tree = one.0;
        listed = one.1;
        right = subst (All (IsRightAt set)) (places_from-preorder one.0 nodes one.1) written.right;
        closed = written.closed;
      },
    )
is_refuted set nodes (path ∷ paths) leaves most none written = absurd (omega arith)

-- where some are, and are left out, they are a partial tree
pub record IsSpent (set : ClauseSet) (nodes : List Node) (leaves most : ℕ) : Type 0 where
  pub one : IsOneTree nodes
  pub partial : IsPartial set nodes
  pub count : leaf_count nodes ≡ leaves
  pub below : leaves < most

pub is_spent : (set : ClauseSet) (nodes : List Node) (paths : List (List Literal)) (leaves most : ℕ) → 0 < length paths → IsWritten set nodes paths leaves most → IsSpent set (nodes ++ replicate (length paths) Unclosed) leaves most
is_spent set nodes paths leaves most some written =
    let more = replicate (length paths) Unclosed in
    let all : List Node = nodes ++ more in
    let one : IsOneTree all = tree_of all (AreTrees-reads nodes more ([] ∷ []) paths written.reads (AreTrees-unclosed (length paths))) in
    let right : All (IsRightAt set) (places_from all ([] ∷ [])) =
    subst (All (IsRightAt set)) (sym (places_from-append nodes more ([] ∷ []) paths written.reads))
    (All-append (IsRightAt set) (places_from nodes ([] ∷ [])) (places_from more paths) written.right (right_unclosed set (length paths) paths))
    in
    record {
      one = one;
      partial = record {
        tree = one.0;
        listed = one.1;
        right = subst (All (IsRightAt set)) (places_from-preorder one.0 all one.1) right;
        open_node = open_one nodes (length paths) some;
      };
      count = omega (arith, sum_by-append (λ (x : Node). cond (is_leaf x) 1 0) nodes more, leaf_count-unclosed (length paths), written.leaves_are);
      below = HasRoom-more set paths leaves most some written.room;
    }
  where
    open_one : (xs : List Node) (n : ℕ) → 0 < n → Any (λ (node : Node). node ≡ Unclosed) (xs ++ replicate n Unclosed)
    open_one xs zero some = absurd (omega arith)
    open_one [] (suc n) some = (0, Unclosed, omega arith, refl, refl)
    open_one (x ∷ xs) (suc n) some =
        let (k, node, in_range, is, fact) = open_one xs (suc n) some in
        (suc k, node, omega arith, is, fact)

-- the path of the next subtree is no longer
pub length-next_path : (path : List Literal) → length (next_path path) ≤ length path
length-next_path [] = omega arith
length-next_path (last ∷ above) =
    ⊎_elim
    (λ on_true. rw on_true (omega arith))
    (λ on_false. rw on_false (omega (arith, length-next_path above)))
    (cases_Bool last.positive)
