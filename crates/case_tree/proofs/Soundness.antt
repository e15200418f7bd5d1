-- A tree that refutes the clauses leaves no assignment.
use Rattle.std.proofs.Common.{◌≡◌, ℕ, Bool, true, false, not, List, [], ◌∷◌, Some, refl, sym, ap, ◌∙◌, subst, ⊎_elim}
use Rattle.std.specs.Prelude.{◌≢◌, slice_get}
use Rattle.std.specs.List.{All, Any}
use Rattle.std.proofs.lemmas.Bool.{cases_Bool, cases_eq, both_ways, not_from_true, not_from_false}
use Rattle.std.proofs.lemmas.List.Elements.{All-head, All-tail}
use Rattle.case_tree.specs.declared.clauses.Literal.{Literal}
use Rattle.case_tree.specs.declared.clauses.VarCell.{VarCell}
use Rattle.case_tree.specs.declared.tree.Node.{Node}
use Rattle.case_tree.specs.declared.tree.Node.TheVariants.{Unclosed}
use Rattle.case_tree.specs.declared.tree.Reason.{Reason}
use Rattle.case_tree.specs.declared.tree.Reason.TheVariants.{Clause, Two, NoneOf}
use Rattle.case_tree.specs.CaseTree.{ClauseSet, IsAllowed, HasNoneAllowed, IsIn, IsTrueUnder, IsFalseOn, value_on, Holds, CaseTree, split, leaf, unclosed, preorder, places_under, IsRightAt, Refutes}
use Rattle.case_tree.proofs.Lists.{All-at, All-left, All-right, value_of}
use Rattle.case_tree.proofs.Paths.{value_on-same, value_on-other}

-- the assignment gives each variable the value that the path gives it
abbrev pub Follows : (ℕ → Bool) → List Literal → Type 0
Follows value path = (v : ℕ) (b : Bool) → value_on path v ≡ Some b → value v ≡ b

-- the cell has at most one variable that is true
abbrev AtMostOne : (ℕ → Bool) → VarCell → Type 0
AtMostOne value cell = (v w : ℕ) → IsIn cell v → IsIn cell w → value v ≡ true → value w ≡ true → v ≡ w

-- the cell has a variable that is true, if it is demanded
abbrev HasOne : (ℕ → Bool) → VarCell → Type 0
HasOne value cell = cell.demanded ≡ true → (v : ℕ) × IsIn cell v × (value v ≡ true)

Follows-cons : (value : ℕ → Bool) (literal : Literal) (path : List Literal) → value literal.var ≡ literal.positive → Follows value path → Follows value (literal ∷ path)
Follows-cons value literal path agrees follows v b given =
    ⊎_elim
    (λ same.
    let here = value_on-same literal path v same in
    let positive : literal.positive ≡ b = cc in
    ap value (sym same) ∙ agrees ∙ positive)
    (λ other. follows v b (sym (value_on-other literal path v other) ∙ given))
    (cases_eq literal.var v)

-- a clause with a true literal has a literal that isn't false under the path
clause_excludes : (value : ℕ → Bool) (path clause : List Literal) → Follows value path → Any (IsTrueUnder value) clause → All (IsFalseOn path) clause → ⊥
clause_excludes value path clause follows (k, literal, in_range, is, holds) all_false =
    let given = subst (IsFalseOn path) is (all_false k literal in_range) in
    let opposite = follows literal.var (not literal.positive) given in
    ⊎_elim (λ yes. let n = not_from_true literal.positive yes in cc) (λ no. let n = not_from_false literal.positive no in cc) (cases_Bool literal.positive)

-- no allowed assignment follows a path under which a reason holds
reason_excludes : (set : ClauseSet) (value : ℕ → Bool) (path : List Literal) (reason : Reason) → IsAllowed set value → Follows value path → Holds set path reason → ⊥
reason_excludes set value path (Clause at) allowed follows held =
    let (clause, there, all_false) = value_of (slice_get set.clauses at) (All (IsFalseOn path)) held in
    clause_excludes value path clause follows (All-at (Any (IsTrueUnder value)) set.clauses at clause allowed.clauses_true there) all_false
reason_excludes set value path (Two v w) allowed follows (differ, (k, cell, in_range, is, (v_in, w_in)), v_true, w_true) =
    differ (subst (AtMostOne value) is (allowed.at_most_one k cell in_range) v w v_in w_in (follows v true v_true) (follows w true w_true))
reason_excludes set value path (NoneOf at) allowed follows held =
    let (cell, there, (demanded, all_false)) = value_of (slice_get set.cells at) (λ (cell : VarCell). (cell.demanded ≡ true) × ((v : ℕ) → IsIn cell v → value_on path v ≡ Some false)) held in
    let (v, v_in, v_true) = All-at (HasOne value) set.cells at cell allowed.one_demanded there demanded in
    both_ways (value v) (follows v false (all_false v v_in)) v_true

-- an allowed assignment follows the path of no tree whose nodes are right and closed: it would go on to one of the
-- subtrees of a split, and so to a leaf
tree_excludes : (set : ClauseSet) (value : ℕ → Bool) (tree : CaseTree) (path : List Literal) → IsAllowed set value → Follows value path → All (IsRightAt set) (places_under path tree) → All (λ (node : Node). node ≢ Unclosed) (preorder tree) → ⊥
tree_excludes set value (split v if_true if_false) path allowed follows right closed =
    let rights = All-tail (IsRightAt set) _ _ right in
    let closeds = All-tail (λ (node : Node). node ≢ Unclosed) _ _ closed in
    ⊎_elim
    (λ yes. tree_excludes set value if_true _ allowed (Follows-cons value (record { var = v; positive = true }) path yes follows) (All-left (IsRightAt set) _ _ rights) (All-left (λ (node : Node). node ≢ Unclosed) _ _ closeds))
    (λ no. tree_excludes set value if_false _ allowed (Follows-cons value (record { var = v; positive = false }) path no follows) (All-right (IsRightAt set) _ _ rights) (All-right (λ (node : Node). node ≢ Unclosed) _ _ closeds))
    (cases_Bool (value v))
tree_excludes set value (leaf reason) path allowed follows right closed =
    reason_excludes set value path reason allowed follows (All-head (IsRightAt set) _ [] right).0
tree_excludes set value unclosed path allowed follows right closed =
    All-head (λ (node : Node). node ≢ Unclosed) Unclosed [] closed refl

-- a tree that refutes the clauses leaves no allowed assignment
pub sound : (set : ClauseSet) (nodes : List Node) → Refutes set nodes → HasNoneAllowed set
sound set nodes refuted value allowed =
    tree_excludes set value refuted.tree [] allowed (λ v b none. cc) refuted.right (rw refuted.listed refuted.closed)
