-- Clauses over cells of variables, trees of cases, and when a tree refutes the clauses.
use Rattle.std.specs.Prelude.{◌≡◌, ◌≢◌, ℕ, ◌+◌, ◌^◌, ◌<◌, ◌≤◌, Bool, true, false, not, List, [], ◌∷◌, ◌++◌, map, Option, Some, None, IsSomeAnd, slice_get, take, if◌then◌else◌, ◌==◌}
use Rattle.std.specs.List.{All, Any, sum_by, count_by}
use Rattle.std.specs.declared.vec.Vec.{Vec}
use Rattle.std.specs.declared.alloc.Global.{Global}
use Rattle.case_tree.specs.declared.clauses.Literal.{Literal}
use Rattle.case_tree.specs.declared.clauses.VarCell.{VarCell}
use Rattle.case_tree.specs.declared.tree.Reason.{Reason}
use Rattle.case_tree.specs.declared.tree.Reason.TheVariants.{Clause, Two, NoneOf}
use Rattle.case_tree.specs.declared.tree.Node.{Node}
use Rattle.case_tree.specs.declared.tree.Node.TheVariants.{Split, Leaf, Unclosed}

-- CELLS AND CLAUSES

-- The variable is one of the cell's.
abbrev pub IsIn : VarCell → ℕ → Type 0
IsIn cell v = (cell.first ≤ v) × (v < cell.first + cell.count)

-- How many variables the cells have together. They are the numbers below it.
abbrev pub var_count : List VarCell → ℕ
var_count cells = sum_by (λ (cell : VarCell). cell.count) cells

-- The cells are ranges of variables, none empty, that follow one another from `first`.
abbrev pub FollowFrom : ℕ → List VarCell → Type 0
FollowFrom first [] = Unit {0}
FollowFrom first (cell ∷ cells) =
    (cell.first ≡ first) × (0 < cell.count) × FollowFrom (first + cell.count) cells

-- Each clause as its list of literals.
abbrev pub literals_of : List (Vec Literal Global) → List (List Literal)
literals_of clauses = map (λ (clause : Vec Literal Global). clause.items) clauses

-- A list of cells, and a list of clauses over their variables.
pub record ClauseSet : Type 0 where
  pub cells : List VarCell
  pub clauses : List (List Literal)

-- The clause set with these cells and clauses.
abbrev pub clause_set : List VarCell → List (Vec Literal Global) → ClauseSet
clause_set cells clauses = record { cells = cells; clauses = literals_of clauses }

-- The cells follow one another from 0, their variables can be counted by a machine number, and each literal's
-- variable lies in a cell.
pub record IsWellFormed (set : ClauseSet) : Type 0 where
  pub cells_follow : FollowFrom 0 set.cells
  pub vars_fit : var_count set.cells < 2 ^ 64
  pub literals_in_cells : All (All (λ (literal : Literal). literal.var < var_count set.cells)) set.clauses

-- ASSIGNMENTS

-- An assignment gives each variable a truth value. A literal is true where its variable has its sign.
abbrev pub IsTrueUnder : (ℕ → Bool) → Literal → Type 0
IsTrueUnder value literal = value literal.var ≡ literal.positive

-- An assignment is allowed where each cell has at most one true variable, each demanded cell has one, and each
-- clause has a true literal.
pub record IsAllowed (set : ClauseSet) (value : ℕ → Bool) : Type 0 where
  pub at_most_one : All (λ (cell : VarCell). (v w : ℕ) → IsIn cell v → IsIn cell w → value v ≡ true → value w ≡ true → v ≡ w) set.cells
  pub one_demanded : All (λ (cell : VarCell). cell.demanded ≡ true → (v : ℕ) × IsIn cell v × (value v ≡ true)) set.cells
  pub clauses_true : All (Any (IsTrueUnder value)) set.clauses

-- No assignment is allowed.
abbrev pub HasNoneAllowed : ClauseSet → Type 0
HasNoneAllowed set = (value : ℕ → Bool) → IsAllowed set value → ⊥

-- PATHS

-- The path of a node is the list of the literals that the splits above it made true, the nearest split first.
-- The truth value that it gives a variable, if it gives one.
abbrev pub value_on : List Literal → ℕ → Option Bool
value_on [] v = None
value_on (literal ∷ path) v = if literal.var == v then Some literal.positive else value_on path v

-- The literal is false under the path.
abbrev pub IsFalseOn : List Literal → Literal → Type 0
IsFalseOn path literal = value_on path literal.var ≡ Some (not literal.positive)

-- A reason holds under a path. A clause: it is there, and all its literals are false. Two variables: they are
-- different, of one cell, and both true. None of a cell: the cell is there and demanded, and all its variables are
-- false.
abbrev pub Holds : ClauseSet → List Literal → Reason → Type 0
Holds set path (Clause at) = IsSomeAnd (slice_get set.clauses at) (All (IsFalseOn path))
Holds set path (Two v w) =
    (v ≢ w) × Any (λ (cell : VarCell). IsIn cell v × IsIn cell w) set.cells × (value_on path v ≡ Some true) × (value_on path w ≡ Some true)
Holds set path (NoneOf at) =
    IsSomeAnd (slice_get set.cells at) (λ cell. (cell.demanded ≡ true) × ((v : ℕ) → IsIn cell v → value_on path v ≡ Some false))

-- A reason holds under the path of the parent. The root has none.
abbrev pub HoldsAbove : ClauseSet → List Literal → Reason → Type 0
HoldsAbove set [] reason = ⊥
HoldsAbove set (last ∷ above) reason = Holds set above reason

-- A node is right under its path. A split: its variable is there and not on the path. A leaf: its reason holds, and
-- did not hold at the parent already. An unclosed node always is.
abbrev pub IsRight : ClauseSet → List Literal → Node → Type 0
IsRight set path (Split v) = (v < var_count set.cells) × (value_on path v ≡ None)
IsRight set path (Leaf reason) = Holds set path reason × ¬ HoldsAbove set path reason
IsRight set path Unclosed = Unit {0}

-- TREES

-- A tree of cases: a split with its true and its false subtree, a leaf, or a subtree that isn't there.
pub data CaseTree : Type 0 where
  split : ℕ → CaseTree → CaseTree → CaseTree
  leaf : Reason → CaseTree
  unclosed : CaseTree

-- Its nodes in preorder.
abbrev pub preorder : CaseTree → List Node
preorder (split v if_true if_false) = Split v ∷ (preorder if_true ++ preorder if_false)
preorder (leaf reason) = Leaf reason ∷ []
preorder unclosed = Unclosed ∷ []

-- The nodes are those of one tree in preorder.
abbrev pub IsOneTree : List Node → Type 0
IsOneTree nodes = (tree : CaseTree) × (preorder tree ≡ nodes)

-- A node of a tree, with its path.
pub record Place : Type 0 where
  pub path : List Literal
  pub node : Node

-- The nodes in preorder with their paths, where `path` leads to the root.
abbrev pub places_under : List Literal → CaseTree → List Place
places_under path (split v if_true if_false) =
    record { path = path; node = Split v }
    ∷ (places_under (record { var = v; positive = true } ∷ path) if_true ++ places_under (record { var = v; positive = false } ∷ path) if_false)
places_under path (leaf reason) = record { path = path; node = Leaf reason } ∷ []
places_under path unclosed = record { path = path; node = Unclosed } ∷ []

abbrev pub places : CaseTree → List Place
places tree = places_under [] tree

-- The node at a place is right.
abbrev pub IsRightAt : ClauseSet → Place → Type 0
IsRightAt set place = IsRight set place.path place.node

-- The node is a leaf.
abbrev pub is_leaf : Node → Bool
is_leaf (Split v) = false
is_leaf (Leaf reason) = true
is_leaf Unclosed = false

-- The number of leaves.
abbrev pub leaf_count : List Node → ℕ
leaf_count nodes = count_by is_leaf nodes

-- The nodes are a tree that refutes the clauses: each node is right, and none is unclosed.
pub record Refutes (set : ClauseSet) (nodes : List Node) : Type 0 where
  pub tree : CaseTree
  pub listed : preorder tree ≡ nodes
  pub right : All (IsRightAt set) (places tree)
  pub closed : All (λ (node : Node). node ≢ Unclosed) nodes

-- The nodes are a tree that is right as far as it goes: each node is right, and one is unclosed.
pub record IsPartial (set : ClauseSet) (nodes : List Node) : Type 0 where
  pub tree : CaseTree
  pub listed : preorder tree ≡ nodes
  pub right : All (IsRightAt set) (places tree)
  pub open_node : Any (λ (node : Node). node ≡ Unclosed) nodes

-- The nodes are a tree, and the node at `at` is the first that isn't right.
pub record IsFirstWrong (set : ClauseSet) (nodes : List Node) (at : ℕ) : Type 0 where
  pub tree : CaseTree
  pub listed : preorder tree ≡ nodes
  pub right_before : All (IsRightAt set) (take at (places tree))
  pub wrong : IsSomeAnd (slice_get (places tree) at) (λ place. ¬ IsRightAt set place)
