-- What a search may do at a node.
use Rattle.std.specs.Prelude.{◌≡◌, ◌⊎◌, ℕ, ◌<◌, Bool, true, List, [], ◌∷◌, Some, None, IsSomeAnd, slice_get}
use Rattle.std.specs.List.{All, Any}
use Rattle.case_tree.specs.declared.clauses.Literal.{Literal}
use Rattle.case_tree.specs.declared.clauses.VarCell.{VarCell}
use Rattle.case_tree.specs.declared.tree.Reason.{Reason}
use Rattle.case_tree.specs.declared.tree.Reason.TheVariants.{Clause, Two, NoneOf}
use Rattle.case_tree.specs.CaseTree.{ClauseSet, Holds, IsIn, value_on, var_count}
use Rattle.case_search.specs.declared.step.Step.{Step}
use Rattle.case_search.specs.declared.step.Step.TheVariants.{Leaf, Split, Model}

-- No reason holds under the path.
abbrev pub NoReason : ClauseSet → List Literal → Type 0
NoReason set path = (reason : Reason) → Holds set path reason → ⊥

-- No reason holds at the parent.
abbrev pub QuietAbove : ClauseSet → List Literal → Type 0
QuietAbove set [] = Unit {0}
QuietAbove set (last ∷ above) = NoReason set above

-- The reason speaks of the variable.
abbrev pub Names : ClauseSet → ℕ → Reason → Type 0
Names set v (Clause at) = IsSomeAnd (slice_get set.clauses at) (Any (λ (literal : Literal). literal.var ≡ v))
Names set v (Two one other) = (one ≡ v) ⊎ (other ≡ v)
Names set v (NoneOf at) = IsSomeAnd (slice_get set.cells at) (λ cell. IsIn cell v)

-- Each reason that holds speaks of the variable.
abbrev pub QuietBut : ClauseSet → List Literal → ℕ → Type 0
QuietBut set path v = (reason : Reason) → Holds set path reason → Names set v reason

-- The variable is there and has no value.
abbrev pub IsOpen : ClauseSet → List Literal → ℕ → Type 0
IsOpen set path v = (v < var_count set.cells) × (value_on path v ≡ None)

-- Setting the variable, to true or to false, makes a reason hold at once.
abbrev pub IsForced : ClauseSet → List Literal → ℕ → Type 0
IsForced set path v =
    (positive : Bool) × (reason : Reason) × Holds set (record { var = v; positive = positive } ∷ path) reason

-- No variable without a value is forced.
abbrev pub NothingForced : ClauseSet → List Literal → Type 0
NothingForced set path = (literal : Literal) → IsOpen set path literal.var → NoReason set (literal ∷ path)

-- The cell has a true variable.
abbrev pub HasTrue : List Literal → VarCell → Type 0
HasTrue path cell = (v : ℕ) × IsIn cell v × (value_on path v ≡ Some true)

-- The variable is of a demanded cell with no true variable.
abbrev pub IsWanted : ClauseSet → List Literal → ℕ → Type 0
IsWanted set path v = Any (λ (cell : VarCell). (cell.demanded ≡ true) × IsIn cell v × ¬ HasTrue path cell) set.cells

-- Each demanded cell has a true variable.
abbrev pub IsAllChosen : ClauseSet → List Literal → Type 0
IsAllChosen set path = All (λ (cell : VarCell). cell.demanded ≡ true → HasTrue path cell) set.cells

-- A leaf's reason holds. A split comes where no reason holds, on a variable without a value that is forced or wanted.
-- Where nothing is forced or wanted there is a model.
abbrev pub IsStep : ClauseSet → List Literal → Step → Type 0
IsStep set path (Leaf reason) = Holds set path reason
IsStep set path (Split v) =
    NoReason set path × IsOpen set path v × (IsForced set path v ⊎ IsWanted set path v)
IsStep set path Model = NoReason set path × NothingForced set path × IsAllChosen set path
