-- What the search may answer.
use Rattle.std.specs.Prelude.{◌≡◌, ℕ, ◌<◌, ◌≤◌, true, false, List, length, slice_index_or}
use Rattle.std.specs.List.{Any, Contains}
use Rattle.case_tree.specs.declared.clauses.Literal.{Literal}
use Rattle.case_tree.specs.declared.clauses.VarCell.{VarCell}
use Rattle.case_tree.specs.CaseTree.{ClauseSet, IsAllowed, IsIn, IsPartial, Refutes, leaf_count, var_count}
use Rattle.case_search.specs.Enough.{enough_of}
use Rattle.case_search.specs.declared.search.Found.{Found}
use Rattle.case_search.specs.declared.search.Found.TheVariants.{Model, Refuted, Spent}

-- The variable lies in a cell that isn't demanded.
abbrev pub IsFree : ClauseSet → ℕ → Type 0
IsFree set v = Any (λ (cell : VarCell). (cell.demanded ≡ false) × IsIn cell v) set.cells

-- The literals of a clause that are positive and whose variables lie in cells that aren't demanded have one variable.
abbrev pub HasOneFree : ClauseSet → List Literal → Type 0
HasOneFree set clause =
    (one other : Literal) → Contains clause one → Contains clause other → one.positive ≡ true → other.positive ≡ true → IsFree set one.var → IsFree set other.var → one.var ≡ other.var

-- A model is an allowed assignment. A refuted tree refutes the clauses, within the budget of leaves. A spent tree is
-- right as far as it goes, has as many leaves as the budget, and the budget is less than enough.
abbrev pub IsDecision : ClauseSet → ℕ → Found → Type 0
IsDecision set budget (Model values) =
    (length values.items ≡ var_count set.cells) × IsAllowed set (λ v. slice_index_or values.items v false)
IsDecision set budget (Refuted tree) = Refutes set tree × (leaf_count tree ≤ budget)
IsDecision set budget (Spent tree) = IsPartial set tree × (leaf_count tree ≡ budget) × (budget < enough_of set.cells)
