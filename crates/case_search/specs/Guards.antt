-- Each clause is guarded by a literal of its own that isn't false, so that a clause can become false only where its guard
-- does.
use Rattle.std.specs.Prelude.{◌≡◌, ◌⊎◌, ℕ, ◌<◌, List, [], ◌∷◌, Some, length, slice_get}
use Rattle.std.specs.List.{Contains}
use Rattle.case_tree.specs.declared.clauses.Literal.{Literal}
use Rattle.case_tree.specs.CaseTree.{ClauseSet, IsFalseOn}
use Rattle.case_search.specs.declared.step.Step.{Step}
use Rattle.case_search.specs.declared.step.Step.TheVariants.{Leaf, Split, Model}

-- Each clause that isn't empty has a literal that isn't false under the path and whose list has the clause.
pub record IsGuarded (set : ClauseSet) (lists : Literal → List ℕ) (path : List Literal) : Type 0 where
  pub guard : (at : ℕ) (clause : List Literal) → slice_get set.clauses at ≡ Some clause → 0 < length clause → (literal : Literal) × Contains clause literal × (IsFalseOn path literal → ⊥) × Contains (lists literal) at

-- The same, but a clause may also be in the list of the literal `gone`.
pub record IsGuardedBut (set : ClauseSet) (lists : Literal → List ℕ) (path : List Literal) (gone : Literal) : Type 0 where
  pub guard : (at : ℕ) (clause : List Literal) → slice_get set.clauses at ≡ Some clause → 0 < length clause → (literal : Literal) × Contains clause literal × ((IsFalseOn path literal → ⊥) ⊎ (literal ≡ gone)) × Contains (lists literal) at

-- The path of the parent.
abbrev pub parent : List Literal → List Literal
parent [] = []
parent (last ∷ above) = above

-- A leaf leaves the clauses guarded at its parent, and a split at its own path.
abbrev pub IsReady : ClauseSet → (Literal → List ℕ) → List Literal → Step → Type 0
IsReady set lists path (Leaf reason) = IsGuarded set lists (parent path)
IsReady set lists path (Split v) = IsGuarded set lists path
IsReady set lists path Model = Unit {0}
