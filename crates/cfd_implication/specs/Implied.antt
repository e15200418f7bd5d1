-- When the dependencies of a table imply a dependency over it, said of tuples alone.
use Rattle.std.specs.Prelude.{◌≡◌, ◌≤◌, ℕ, List, [], ◌∷◌, length, All, Contains}
use Rattle.schema_core.specs.Lookups.{attrs_at}
use Rattle.schema_core.specs.declared.schema.Schema.{Schema}
use Rattle.rule_model.specs.declared.dep.Dep.{Dep}
use Rattle.rule_model.specs.Satisfied.{SatisfyDep}
use Rattle.cell_values.specs.Tuples.{IsTupleOf, answer_bytes}

-- tuples of the table satisfy each of its dependencies
abbrev pub SatisfyTable : ℕ → List Dep → List (List (List ℕ)) → Type 0
SatisfyTable table deps tuples = (dep : Dep) → Contains deps dep → dep.table ≡ table → SatisfyDep dep tuples

-- Every finite list of tuples of the dependency's table that satisfies the dependencies of that table satisfies it too.
abbrev pub IsImplied : Schema → List Dep → Dep → Type 0
IsImplied schema deps dep =
    (tuples : List (List (List ℕ))) → All (IsTupleOf (attrs_at schema dep.table)) tuples → SatisfyTable dep.table deps tuples → SatisfyDep dep tuples

-- It is not: some finite list of tuples of that table satisfies those dependencies and not this one.
abbrev pub IsNotImplied : Schema → List Dep → Dep → Type 0
IsNotImplied schema deps dep =
    (tuples : List (List (List ℕ))) × All (IsTupleOf (attrs_at schema dep.table)) tuples × SatisfyTable dep.table deps tuples × (¬ SatisfyDep dep tuples)

-- Two tuples of the table that satisfy its dependencies and not this one, of short texts.
pub record IsCounter (schema : Schema) (deps : List Dep) (dep : Dep) (one other : List (List ℕ)) : Type 0 where
  pub one_tuple : IsTupleOf (attrs_at schema dep.table) one
  pub other_tuple : IsTupleOf (attrs_at schema dep.table) other
  pub satisfy : SatisfyTable dep.table deps (one ∷ other ∷ [])
  pub breaks : ¬ SatisfyDep dep (one ∷ other ∷ [])
  pub one_short : All (λ (text : List ℕ). length text ≤ answer_bytes) one
  pub other_short : All (λ (text : List ℕ). length text ≤ answer_bytes) other
