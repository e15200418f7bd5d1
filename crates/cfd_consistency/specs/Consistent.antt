-- When the dependencies of a table are consistent: some tuple, alone, satisfies all of them.
-- After Fan and Geerts, Foundations of Data Quality Management (2012), the consistency of CFDs.
use Rattle.std.specs.Prelude.{◌≡◌, ℕ, List, [], ◌∷◌, Contains}
use Rattle.schema_core.specs.Lookups.{attrs_at}
use Rattle.rule_model.specs.declared.dep.Dep.{Dep}
use Rattle.rule_model.specs.Satisfied.{SatisfyDep}
use Rattle.rule_model.specs.Books.{Book, book_deps}
use Rattle.cell_values.specs.Tuples.{IsTupleOf}

-- a tuple of the table that, as the only row, satisfies each dependency of the table
pub record IsWitness (rules : Book) (table : ℕ) (tuple : List (List ℕ)) : Type 0 where
  pub typed : IsTupleOf (attrs_at rules.schema table) tuple
  pub satisfies : (dep : Dep) → Contains (book_deps rules) dep → dep.table ≡ table → SatisfyDep dep (tuple ∷ [])

-- there is such a tuple
abbrev pub IsConsistent : Book → ℕ → Type 0
IsConsistent rules table = (tuple : List (List ℕ)) × IsWitness rules table tuple
