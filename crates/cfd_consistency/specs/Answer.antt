-- What may be answered to the question whether the dependencies of a table are consistent.
use Rattle.std.specs.Prelude.{◌≡◌, ℕ, ◌<◌, ◌≤◌, ◌↔◌, Bool, List, length, All, IfSome}
use Rattle.case_tree.specs.CaseTree.{IsAllowed, IsPartial, Refutes, leaf_count}
use Rattle.case_search.specs.Enough.{enough_of}
use Rattle.rule_model.specs.Books.{Book}
use Rattle.schema_core.specs.Schemas.{table_place}
use Rattle.cell_values.specs.Readings.{HasAllowed}
use Rattle.cell_values.specs.Tuples.{answer_bytes}
use Rattle.cfd_consistency.specs.Consistent.{IsWitness, IsConsistent}
use Rattle.cfd_consistency.specs.Question.{question, stands_for}
use Rattle.cfd_consistency.specs.declared.decider.Consistency.{Consistency}
use Rattle.cfd_consistency.specs.declared.decider.Consistency.TheVariants.{Witness, Never, Spent}

-- The law of the question: some assignment is allowed exactly where the dependencies are consistent, and the tuple that an
-- allowed one stands for shows it.
pub record HasLaw (rules : Book) (table : ℕ) : Type 0 where
  pub exactly : HasAllowed (question rules table) ↔ IsConsistent rules table
  pub shown : (truth : ℕ → Bool) → IsAllowed (question rules table) truth → IsWitness rules table (stands_for rules table truth)

-- A tuple that shows it, of texts that aren't long. A tree that refutes the question, and then there is no such tuple. A
-- tree as far as it goes, with as many leaves as the budget, which is less than enough.
abbrev pub IsConsistencyAnswer : Book → ℕ → ℕ → Consistency → Type 0
IsConsistencyAnswer rules budget table (Witness tuple) = IsWitness rules table tuple × All (λ (text : List ℕ). length text ≤ answer_bytes) tuple
IsConsistencyAnswer rules budget table (Never tree) = Refutes (question rules table) tree × (leaf_count tree ≤ budget) × ¬ IsConsistent rules table
IsConsistencyAnswer rules budget table (Spent tree) = IsPartial (question rules table) tree × (leaf_count tree ≡ budget) × (budget < enough_of (question rules table).cells)

-- the answer is one for the table of that name
abbrev pub IsConsistencyAnswerFor : Book → List ℕ → ℕ → Consistency → Type 0
IsConsistencyAnswerFor rules name budget answer = IfSome (table_place rules.schema name) (λ table. IsConsistencyAnswer rules budget table answer)
