-- What a decider of implication may answer.
use Rattle.std.specs.Prelude.{◌≡◌, ℕ, ◌<◌, ◌≤◌, ◌↔◌, Bool, List}
use Rattle.schema_core.specs.declared.schema.Schema.{Schema}
use Rattle.case_tree.specs.CaseTree.{IsAllowed, IsPartial, Refutes, leaf_count}
use Rattle.case_search.specs.Enough.{enough_of}
use Rattle.rule_model.specs.declared.dep.Dep.{Dep}
use Rattle.cell_values.specs.Readings.{HasAllowed}
use Rattle.cell_values.specs.declared.which.Which.TheVariants.{First, Second}
use Rattle.cfd_implication.specs.Implied.{IsCounter, IsImplied, IsNotImplied}
use Rattle.cfd_implication.specs.Question.{question, stands_for}
use Rattle.cfd_implication.specs.declared.answer.Implication.{Implication}
use Rattle.cfd_implication.specs.declared.answer.Implication.TheVariants.{Counter, Implied, Spent}

-- The law of the question: some assignment is allowed exactly where the dependency isn't implied, and the two tuples that
-- an allowed one stands for show it.
pub record HasLaw (schema : Schema) (deps : List Dep) (dep : Dep) : Type 0 where
  pub exactly : HasAllowed (question schema deps dep) ↔ IsNotImplied schema deps dep
  pub shown : (truth : ℕ → Bool) → IsAllowed (question schema deps dep) truth → IsCounter schema deps dep (stands_for First schema deps dep truth) (stands_for Second schema deps dep truth)

-- Two tuples that show that it isn't implied; a tree that refutes the question, and it is implied; or a tree that is right
-- as far as it goes, with as many leaves as the budget, which is less than enough.
abbrev pub IsImplicationAnswer : Schema → List Dep → Dep → ℕ → Implication → Type 0
IsImplicationAnswer schema deps dep budget (Counter one other) = IsCounter schema deps dep one other
IsImplicationAnswer schema deps dep budget (Implied tree) = Refutes (question schema deps dep) tree × (leaf_count tree ≤ budget) × IsImplied schema deps dep
IsImplicationAnswer schema deps dep budget (Spent tree) =
    IsPartial (question schema deps dep) tree × (leaf_count tree ≡ budget) × (budget < enough_of (question schema deps dep).cells)
