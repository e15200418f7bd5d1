use Rattle.std.proofs.Common.{◌≡◌, ℕ, ◌<◌, ◌≤◌, Bool, false, List, length, sym, ap, ◌∙◌, subst, arith}
use Rattle.std.specs.Prelude.{All, slice_index_or}
use Rattle.schema_core.specs.declared.schema.Schema.{Schema}
use Rattle.case_tree.specs.CaseTree.{ClauseSet, IsAllowed, IsPartial, Refutes, leaf_count, var_count}
use Rattle.case_tree.specs.declared.tree.Node.{Node}
use Rattle.case_tree.proofs.Soundness.{sound}
use Rattle.case_search.specs.Answer.{HasOneFree, IsDecision}
use Rattle.case_search.specs.Enough.{enough_of}
use Rattle.rule_model.specs.declared.dep.Dep.{Dep}
use Rattle.cell_values.specs.declared.values.CellValues.{CellValues}
use Rattle.cell_values.specs.declared.which.Which.{Which}
use Rattle.cell_values.specs.declared.which.Which.TheVariants.{First, Second}
use Rattle.cell_values.specs.declared.which.TupleCount.TheVariants.{Two}
use Rattle.cell_values.specs.Layout.{var_total}
use Rattle.cell_values.proofs.Tables.{attrs_each}
use Rattle.cfd_implication.specs.Implied.{IsCounter, IsImplied}
use Rattle.cfd_implication.specs.Question.{AskedDep, IsMadeFor, asked_values, question, stands_for}
use Rattle.cfd_implication.proofs.Questions.{counter, question_one_free, question_vars}
use Rattle.cfd_implication.proofs.Theorems.{implied_if_none}
use Rattle.cfd_implication.proofs.question.DepQuestion.decide.Goals as goal

-- what a question is made for, where what it shows is what is asked
made_for : (shown asked : AskedDep) (values : List CellValues) (clauses : ClauseSet) → shown ≡ asked
    → IsMadeFor shown.schema shown.deps shown.dep values clauses → IsMadeFor asked.schema asked.deps asked.dep values clauses
made_for shown asked values clauses same made = subst (λ (q : AskedDep). IsMadeFor q.schema q.deps q.dep values clauses) same made

module _ (schema : Schema) (deps : List Dep) (dep : Dep) where
  -- a tuple is read off a slice of the truth values
  stands : (which : Which) (truth bits : List Bool) (tuple : List (List ℕ)) → bits ≡ truth
      → tuple ≡ stands_for which schema deps dep (λ v. slice_index_or bits v false)
      → tuple ≡ stands_for which schema deps dep (λ v. slice_index_or truth v false)
  stands which truth bits tuple same is =
      is ∙ ap (λ (b : List Bool). stands_for which schema deps dep (λ v. slice_index_or b v false)) same

  module _ (values : List CellValues) (clauses : ClauseSet) (made : IsMadeFor schema deps dep values clauses) where
    one_free : All (HasOneFree clauses) clauses.clauses
    one_free =
        subst (λ (set : ClauseSet). All (HasOneFree set) set.clauses) (sym made.asked)
        (question_one_free schema deps dep made.typed made.deps_valid made.dep_valid)

    -- the truth values of a model are as many as the variables of the values
    told : (truth bits : List Bool) → length truth ≡ var_count clauses.cells → bits ≡ truth
        → var_total Two (asked_values schema deps dep) ≤ length bits
    told truth bits as_many same =
        omega (
          arith,
          as_many,
          ap (λ (b : List Bool). length b) same,
          ap (λ (set : ClauseSet). var_count set.cells) made.asked,
          question_vars schema deps dep made.typed made.deps_valid made.dep_valid,
        )

    shows : length dep.rule.rows ≡ 1 → (truth : List Bool) (one other : List (List ℕ))
        → IsAllowed clauses (λ v. slice_index_or truth v false)
        → one ≡ stands_for First schema deps dep (λ v. slice_index_or truth v false)
        → other ≡ stands_for Second schema deps dep (λ v. slice_index_or truth v false)
        → IsCounter schema deps dep one other
    shows row truth one other allowed one-is other-is =
        let value : ℕ → Bool = λ v. slice_index_or truth v false in
        let holds = subst (λ (set : ClauseSet). IsAllowed set value) made.asked allowed in
        let found = counter schema deps dep made.typed made.deps_valid made.dep_valid row value holds in
        subst (λ (t : List (List ℕ)). IsCounter schema deps dep t other) (sym one-is)
        (subst (λ (t : List (List ℕ)). IsCounter schema deps dep (stands_for First schema deps dep value) t) (sym other-is) found)

    refuted : length dep.rule.rows ≡ 1 → (tree : List Node) (budget : ℕ) → Refutes clauses tree × (leaf_count tree ≤ budget)
        → Refutes (question schema deps dep) tree × (leaf_count tree ≤ budget) × IsImplied schema deps dep
    refuted row tree budget answer =
        let refutes = subst (λ (set : ClauseSet). Refutes set tree) made.asked answer.0 in
        let none = sound (question schema deps dep) tree refutes in
        let attrs_good = attrs_each schema dep.table made.typed in
        (refutes, answer.1, implied_if_none schema deps dep attrs_good made.deps_valid made.dep_valid row none)

    spent : (tree : List Node) (budget : ℕ) → IsPartial clauses tree × (leaf_count tree ≡ budget) × (budget < enough_of clauses.cells)
        → IsPartial (question schema deps dep) tree × (leaf_count tree ≡ budget) × (budget < enough_of (question schema deps dep).cells)
    spent tree budget answer =
        subst (λ (set : ClauseSet). IsPartial set tree × (leaf_count tree ≡ budget) × (budget < enough_of set.cells)) made.asked answer

pub decide-requires-clause-one_free : goal.decide-requires-clause-one_free
decide-requires-clause-one_free c =
    one_free c.self.inside.schema.now c.self.inside.deps.now c.self.inside.dep.now _ _ c.self.invariant

pub tuple-requires : goal.tuple-requires
tuple-requires c =
    let asked = c.args.self.now in
    let made = made_for _ asked _ _ c.self.view_is c.self.invariant in
    let answer = subst (IsDecision c.self.inside.clauses c.args.budget) c.in-Model.is c.in_ok-truth.ensures in
    told asked.schema asked.deps asked.dep _ _ made c.in-Model.truth.items _ answer.0 c.deref.ensures.value

pub tuple-requires-in-Model : goal.tuple-requires-in-Model
tuple-requires-in-Model c =
    let asked = c.args.self.now in
    let made = made_for _ asked _ _ c.self.view_is c.self.invariant in
    let answer = subst (IsDecision c.self.inside.clauses c.args.budget) c.in-Model.is c.in_ok-truth.ensures in
    told asked.schema asked.deps asked.dep _ _ made c.in-Model.truth.items _ answer.0 c.deref-in-Model.ensures.value

pub returns-in_ok-other-in-Model : goal.returns-in_ok-other-in-Model
returns-in_ok-other-in-Model c =
    let asked = c.args.self.now in
    let made = made_for _ asked _ _ c.self.view_is c.self.invariant in
    let truth = c.in-Model.truth.items in
    let answer = subst (IsDecision c.self.inside.clauses c.args.budget) c.in-Model.is c.in_ok-truth.ensures in
    shows asked.schema asked.deps asked.dep _ _ made c.requires.row truth _ _ answer.1
    (stands asked.schema asked.deps asked.dep First truth _ _ c.deref.ensures.value c.in_ok-one-in-Model.ensures)
    (stands asked.schema asked.deps asked.dep Second truth _ _ c.deref-in-Model.ensures.value c.in_ok-other-in-Model.ensures)

pub returns-in-Refuted : goal.returns-in-Refuted
returns-in-Refuted c =
    let asked = c.args.self.now in
    let made = made_for _ asked _ _ c.self.view_is c.self.invariant in
    let answer = subst (IsDecision c.self.inside.clauses c.args.budget) c.in-Refuted.is c.in_ok-truth.ensures in
    refuted asked.schema asked.deps asked.dep _ _ made c.requires.row c.in-Refuted.tree c.args.budget answer

pub returns-in-Spent : goal.returns-in-Spent
returns-in-Spent c =
    let asked = c.args.self.now in
    let made = made_for _ asked _ _ c.self.view_is c.self.invariant in
    let answer = subst (IsDecision c.self.inside.clauses c.args.budget) c.in-Spent.is c.in_ok-truth.ensures in
    spent asked.schema asked.deps asked.dep _ _ made c.in-Spent.tree c.args.budget answer
