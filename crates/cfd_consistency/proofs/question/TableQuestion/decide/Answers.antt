use Rattle.std.proofs.Common.{◌≡◌, ℕ, ◌≤◌, Bool, false, length, sym, subst, ◌∙◌, ap, arith}
use Rattle.std.specs.Prelude.{All, slice_index_or}
use Rattle.case_tree.specs.CaseTree.{ClauseSet, IsAllowed, Refutes, var_count}
use Rattle.case_search.specs.Answer.{HasOneFree, IsDecision}
use Rattle.case_search.specs.declared.search.Found.TheVariants.{Model, Refuted}
use Rattle.cell_values.specs.declared.values.CellValues.{CellValues}
use Rattle.cell_values.specs.declared.which.TupleCount.TheVariants.{One}
use Rattle.cell_values.specs.Layout.{var_total}
use Rattle.cell_values.proofs.Tables.{attrs_valid}
use Rattle.cfd_consistency.specs.Question.{question, stands_for, table_values}
use Rattle.cfd_consistency.proofs.Questions.{constants_bound, law, none_if_refuted, question_one_free, question_vars, witness_short}
use Rattle.cfd_consistency.proofs.question.TableQuestion.decide.Goals as goal

pub decide-requires-clause-one_free : goal.decide-requires-clause-one_free
decide-requires-clause-one_free c =
    let made = c.self.invariant in
    subst (λ (set : ClauseSet). All (HasOneFree set) set.clauses) (sym made.asked) (question_one_free c.self.inside.rules.now made.book c.self.inside.table)

pub tuple_of-requires-clause-valid : goal.tuple_of-requires-clause-valid
tuple_of-requires-clause-valid c =
    rw c.attrs_at-attrs.ensures (rw c.schema.ensures.schema (attrs_valid c.self.inside.rules.now.schema c.self.inside.table c.self.invariant.book.schema))

pub tuple_of-requires-clause-constants : goal.tuple_of-requires-clause-constants
tuple_of-requires-clause-constants c =
    let made = c.self.invariant in
    subst (All (λ (cell : CellValues). cell.constants ≤ length cell.values)) (sym (c.as_slice-values.ensures ∙ made.valued)) (constants_bound c.self.inside.rules.now made.book c.self.inside.table)

pub tuple_of-requires-clause-told : goal.tuple_of-requires-clause-told
tuple_of-requires-clause-told c =
    let book = c.self.inside.rules.now in
    let table = c.self.inside.table in
    let set = c.self.inside.clauses in
    let made = c.self.invariant in
    let model : IsDecision set c.args.budget (Model c.in-Model.truth) = rw c.in-Model.is at c.in_ok-truth.ensures in
    let told : length c.deref.result.now ≡ var_count set.cells = ap length c.deref.ensures.value ∙ model.0 in
    let vars : var_count set.cells ≡ var_total One (table_values book table) = ap (λ (some : ClauseSet). var_count some.cells) made.asked ∙ question_vars book made.book table in
    let values : var_total One c.as_slice-values.result.now ≡ var_total One (table_values book table) = ap (var_total One) (c.as_slice-values.ensures ∙ made.valued) in
    omega arith

pub returns-in_ok-tuple-in-Model : goal.returns-in_ok-tuple-in-Model
returns-in_ok-tuple-in-Model c =
    let book = c.self.inside.rules.now in
    let table = c.self.inside.table in
    let set = c.self.inside.clauses in
    let made = c.self.invariant in
    let truth : ℕ → Bool = λ var. slice_index_or c.in-Model.truth.items var false in
    let model : IsDecision set c.args.budget (Model c.in-Model.truth) = rw c.in-Model.is at c.in_ok-truth.ensures in
    let allowed : IsAllowed (question book table) truth = subst (λ (some : ClauseSet). IsAllowed some truth) made.asked model.1 in
    let tuple-is : c.in_ok-tuple-in-Model.tuple ≡ stands_for book table truth =
    rw c.deref.ensures.value at (rw made.valued at (rw c.as_slice-values.ensures at (rw c.schema.ensures.schema at (rw c.attrs_at-attrs.ensures at c.in_ok-tuple-in-Model.ensures)))) in
    rw (← c.self.view_is) (rw tuple-is ((law book made.book table).shown truth allowed, witness_short book made.book table truth))

pub returns-in-Refuted : goal.returns-in-Refuted
returns-in-Refuted c =
    let book = c.self.inside.rules.now in
    let table = c.self.inside.table in
    let set = c.self.inside.clauses in
    let made = c.self.invariant in
    let found : IsDecision set c.args.budget (Refuted c.in-Refuted.tree) = rw c.in-Refuted.is at c.in_ok-truth.ensures in
    let refutes : Refutes (question book table) c.in-Refuted.tree = subst (λ (some : ClauseSet). Refutes some c.in-Refuted.tree) made.asked found.0 in
    rw (← c.self.view_is) (refutes, found.1, none_if_refuted book made.book table c.in-Refuted.tree refutes)
