use Rattle.std.proofs.Common.{◌≡◌, ◌≤◌, List, length, refl, sym, ◌∙◌, subst}
use Rattle.std.specs.Prelude.{All}
use Rattle.schema_core.specs.declared.schema.Schema.{Schema}
use Rattle.case_tree.specs.CaseTree.{ClauseSet, IsWellFormed}
use Rattle.case_tree.specs.declared.clauses.Literal.{Literal}
use Rattle.case_tree.specs.declared.clauses.VarCell.{VarCell}
use Rattle.rule_model.specs.declared.dep.Dep.{Dep}
use Rattle.cell_values.specs.declared.values.CellValues.{CellValues}
use Rattle.cell_values.specs.declared.which.TupleCount.TheVariants.{Two}
use Rattle.cell_values.specs.Layout.{var_cells}
use Rattle.cell_values.specs.TableRules.{table_rules}
use Rattle.cell_values.specs.Values.{AreFew, values_for}
use Rattle.cfd_implication.specs.Question.{asked_values, clauses_of, question}
use Rattle.cfd_implication.proofs.Questions.{constants_room, question_well_formed}
use Rattle.cfd_implication.proofs.question.DepQuestion.new.Goals as goal

pub clauses_of-requires-clause-constants : goal.clauses_of-requires-clause-constants
clauses_of-requires-clause-constants c =
    subst (λ (cells : List CellValues). All (λ (cell : CellValues). cell.constants ≤ length (values_for cells cell.attr)) cells)
    (sym (c.as_slice-2.ensures ∙ c.in_ok-values.ensures.values))
    (constants_room c.args.schema.now c.args.deps.now c.args.dep.now c.requires.schema c.requires.deps c.requires.dep)

abbrev set_of : List VarCell → List (List Literal) → ClauseSet
set_of vars clauses = record { cells = vars; clauses = clauses }

-- the variables and the clauses are made of slices of the values
made : (schema : Schema) (deps : List Dep) (dep : Dep) (values one other : List CellValues) (vars : List VarCell) (clauses : List (List Literal))
    → values ≡ asked_values schema deps dep
    → one ≡ values → vars ≡ var_cells Two 0 one
    → other ≡ values → clauses ≡ clauses_of other (table_rules dep.table deps) dep.rule
    → set_of vars clauses ≡ question schema deps dep
unfolding question
made schema deps dep values one other vars clauses values-are one-is vars-are other-is clauses-are =
    rw (vars-are, clauses-are, one-is, other-is, values-are) refl

pub new-requires : goal.new-requires
new-requires c =
    let schema = c.args.schema.now in
    let deps = c.args.deps.now in
    let dep = c.args.dep.now in
    let values = c.in_ok-values.ensures in
    let set-is = made schema deps dep _ _ _ _ _ values.values c.as_slice.ensures c.in_ok-vars.ensures c.as_slice-2.ensures c.in_ok-clauses.ensures in
    let few = subst AreFew values.values values.few in
    subst IsWellFormed (sym set-is) (question_well_formed schema deps dep c.requires.schema c.requires.deps c.requires.dep few)

pub invariant_of-result : goal.invariant_of-result
invariant_of-result c =
    let schema = c.args.schema.now in
    let deps = c.args.deps.now in
    let dep = c.args.dep.now in
    let values = c.in_ok-values.ensures in
    let set-is = made schema deps dep _ _ _ _ _ values.values c.as_slice.ensures c.in_ok-vars.ensures c.as_slice-2.ensures c.in_ok-clauses.ensures in
    record {
      typed = c.requires.schema;
      deps_valid = c.requires.deps;
      dep_valid = c.requires.dep;
      valued = values.values;
      few = values.few;
      asked = c.new.ensures ∙ set-is;
    }
