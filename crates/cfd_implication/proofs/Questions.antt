-- The question over a schema.
use Rattle.std.proofs.Common.{◌≡◌, ℕ, ◌≤◌, Bool, List, [], ◌∷◌, ◌++◌, length, get_or, inl, inr, ap, arith}
use Rattle.std.specs.List.{All}
use Rattle.std.proofs.lemmas.List.Elements.{All-from_recursion, Contains-get_or}
use Rattle.case_tree.specs.CaseTree.{IsAllowed, IsWellFormed, var_count}
use Rattle.case_search.specs.Answer.{HasOneFree}
use Rattle.schema_core.specs.Lookups.{attrs_at}
use Rattle.schema_core.specs.Schemas.{IsValidSchema}
use Rattle.schema_core.specs.declared.schema.Schema.{Schema}
use Rattle.rule_model.specs.declared.dep.Dep.{Dep}
use Rattle.rule_model.specs.Rules.{IsValidDep}
use Rattle.cell_values.specs.declared.values.CellValues.{CellValues}
use Rattle.cell_values.specs.TableRules.{table_rules, rules_with}
use Rattle.cell_values.specs.Tuples.{IsTupleOf}
use Rattle.cell_values.specs.Values.{AreFew, occurring, values_for}
use Rattle.cell_values.specs.declared.which.Which.TheVariants.{First, Second}
use Rattle.cell_values.specs.declared.which.TupleCount.TheVariants.{Two}
use Rattle.cell_values.specs.Layout.{var_total}
use Rattle.cell_values.proofs.Bounds.{cells_count}
use Rattle.cell_values.proofs.Free.{all_one_free, well_formed}
use Rattle.cell_values.proofs.Occurs.{rises}
use Rattle.cell_values.proofs.Order.{values_at}
use Rattle.cell_values.proofs.Tables.{attrs_each, in_table}
use Rattle.cell_values.proofs.Texts.{constants_bound as bounds, is_short}
use Rattle.cfd_implication.specs.Answers.{HasLaw}
use Rattle.cfd_implication.specs.Implied.{IsCounter, IsNotImplied}
use Rattle.cfd_implication.specs.Question.{asked_values, clauses_of, question, stands_for}
use Rattle.cfd_implication.proofs.Theorems.{allowed_or_implied, each_valid, both_satisfy, both_break, one_tuple, other_tuple}
use Rattle.cfd_implication.proofs.WellFormed.{all_good}

module _ (schema : Schema) (deps : List Dep) (dep : Dep) (valid : IsValidSchema schema) (deps_valid : All (IsValidDep schema) deps) (dep_valid : IsValidDep schema dep) where
  pub question_well_formed : AreFew (asked_values schema deps dep) → IsWellFormed (question schema deps dep)
  unfolding question
  question_well_formed few =
      let attrs = attrs_at schema dep.table in
      let attrs_good = attrs_each schema dep.table valid in
      let rules = table_rules dep.table deps in
      well_formed Two attrs attrs_good (rules ++ dep.rule ∷ []) (clauses_of (occurring attrs (rules ++ dep.rule ∷ [])) rules dep.rule) few (all_good attrs attrs_good rules dep.rule (each_valid schema deps dep deps_valid dep_valid))

  pub question_one_free : All (HasOneFree (question schema deps dep)) (question schema deps dep).clauses
  unfolding question
  question_one_free =
      let attrs = attrs_at schema dep.table in
      let attrs_good = attrs_each schema dep.table valid in
      let rules = table_rules dep.table deps in
      all_one_free Two attrs attrs_good (rules ++ dep.rule ∷ []) (clauses_of (occurring attrs (rules ++ dep.rule ∷ [])) rules dep.rule) (all_good attrs attrs_good rules dep.rule (each_valid schema deps dep deps_valid dep_valid))

  pub question_vars : var_count (question schema deps dep).cells ≡ var_total Two (asked_values schema deps dep)
  unfolding question
  question_vars = cells_count Two 0 (asked_values schema deps dep)

  pub constants_bound : All (λ (cell : CellValues). cell.constants ≤ length cell.values) (asked_values schema deps dep)
  constants_bound = bounds (attrs_at schema dep.table) (attrs_each schema dep.table valid) (rules_with dep.table deps (dep ∷ []))

  pub constants_room : All (λ (cell : CellValues). cell.constants ≤ length (values_for (asked_values schema deps dep) cell.attr)) (asked_values schema deps dep)
  constants_room k d within =
      let cells = asked_values schema deps dep in
      let c : CellValues = get_or cells k d in
      let here = ap (λ (vs : List (List ℕ)). length vs) (values_at 0 cells c (rises (attrs_at schema dep.table) (rules_with dep.table deps (dep ∷ []))) (Contains-get_or cells k d within)) in
      let bound : c.constants ≤ length c.values = constants_bound k d within in
      omega arith

  pub counter : length dep.rule.rows ≡ 1 → (truth : ℕ → Bool) → IsAllowed (question schema deps dep) truth → IsCounter schema deps dep (stands_for First schema deps dep truth) (stands_for Second schema deps dep truth)
  unfolding question
  counter one_row truth allowed =
      let attrs = attrs_at schema dep.table in
      let attrs_good = attrs_each schema dep.table valid in
      let rules = table_rules dep.table deps in
      let each = each_valid schema deps dep deps_valid dep_valid in
      record {
        one_tuple = one_tuple attrs attrs_good rules dep.rule each one_row truth allowed;
        other_tuple = other_tuple attrs attrs_good rules dep.rule each one_row truth allowed;
        satisfy = λ d there same. both_satisfy attrs attrs_good rules dep.rule each one_row truth allowed d.rule (in_table dep.table deps d there same);
        breaks = both_break attrs attrs_good rules dep.rule each one_row truth allowed;
        one_short = is_short attrs attrs_good (rules ++ dep.rule ∷ []) truth each First;
        other_short = is_short attrs attrs_good (rules ++ dep.rule ∷ []) truth each Second;
      }

  tuples_of : (one other : List (List ℕ)) → IsCounter schema deps dep one other → IsNotImplied schema deps dep
  tuples_of one other shows = (
    one ∷ other ∷ [],
    All-from_recursion (IsTupleOf (attrs_at schema dep.table)) (one ∷ other ∷ []) (shows.one_tuple, (shows.other_tuple, tt)),
    shows.satisfy,
    shows.breaks,
  )

  pub law : length dep.rule.rows ≡ 1 → HasLaw schema deps dep
  law one_row = record {
    exactly = (
      λ some. tuples_of (stands_for First schema deps dep some.0) (stands_for Second schema deps dep some.0) (counter one_row some.0 some.1),
      λ not. elim (allowed_or_implied schema deps dep (attrs_each schema dep.table valid) deps_valid dep_valid one_row not.0 not.1 not.2) [
        | inl some ↦ some
        | inr satisfied ↦ absurd (not.3 satisfied)
      ],
    );
    shown = counter one_row;
  }
