-- An assignment is allowed exactly where the dependencies are consistent.
use Rattle.std.proofs.Common.{inl, inr, ◌≡◌, ℕ, ◌<◌, Bool, true, false, List, [], ◌∷◌, length, refl, sym, ap, ◌∙◌}
use Rattle.std.specs.Prelude.{not, ◌||◌, Contains, filter}
use Rattle.std.specs.List.{All, AllByRecursion, Any, flat_map}
use Rattle.std.specs.Str.{bytes_eq}
use Rattle.std.proofs.lemmas.Bool.{cases_Bool, false≢true}
use Rattle.std.proofs.lemmas.List.Elements.{All-contains}
use Rattle.cfd_semantics.proofs.Members.{contains-here, contains-map}
use Rattle.cfd_semantics.proofs.SetFacts.{contains-filter, contains_from_filter}
use Rattle.cfd_semantics.specs.declared.pattern.Pattern.{Pattern}
use Rattle.cfd_semantics.specs.declared.pattern.Pattern.TheVariants as patterns
use Rattle.cfd_semantics.specs.declared.dependency.TableauRow.{TableauRow}
use Rattle.cfd_semantics.specs.Pattern.{matches, all_match}
use Rattle.cfd_semantics.specs.Satisfaction.{Satisfies}
use Rattle.schema_core.specs.Lookups.{domain_at}
use Rattle.schema_core.specs.Schemas.{IsValidAttr}
use Rattle.schema_core.specs.declared.schema.Attr.{Attr}
use Rattle.case_tree.specs.declared.clauses.Literal.{Literal}
use Rattle.case_tree.specs.CaseTree.{IsAllowed, IsTrueUnder}
use Rattle.cell_values.specs.declared.which.Which.{Which}
use Rattle.cell_values.specs.declared.which.Which.TheVariants.{Only, First, Second}
use Rattle.cell_values.specs.declared.which.TupleCount.TheVariants.{One}
use Rattle.cell_values.specs.declared.values.CellValues.{CellValues}
use Rattle.cell_values.specs.Layout.{value_var}
use Rattle.cell_values.specs.Readings.{tuple_of}
use Rattle.cell_values.specs.RowClauses.{alone}
use Rattle.cell_values.specs.Standing.{Agrees}
use Rattle.cell_values.specs.TableRules.{Rule, occurs}
use Rattle.cell_values.specs.Tuples.{IsTupleOf}
use Rattle.cell_values.specs.Values.{cell_values, occurring}
use Rattle.cell_values.proofs.Allowed.{has_one, has_some, Stands}
use Rattle.cell_values.proofs.Free.{alone_good, Good}
use Rattle.cell_values.proofs.Lists.{all_flat_map, all_map}
use Rattle.cell_values.proofs.Meaning.{IsCovered}
use Rattle.cell_values.proofs.Occurs.{occurring_has, rises}
use Rattle.cell_values.proofs.OneTuple.{IsRuleOf, left_said, MeetsCell, right_said, wide_here}
use Rattle.cell_values.proofs.Order.{IsWhichOf, Placed}
use Rattle.cell_values.proofs.Satisfied.{has_sides, Holds, holds_if_satisfied, implied, implies, one_satisfies}
use Rattle.cell_values.proofs.Texts.{agrees_read, covered_at, good_at, is_tuple}
use Rattle.cell_values.proofs.Told.{agrees_told, Tells, told, truth_of, tuple_at}
use Rattle.cell_values.proofs.Truths.{alone_is, any_of_clause, clause_of_any, clause_true, left_of, Meets, text_of}
use Rattle.cell_values.proofs.ValueFacts.{Contains-flat_map}
use Rattle.cfd_consistency.specs.Question.{asks, rule_clauses, table_question}

asking_is_some : (cell : Pattern (List ℕ)) → asks cell ≡ true → ¬ (cell ≡ patterns.Any)
asking_is_some cell asking same = false≢true (sym (ap asks same) ∙ asking)

matched_if_silent : (cell : Pattern (List ℕ)) (text : List ℕ) → asks cell ≡ false → matches bytes_eq cell text ≡ true
matched_if_silent patterns.Any text silent = refl
matched_if_silent (patterns.Is constant) text silent = absurd cc
matched_if_silent (patterns.In members) text silent = absurd cc
matched_if_silent (patterns.NotIn members) text silent = absurd cc

meets_if_asks : (truth : ℕ → Bool) (cells : List CellValues) (tuple : List (List ℕ)) (attr : ℕ) (cell : Pattern (List ℕ)) → asks cell ≡ true → MeetsCell truth cells Only tuple attr cell → Meets truth cells Only tuple (attr, cell)
meets_if_asks truth cells tuple attr patterns.Any asking meets = absurd cc
meets_if_asks truth cells tuple attr (patterns.Is constant) asking meets = meets
meets_if_asks truth cells tuple attr (patterns.In members) asking meets = meets
meets_if_asks truth cells tuple attr (patterns.NotIn members) asking meets = meets

module _ (attrs : List Attr) (valid : AllByRecursion IsValidAttr attrs) (rules : List Rule) (each_rule : (rule : Rule) → Contains rules rule → IsRuleOf attrs rule) where
  abbrev cells : List CellValues
  cells = occurring attrs rules

  abbrev clauses : List (List Literal)
  clauses = flat_map (rule_clauses (occurring attrs rules)) rules

  -- what holds of the clause of each row that asks something holds of all clauses
  each_clause : (P : List Literal → Type 0) → ((rule : Rule) → Contains rules rule → (row : TableauRow (List ℕ)) → Contains rule.rows row → asks row.a ≡ true → P (alone cells Only rule row)) → All P clauses
  each_clause P each = all_flat_map P (rule_clauses cells) rules (λ rule there.
      all_map P (alone cells Only rule) (filter (λ (row : TableauRow (List ℕ)). asks row.a) rule.rows) (λ row listed.
      let (row_there, asking) = contains_from_filter (λ (r : TableauRow (List ℕ)). asks r.a) rule.rows row listed in
      each rule there row row_there asking))

  -- the search may be asked
  pub all_good : All (Good One attrs valid rules (flat_map (rule_clauses (occurring attrs rules)) rules)) (flat_map (rule_clauses (occurring attrs rules)) rules)
  all_good = each_clause (Good One attrs valid rules clauses) (λ rule there row row_there asking. alone_good One attrs valid rules clauses Only tt rule row (each_rule rule there) there row_there (asking_is_some row.a asking))

  -- ---- a tuple whose values the variables say

  module _ (tuple : List (List ℕ)) (typed : IsTupleOf attrs tuple) (truth : ℕ → Bool) (agrees : (c : CellValues) → Contains cells c → Agrees truth (value_var Only cells c.attr) c (text_of tuple c.attr)) where
    agrees_at : (attr : ℕ) → attr < length attrs → occurs rules attr ≡ true → Agrees truth (value_var Only cells attr) (cell_values rules attr (domain_at attrs attr)) (text_of tuple attr)
    agrees_at attr within there = agrees (cell_values rules attr (domain_at attrs attr)) (occurring_has attrs rules attr within there)

    -- a clause is true exactly where the tuple satisfies the row
    clause_is : (rule : Rule) → Contains rules rule → (row : TableauRow (List ℕ)) → Contains rule.rows row → asks row.a ≡ true
        → clause_true truth (alone cells Only rule row) ≡ (not (all_match bytes_eq row.x (left_of tuple rule.x)) || matches bytes_eq row.a (text_of tuple rule.a))
    clause_is rule there row row_there asking =
        alone_is truth cells Only tuple rule row (wide_here attrs rules rule row (each_rule rule there) there row_there)
        (left_said attrs valid rules tuple typed truth Only agrees_at rule row (each_rule rule there) there row_there)
        (meets_if_asks truth cells tuple rule.a row.a asking (right_said attrs valid rules tuple typed truth Only agrees_at rule row (each_rule rule there) there row_there))

    true_if_holds : (rule : Rule) (there : Contains rules rule) (row : TableauRow (List ℕ)) (row_there : Contains rule.rows row) (asking : asks row.a ≡ true) → Holds tuple rule row → Any (IsTrueUnder truth) (alone cells Only rule row)
    true_if_holds rule there row row_there asking holds =
        any_of_clause truth (alone cells Only rule row) (clause_is rule there row row_there asking ∙ implies (all_match bytes_eq row.x (left_of tuple rule.x)) (matches bytes_eq row.a (text_of tuple rule.a)) holds)

    holds_if_true : (rule : Rule) (there : Contains rules rule) (row : TableauRow (List ℕ)) (row_there : Contains rule.rows row) (asking : asks row.a ≡ true) → Any (IsTrueUnder truth) (alone cells Only rule row) → Holds tuple rule row
    holds_if_true rule there row row_there asking any =
        implied (all_match bytes_eq row.x (left_of tuple rule.x)) (matches bytes_eq row.a (text_of tuple rule.a)) (sym (clause_is rule there row row_there asking) ∙ clause_of_any truth (alone cells Only rule row) any)

  -- ---- a tuple that satisfies the rules gives an allowed assignment

  module _ (tuple : List (List ℕ)) (typed : IsTupleOf attrs tuple) (satisfied : (rule : Rule) → Contains rules rule → Satisfies bytes_eq rule (tuple ∷ [])) where
    pub truth_by : ℕ → Bool
    truth_by = truth_of tuple tuple One cells

    told_by : Placed One (Tells tuple tuple One truth_by) 0 cells
    unfolding truth_by
    told_by = told tuple tuple One cells

    covered : (c : CellValues) → Contains cells c → (which : Which) → IsWhichOf One which → IsCovered c (text_of (tuple_at tuple tuple which) c.attr)
    covered c there Only is = covered_at attrs valid rules tuple typed c there
    covered c there First is = absurd is
    covered c there Second is = absurd is

    pub allowed_of : IsAllowed (table_question attrs rules) truth_by
    allowed_of =
        let stands : (c : CellValues) → Contains cells c → Stands One tuple tuple c = λ c there. (good_at attrs valid rules c there, covered c there) in
        let agrees : (c : CellValues) → Contains cells c → Agrees truth_by (value_var Only cells c.attr) c (text_of tuple c.attr) = λ c there. agrees_told tuple tuple One truth_by 0 cells (rises attrs rules) told_by c there Only tt in
        record {
          at_most_one = has_one One truth_by tuple tuple 0 cells (rises attrs rules) stands told_by;
          one_demanded = has_some One truth_by tuple tuple 0 cells (rises attrs rules) stands told_by;
          clauses_true = each_clause (Any (IsTrueUnder truth_by)) (λ rule there row row_there asking.
              true_if_holds tuple typed truth_by agrees rule there row row_there asking
              (holds_if_satisfied rule (tuple ∷ []) tuple row (satisfied rule there) (contains-here tuple []) (has_sides attrs rule tuple (each_rule rule there) typed) row_there));
        }

  -- ---- an allowed assignment gives a tuple that satisfies the rules

  module _ (truth : ℕ → Bool) (allowed : IsAllowed (table_question attrs rules) truth) where
    pub tuple_typed : IsTupleOf attrs (tuple_of Only attrs (occurring attrs rules) truth)
    tuple_typed = is_tuple attrs valid rules truth One clauses allowed Only tt

    row_held : (rule : Rule) → Contains rules rule → (row : TableauRow (List ℕ)) → Contains rule.rows row → Holds (tuple_of Only attrs (occurring attrs rules) truth) rule row
    row_held rule there row row_there = elim (cases_Bool (asks row.a)) [
      | inr silent ↦ λ match. matched_if_silent row.a (text_of (tuple_of Only attrs (occurring attrs rules) truth) rule.a) silent
      | inl asking ↦ (
          let clause = alone cells Only rule row in
          let listed : Contains clauses clause = Contains-flat_map (rule_clauses cells) rules rule clause there (contains-map (alone cells Only rule) (filter (λ (r : TableauRow (List ℕ)). asks r.a) rule.rows) row (contains-filter (λ (r : TableauRow (List ℕ)). asks r.a) rule.rows row row_there asking)) in
          holds_if_true (tuple_of Only attrs (occurring attrs rules) truth) tuple_typed truth (agrees_read attrs valid rules truth One clauses allowed Only tt) rule there row row_there asking
          (All-contains (Any (IsTrueUnder truth)) clauses clause allowed.clauses_true listed))
    ]

    pub tuple_satisfies : (rule : Rule) → Contains rules rule → Satisfies bytes_eq rule (tuple_of Only attrs (occurring attrs rules) truth ∷ [])
    tuple_satisfies rule there = one_satisfies rule (tuple_of Only attrs (occurring attrs rules) truth) (row_held rule there)
