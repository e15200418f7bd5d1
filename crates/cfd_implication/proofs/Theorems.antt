-- Two tuples from an allowed assignment, and no counterexample where there is none.
use Rattle.std.proofs.Common.{◌≡◌, ◌⊎◌, ℕ, ◌+◌, ◌<◌, Bool, true, ◌&&◌, List, [], ◌∷◌, ◌++◌, length, refl, sym, ap, ◌∙◌, subst, inl, inr, arith}
use Rattle.std.specs.Prelude.{Contains}
use Rattle.std.specs.List.{flat_map, All, AllByRecursion, range_with_len}
use Rattle.std.specs.Str.{bytes_eq}
use Rattle.std.proofs.lemmas.Bool.{cases_Bool, false≢true, and_parts, and_from}
use Rattle.std.proofs.lemmas.List.Elements.{All-contains, Contains-append_left, Contains-append_right, Contains-append_cases}
use Rattle.std.proofs.lemmas.List.Folds.{list_all-append}
use Rattle.std.proofs.lemmas.List.FromFn.{length-range_with_len, get_or-range_with_len}
use Rattle.cfd_semantics.proofs.Members.{contains-here, contains-there, contains_cases, contains_nothing}
use Rattle.cfd_semantics.specs.declared.dependency.TableauRow.{TableauRow}
use Rattle.cfd_semantics.specs.Pattern.{matches, all_match}
use Rattle.cfd_semantics.specs.Tuple.{same_values}
use Rattle.cfd_semantics.specs.Violation.{Sides}
use Rattle.cfd_semantics.specs.Satisfaction.{Satisfies}
use Rattle.case_tree.specs.declared.clauses.Literal.{Literal}
use Rattle.case_tree.specs.CaseTree.{IsAllowed, HasNoneAllowed}
use Rattle.schema_core.specs.Lookups.{attrs_at}
use Rattle.schema_core.specs.Schemas.{IsValidAttr}
use Rattle.schema_core.specs.declared.schema.Attr.{Attr}
use Rattle.schema_core.specs.declared.schema.Schema.{Schema}
use Rattle.rule_model.specs.declared.dep.Dep.{Dep}
use Rattle.rule_model.specs.Rules.{IsValidDep}
use Rattle.rule_model.specs.Satisfied.{SatisfyDep}
use Rattle.cell_values.specs.declared.which.Which.{Which}
use Rattle.cell_values.specs.declared.which.Which.TheVariants.{Only, First, Second}
use Rattle.cell_values.specs.declared.which.TupleCount.TheVariants.{Two}
use Rattle.cell_values.specs.declared.values.CellValues.{CellValues}
use Rattle.cell_values.specs.Layout.{equal_var, value_var}
use Rattle.cell_values.specs.Readings.{constant_of, HasAllowed, tuple_of}
use Rattle.cell_values.specs.Standing.{Agrees}
use Rattle.cell_values.specs.TableRules.{Rule, table_rules}
use Rattle.cell_values.specs.Tuples.{IsTupleOf}
use Rattle.cell_values.specs.Values.{occurring}
use Rattle.cell_values.proofs.Allowed.{has_one, has_some, Stands}
use Rattle.cell_values.proofs.Chosen.{Matched, equal_texts}
use Rattle.cell_values.proofs.Meaning.{is_constant, IsCovered}
use Rattle.cell_values.proofs.Occurs.{rises}
use Rattle.cell_values.proofs.OneTuple.{IsRuleOf}
use Rattle.cell_values.proofs.Order.{ArePair, IsWhichOf, Placed}
use Rattle.cell_values.proofs.Satisfied.{has_sides, list_same, same_list, same_text, sides_are, sides_in, text_same}
use Rattle.cell_values.proofs.Tables.{from_table, rule_of_dep}
use Rattle.cell_values.proofs.Texts.{agrees_read, chosen_is, covered_at, good_at, is_tuple, one_at, texts_fit}
use Rattle.cell_values.proofs.Told.{Tells, tells_by, told, truth_of, tuple_at}
use Rattle.cell_values.proofs.Truths.{all_by, all_contained, all_flat, all_of_true, all_true, clause_true, left_of, text_of, true_of_all}
use Rattle.cfd_implication.specs.Implied.{IsImplied, SatisfyTable}
use Rattle.cfd_implication.specs.Question.{agreeing_at, constant_clauses, rule_clauses, asked_clauses, clauses_of, question}
use Rattle.cfd_implication.proofs.Asked.{Breaks}
use Rattle.cfd_implication.proofs.Main.{three_there, three_back, three_agree, question_of, satisfied, clauses_hold, asked_holds, agreeing_hold, breaks_if_no_match, breaks_if_differ, keeps_if_both}
use Rattle.cfd_implication.proofs.TwoTuples.{satisfies_to}

ranged : (n place : ℕ) → place < n → Contains (range_with_len 0 n) place
ranged n place low = let size = length-range_with_len 0 n in (place, omega arith, get_or-range_with_len 0 n place place low ∙ omega arith)

-- one of two things at each element: the first at some element, or the second at all
each_or : {B : Type 0} {X : Type 0} (P : X → Type 0) (xs : List X) → ((x : X) → Contains xs x → B ⊎ P x) → B ⊎ ((x : X) → Contains xs x → P x)
each_or P [] each = inr (λ x there. absurd (contains_nothing x there))
each_or P (y ∷ ys) each = elim (each y (contains-here y ys)) [
  | inl some ↦ inl some
  | inr here ↦ elim (each_or P ys (λ x there. each x (contains-there x y ys there))) [
    | inl some ↦ inl some
    | inr rest ↦ inr (λ x there. elim (contains_cases x y ys there) [
      | inl same ↦ subst P same here
      | inr more ↦ rest x more
    ])
  ]
]

module _ (attrs : List Attr) (valid : AllByRecursion IsValidAttr attrs) (rules : List Rule) (asked : Rule) (each_rule : (rule : Rule) → Contains (rules ++ asked ∷ []) rule → IsRuleOf attrs rule) (one_row : length asked.rows ≡ 1) where
  abbrev cells : List CellValues
  cells = occurring attrs (rules ++ asked ∷ [])

  asked_in : Contains (rules ++ asked ∷ []) asked
  asked_in = Contains-append_right rules (asked ∷ []) asked (contains-here asked [])

  only_row : (rows : List (TableauRow (List ℕ))) (row other : TableauRow (List ℕ)) → length rows ≡ 1 → Contains rows row → Contains rows other → row ≡ other
  only_row [] row other one there other_there = absurd (omega arith)
  only_row (r ∷ []) row other one there other_there = elim (contains_cases row r [] there) [
    | inl here ↦ elim (contains_cases other r [] other_there) [
      | inl also ↦ sym here ∙ also
      | inr none ↦ absurd (contains_nothing other none)
    ]
    | inr none ↦ absurd (contains_nothing row none)
  ]
  only_row (r ∷ s ∷ rows) row other one there other_there = absurd (omega arith)

  covered_side : (one other : List (List ℕ)) → IsTupleOf attrs one → IsTupleOf attrs other → (c : CellValues) → Contains cells c → (which : Which) → IsWhichOf Two which → IsCovered c (text_of (tuple_at one other which) c.attr)
  covered_side one other one_tuple other_tuple c there Only is = absurd is
  covered_side one other one_tuple other_tuple c there First is = covered_at attrs valid (rules ++ asked ∷ []) one one_tuple c there
  covered_side one other one_tuple other_tuple c there Second is = covered_at attrs valid (rules ++ asked ∷ []) other other_tuple c there

  -- ---- from tuples

  module _ (tuples : List (List (List ℕ))) (are : All (IsTupleOf attrs) tuples) (satisfy : (rule : Rule) → Contains rules rule → Satisfies bytes_eq rule tuples) where
    -- two tuples that break a row, the one that breaks it alone put first
    allowed : (one other : List (List ℕ)) (row : TableauRow (List ℕ)) → Contains tuples one → Contains tuples other → Contains asked.rows row
        → left_of one asked.x ≡ left_of other asked.x → all_match bytes_eq row.x (left_of one asked.x) ≡ true → Breaks one other asked.a row.a ≡ true → HasAllowed (question_of attrs valid rules asked)
    allowed one other row one_there other_there row_there same match broken =
        let one_tuple = All-contains (IsTupleOf attrs) tuples one are one_there in
        let other_tuple = All-contains (IsTupleOf attrs) tuples other are other_there in
        let truth = truth_of one other Two cells in
        let tells = told one other Two cells in
        let stands : (c : CellValues) → Contains cells c → Stands Two one other c = λ c there. (good_at attrs valid (rules ++ asked ∷ []) c there, covered_side one other one_tuple other_tuple c there) in
        let a = flat_map (agreeing_at cells) cells in
        let b = flat_map (rule_clauses cells) rules in
        let c = flat_map (asked_clauses cells asked) asked.rows in
        let a_holds : all_true truth a ≡ true = agreeing_hold attrs valid rules asked truth one other one_tuple other_tuple tells each_rule (λ d t u place there low t_counts u_counts. sym (is_constant d t place low t_counts) ∙ is_constant d u place low u_counts) in
        let b_holds : all_true truth b ≡ true = clauses_hold attrs valid rules asked truth one other one_tuple other_tuple tells each_rule (λ rule there r r_there.
        satisfies_to rule tuples one other r (satisfy rule there) one_there other_there (has_sides attrs rule one (each_rule rule (Contains-append_left rules (asked ∷ []) rule there)) one_tuple) (has_sides attrs rule other (each_rule rule (Contains-append_left rules (asked ∷ []) rule there)) other_tuple) r_there) in
        let c_holds : all_true truth c ≡ true =
        all_flat (clause_true truth) (asked_clauses cells asked) asked.rows
        ∙ all_by (λ r. all_true truth (asked_clauses cells asked r)) asked.rows (λ r r_there.
        subst (λ z. all_true truth (asked_clauses cells asked z) ≡ true) (only_row asked.rows row r one_row row_there r_there)
        (asked_holds attrs valid rules asked truth one other one_tuple other_tuple tells each_rule row row_there
        ∙ and_from (same_values bytes_eq (left_of one asked.x) (left_of other asked.x) && all_match bytes_eq row.x (left_of one asked.x)) (Breaks one other asked.a row.a)
        (and_from (same_values bytes_eq (left_of one asked.x) (left_of other asked.x)) (all_match bytes_eq row.x (left_of one asked.x)) (list_same (left_of one asked.x) (left_of other asked.x) same) match) broken)) in (
          truth,
          record {
            at_most_one = has_one Two truth one other 0 cells (rises attrs (rules ++ asked ∷ [])) stands tells;
            one_demanded = has_some Two truth one other 0 cells (rises attrs (rules ++ asked ∷ [])) stands tells;
            clauses_true = all_of_true truth ((a ++ b) ++ c) (list_all-append (clause_true truth) (a ++ b) c ∙ and_from (all_true truth (a ++ b)) (all_true truth c) (list_all-append (clause_true truth) a b ∙ and_from (all_true truth a) (all_true truth b) a_holds b_holds) c_holds);
          },
        )

    -- what a row asks of two tuples that agree on the left and match it there
    abbrev Keeps : List (List ℕ) → List (List ℕ) → TableauRow (List ℕ) → Type 0
    Keeps t u row = (bytes_eq (text_of t asked.a) (text_of u asked.a) ≡ true) × (matches bytes_eq row.a (text_of t asked.a) ≡ true)

    abbrev Obeys : TableauRow (List ℕ) → List (List ℕ) → List (List ℕ) → Type 0
    Obeys row t u = same_values bytes_eq (left_of t asked.x) (left_of u asked.x) ≡ true → all_match bytes_eq row.x (left_of t asked.x) ≡ true → Keeps t u row

    abbrev Breakable : Type 0
    Breakable = HasAllowed (question_of attrs valid rules asked)

    asked_of : (t u : List (List ℕ)) (row : TableauRow (List ℕ)) → Contains tuples t → Contains tuples u → Contains asked.rows row → left_of t asked.x ≡ left_of u asked.x → all_match bytes_eq row.x (left_of t asked.x) ≡ true
        → Breakable ⊎ Keeps t u row
    asked_of t u row t_there u_there row_there same match =
        let match_other : all_match bytes_eq row.x (left_of u asked.x) ≡ true = ap (all_match bytes_eq row.x) (sym same) ∙ match in
        elim (cases_Bool (matches bytes_eq row.a (text_of t asked.a))) [
          | inr fails ↦ inl (allowed t u row t_there u_there row_there same match (breaks_if_no_match t u asked.a row.a fails))
          | inl left ↦ elim (cases_Bool (matches bytes_eq row.a (text_of u asked.a))) [
            | inr fails ↦ inl (allowed u t row u_there t_there row_there (sym same) match_other (breaks_if_no_match u t asked.a row.a fails))
            | inl right ↦ elim (cases_Bool (bytes_eq (text_of t asked.a) (text_of u asked.a))) [
              | inl equal ↦ inr (equal, left)
              | inr differ ↦ inl (allowed t u row t_there u_there row_there same match (breaks_if_differ t u asked.a row.a differ left right))
            ]
          ]
        ]

    pair_obeys : (row : TableauRow (List ℕ)) → Contains asked.rows row → (t : List (List ℕ)) → Contains tuples t → (u : List (List ℕ)) → Contains tuples u → Breakable ⊎ Obeys row t u
    pair_obeys row row_there t t_there u u_there = elim (cases_Bool (same_values bytes_eq (left_of t asked.x) (left_of u asked.x))) [
      | inr differ ↦ inr (λ same match. absurd (false≢true (sym differ ∙ same)))
      | inl same ↦ elim (cases_Bool (all_match bytes_eq row.x (left_of t asked.x))) [
        | inr fails ↦ inr (λ also match. absurd (false≢true (sym fails ∙ match)))
        | inl match ↦ elim (asked_of t u row t_there u_there row_there (same_list (left_of t asked.x) (left_of u asked.x) same) match) [
          | inl some ↦ inl some
          | inr keeps ↦ inr (λ also again. keeps)
        ]
      ]
    ]

    all_obey : Breakable ⊎ ((row : TableauRow (List ℕ)) → Contains asked.rows row → (t : List (List ℕ)) → Contains tuples t → (u : List (List ℕ)) → Contains tuples u → Obeys row t u)
    all_obey =
        each_or (λ row. (t : List (List ℕ)) → Contains tuples t → (u : List (List ℕ)) → Contains tuples u → Obeys row t u) asked.rows (λ row row_there.
        each_or (λ t. (u : List (List ℕ)) → Contains tuples u → Obeys row t u) tuples (λ t t_there.
        each_or (Obeys row t) tuples (pair_obeys row row_there t t_there)))

    -- some assignment is allowed, or the tuples satisfy the asked dependency
    pub allowed_or_satisfied : HasAllowed (question_of attrs valid rules asked) ⊎ Satisfies bytes_eq asked tuples
    allowed_or_satisfied = elim all_obey [
      | inl some ↦ inl some
      | inr obey ↦ inr (λ row t u first second there t_there u_there is_first is_second same match.
          let left = sides_are asked t first is_first in
          let right = sides_are asked u second is_second in
          let x_first : first.x ≡ left_of t asked.x = ap (λ (s : Sides (List ℕ)). s.x) left in
          let x_second : second.x ≡ left_of u asked.x = ap (λ (s : Sides (List ℕ)). s.x) right in
          let a_first : first.a ≡ text_of t asked.a = ap (λ (s : Sides (List ℕ)). s.a) left in
          let a_second : second.a ≡ text_of u asked.a = ap (λ (s : Sides (List ℕ)). s.a) right in
          let agree : left_of t asked.x ≡ left_of u asked.x = sym x_first ∙ same_list first.x second.x same ∙ x_second in
          let given = obey row there t t_there u u_there (list_same (left_of t asked.x) (left_of u asked.x) agree) (ap (all_match bytes_eq row.x) (sym x_first) ∙ match) in
          (text_same first.a second.a (a_first ∙ same_text (text_of t asked.a) (text_of u asked.a) given.0 ∙ sym a_second), ap (matches bytes_eq row.a) a_first ∙ given.1))
    ]

  -- ---- to tuples

  module _ (truth : ℕ → Bool) (allowed : IsAllowed (question_of attrs valid rules asked) truth) where
    abbrev one : List (List ℕ)
    one = tuple_of First attrs (occurring attrs (rules ++ asked ∷ [])) truth

    abbrev other : List (List ℕ)
    other = tuple_of Second attrs (occurring attrs (rules ++ asked ∷ [])) truth

    abbrev all_clauses : List (List Literal)
    all_clauses = clauses_of (occurring attrs (rules ++ asked ∷ [])) rules asked

    pub one_tuple : IsTupleOf attrs one
    one_tuple = is_tuple attrs valid (rules ++ asked ∷ []) truth Two all_clauses allowed First tt

    pub other_tuple : IsTupleOf attrs other
    other_tuple = is_tuple attrs valid (rules ++ asked ∷ []) truth Two all_clauses allowed Second tt

    parts : (all_true truth (flat_map (agreeing_at cells) cells) ≡ true) × (all_true truth (flat_map (rule_clauses cells) rules) ≡ true) × (all_true truth (flat_map (asked_clauses cells asked) asked.rows) ≡ true)
    parts =
        let a = flat_map (agreeing_at cells) cells in
        let b = flat_map (rule_clauses cells) rules in
        let c = flat_map (asked_clauses cells asked) asked.rows in
        let whole = sym (list_all-append (clause_true truth) (a ++ b) c) ∙ true_of_all truth ((a ++ b) ++ c) allowed.clauses_true in
        let outer = and_parts (all_true truth (a ++ b)) (all_true truth c) whole in
        let inner = and_parts (all_true truth a) (all_true truth b) (sym (list_all-append (clause_true truth) a b) ∙ outer.0) in
        (inner.0, inner.1, outer.1)

    matched : (c : CellValues) → Contains cells c → Matched truth (equal_var cells c.attr) (value_var First cells c.attr) (value_var Second cells c.attr) c
    matched c there =
        let at_c = all_contained (λ d. all_true truth (agreeing_at cells d)) cells (sym (all_flat (clause_true truth) (agreeing_at cells) cells) ∙ parts.0) c there in
        let at_place : (place : ℕ) → place < c.constants → all_true truth (constant_clauses cells c.attr place) ≡ true =
        λ place low. all_contained (λ p. all_true truth (constant_clauses cells c.attr p)) (range_with_len 0 c.constants) (sym (all_flat (clause_true truth) (constant_clauses cells c.attr) (range_with_len 0 c.constants)) ∙ at_c) place (ranged c.constants place low) in
        record {
          there = λ place low. three_there (truth (equal_var cells c.attr)) (truth (value_var First cells c.attr + place)) (truth (value_var Second cells c.attr + place)) (at_place place low);
          back = λ place low. three_back (truth (equal_var cells c.attr)) (truth (value_var First cells c.attr + place)) (truth (value_var Second cells c.attr + place)) (at_place place low);
          agree = λ place low. three_agree (truth (equal_var cells c.attr)) (truth (value_var First cells c.attr + place)) (truth (value_var Second cells c.attr + place)) (at_place place low);
        }

    equal_said : (c : CellValues) → Contains cells c → ArePair Two → truth (equal_var cells c.attr) ≡ bytes_eq (text_of one c.attr) (text_of other c.attr)
    equal_said c there pair =
        let first = value_var First cells c.attr in
        let second = value_var Second cells c.attr in
        equal_texts truth c (good_at attrs valid (rules ++ asked ∷ []) c there) (equal_var cells c.attr) first second (constant_of truth first c) (constant_of truth second c) (text_of one c.attr) (text_of other c.attr) (matched c there)
        (one_at attrs valid (rules ++ asked ∷ []) truth Two all_clauses allowed Second tt c there) (chosen_is truth first c) (chosen_is truth second c) (texts_fit attrs valid (rules ++ asked ∷ []) truth c there)

    agrees_side : (c : CellValues) → Contains cells c → (which : Which) → IsWhichOf Two which → Agrees truth (value_var which cells c.attr) c (text_of (tuple_at one other which) c.attr)
    agrees_side c there Only is = absurd is
    agrees_side c there First is = agrees_read attrs valid (rules ++ asked ∷ []) truth Two all_clauses allowed First tt c there
    agrees_side c there Second is = agrees_read attrs valid (rules ++ asked ∷ []) truth Two all_clauses allowed Second tt c there

    tells : Placed Two (Tells one other Two truth) 0 cells
    tells = tells_by one other Two truth 0 cells (rises attrs (rules ++ asked ∷ [])) equal_said agrees_side

    pub both_satisfy : (rule : Rule) → Contains rules rule → Satisfies bytes_eq rule (one ∷ other ∷ [])
    both_satisfy = satisfied attrs valid rules asked truth one other one_tuple other_tuple tells each_rule parts.1

    breaks_row : (row : TableauRow (List ℕ)) → Contains asked.rows row → Satisfies bytes_eq asked (one ∷ other ∷ []) → ⊥
    breaks_row row row_there satisfies =
        let holds = all_contained (λ r. all_true truth (asked_clauses cells asked r)) asked.rows (sym (all_flat (clause_true truth) (asked_clauses cells asked) asked.rows) ∙ parts.2) row row_there in
        let said = sym (asked_holds attrs valid rules asked truth one other one_tuple other_tuple tells each_rule row row_there) ∙ holds in
        let outer = and_parts (same_values bytes_eq (left_of one asked.x) (left_of other asked.x) && all_match bytes_eq row.x (left_of one asked.x)) (Breaks one other asked.a row.a) said in
        let inner = and_parts (same_values bytes_eq (left_of one asked.x) (left_of other asked.x)) (all_match bytes_eq row.x (left_of one asked.x)) outer.0 in
        let given = satisfies row one other (sides_in asked one) (sides_in asked other) row_there (contains-here one (other ∷ [])) (contains-there other one (other ∷ []) (contains-here other [])) (has_sides attrs asked one (each_rule asked asked_in) one_tuple) (has_sides attrs asked other (each_rule asked asked_in) other_tuple) inner.0 inner.1 in
        false≢true (sym (keeps_if_both one other asked.a row.a given.0 given.1) ∙ outer.1)

    some_row : (rows : List (TableauRow (List ℕ))) → length rows ≡ 1 → (row : TableauRow (List ℕ)) × Contains rows row
    some_row [] one_only = absurd (omega arith)
    some_row (r ∷ rows) one_only = (r, contains-here r rows)

    pub both_break : Satisfies bytes_eq asked (one ∷ other ∷ []) → ⊥
    both_break = breaks_row (some_row asked.rows one_row).0 (some_row asked.rows one_row).1

-- ---- over a schema

pub each_valid : (schema : Schema) (deps : List Dep) (dep : Dep) → All (IsValidDep schema) deps → IsValidDep schema dep → (rule : Rule) → Contains (table_rules dep.table deps ++ dep.rule ∷ []) rule → IsRuleOf (attrs_at schema dep.table) rule
each_valid schema deps dep valid dep_valid rule there = elim (Contains-append_cases (table_rules dep.table deps) (dep.rule ∷ []) rule there) [
  | inl of_table ↦ (
      let from = from_table dep.table deps rule of_table in
      subst (IsRuleOf (attrs_at schema dep.table)) from.is (rule_of_dep schema dep.table from.dep from.of_table (All-contains (IsValidDep schema) deps from.dep valid from.there)))
  | inr itself ↦ elim (contains_cases rule dep.rule [] itself) [
    | inl same ↦ subst (IsRuleOf (attrs_at schema dep.table)) same (rule_of_dep schema dep.table dep refl dep_valid)
    | inr none ↦ absurd (contains_nothing rule none)
  ]
]

-- some assignment of the question is allowed, or tuples that satisfy the dependencies of the table satisfy the asked one
pub allowed_or_implied : (schema : Schema) (deps : List Dep) (dep : Dep) → AllByRecursion IsValidAttr (attrs_at schema dep.table) → All (IsValidDep schema) deps → IsValidDep schema dep → length dep.rule.rows ≡ 1
    → (tuples : List (List (List ℕ))) → All (IsTupleOf (attrs_at schema dep.table)) tuples → SatisfyTable dep.table deps tuples → HasAllowed (question schema deps dep) ⊎ SatisfyDep dep tuples
unfolding question
allowed_or_implied schema deps dep attrs valid dep_valid one_row tuples are satisfy =
    allowed_or_satisfied (attrs_at schema dep.table) attrs (table_rules dep.table deps) dep.rule (each_valid schema deps dep valid dep_valid) one_row tuples are
    (λ rule there. let from = from_table dep.table deps rule there in subst (λ r. Satisfies bytes_eq r tuples) from.is (satisfy from.dep from.there from.of_table))

pub implied_if_none : (schema : Schema) (deps : List Dep) (dep : Dep) → AllByRecursion IsValidAttr (attrs_at schema dep.table) → All (IsValidDep schema) deps → IsValidDep schema dep → length dep.rule.rows ≡ 1 → HasNoneAllowed (question schema deps dep) → IsImplied schema deps dep
implied_if_none schema deps dep attrs valid dep_valid one_row none tuples are satisfy =
    elim (allowed_or_implied schema deps dep attrs valid dep_valid one_row tuples are satisfy) [
      | inl some ↦ absurd (none some.0 some.1)
      | inr satisfied ↦ satisfied
    ]
