-- The question has an allowed assignment exactly where two tuples satisfy the rules and not the asked dependency.
use Rattle.std.proofs.Common.{◌≡◌, ℕ, ◌+◌, ◌<◌, Bool, true, false, not, ◌&&◌, ◌||◌, List, [], ◌∷◌, ◌++◌, length, refl, sym, ap, ◌∙◌, subst, arith}
use Rattle.std.specs.Prelude.{Contains}
use Rattle.std.specs.List.{flat_map, list_all, range_with_len, AllByRecursion}
use Rattle.std.specs.Str.{bytes_eq}
use Rattle.std.proofs.lemmas.Bool.{false≢true, or_left, or_right}
use Rattle.std.proofs.lemmas.List.Elements.{Contains-append_left, Contains-append_right}
use Rattle.std.proofs.lemmas.List.FromFn.{length-range_with_len, get_or-range_with_len}
use Rattle.cfd_semantics.proofs.Members.{contains-here}
use Rattle.cfd_semantics.specs.declared.pattern.Pattern.{Pattern}
use Rattle.cfd_semantics.specs.declared.pattern.Pattern.TheVariants as patterns
use Rattle.cfd_semantics.specs.declared.dependency.TableauRow.{TableauRow}
use Rattle.cfd_semantics.specs.Pattern.{matches, all_match}
use Rattle.cfd_semantics.specs.Tuple.{same_values}
use Rattle.cfd_semantics.specs.Satisfaction.{Satisfies}
use Rattle.case_tree.specs.CaseTree.{ClauseSet}
use Rattle.schema_core.specs.Schemas.{IsValidAttr}
use Rattle.schema_core.specs.declared.schema.Attr.{Attr}
use Rattle.cell_values.specs.declared.which.Which.TheVariants.{First, Second}
use Rattle.cell_values.specs.declared.which.TupleCount.TheVariants.{Two}
use Rattle.cell_values.specs.declared.values.CellValues.{CellValues}
use Rattle.cell_values.specs.Layout.{equal_var, value_var, var_cells}
use Rattle.cell_values.specs.Standing.{counts_as}
use Rattle.cell_values.specs.TableRules.{Rule}
use Rattle.cell_values.specs.Tuples.{IsTupleOf}
use Rattle.cell_values.specs.Values.{occurring}
use Rattle.cell_values.proofs.Occurs.{rises}
use Rattle.cell_values.proofs.OneTuple.{IsRuleOf}
use Rattle.cell_values.proofs.Order.{Placed}
use Rattle.cell_values.proofs.Satisfied.{same_text, text_same}
use Rattle.cell_values.proofs.Texts.{good_at}
use Rattle.cell_values.proofs.Told.{agrees_told, equal_told, Tells}
use Rattle.cell_values.proofs.Truths.{all_by, all_contained, all_flat, all_true, clause_true, left_of, text_of}
use Rattle.cfd_implication.specs.Question.{constant_clauses, agreeing_at, rule_clauses, row_clauses, asked_clauses, clauses_of}
use Rattle.cfd_implication.proofs.Asked.{Breaks, asked_is}
use Rattle.cfd_implication.proofs.Heard.{hears, hears_asked}
use Rattle.cfd_implication.proofs.TwoTuples.{RowHolds, row_from_clauses, clauses_from_row, satisfies_from}

-- ---- the three clauses of a constant

abbrev pub three : Bool → Bool → Bool → Bool
three e p q = (not e || (not p || (q || false))) && ((not e || (not q || (p || false))) && ((not p || (not q || (e || false))) && true))

three_true : (e p q : Bool) → (e ≡ true → p ≡ true → q ≡ true) → (e ≡ true → q ≡ true → p ≡ true) → (p ≡ true → q ≡ true → e ≡ true) → three e p q ≡ true
three_true true true true f g h = refl
three_true true true false f g h = f refl refl
three_true true false true f g h = g refl refl
three_true true false false f g h = refl
three_true false true true f g h = h refl refl
three_true false true false f g h = refl
three_true false false true f g h = refl
three_true false false false f g h = refl

pub three_there : (e p q : Bool) → three e p q ≡ true → e ≡ true → p ≡ true → q ≡ true
three_there true true true holds a b = refl
three_there true true false holds a b = holds
three_there true false q holds a b = absurd cc
three_there false p q holds a b = absurd cc

pub three_back : (e p q : Bool) → three e p q ≡ true → e ≡ true → q ≡ true → p ≡ true
three_back true true true holds a b = refl
three_back true false true holds a b = holds
three_back true p false holds a b = absurd cc
three_back false p q holds a b = absurd cc

pub three_agree : (e p q : Bool) → three e p q ≡ true → p ≡ true → q ≡ true → e ≡ true
three_agree true p q holds a b = refl
three_agree false true true holds a b = holds
three_agree false false q holds a b = absurd cc
three_agree false true false holds a b = absurd cc

-- ---- over the attributes of a table

module _ (attrs : List Attr) (valid : AllByRecursion IsValidAttr attrs) (rules : List Rule) (asked : Rule) where
  abbrev pub every : List Rule
  every = rules ++ asked ∷ []

  abbrev pub cells : List CellValues
  cells = occurring attrs (rules ++ asked ∷ [])

  abbrev pub question_of : ClauseSet
  question_of = record { cells = var_cells Two 0 cells; clauses = clauses_of cells rules asked }

  module _ (truth : ℕ → Bool) (one other : List (List ℕ)) (one_tuple : IsTupleOf attrs one) (other_tuple : IsTupleOf attrs other) (tells : Placed Two (Tells one other Two truth) 0 cells)
      (each_rule : (rule : Rule) → Contains every rule → IsRuleOf attrs rule) where
    in_every : (rule : Rule) → Contains rules rule → Contains every rule
    in_every rule there = Contains-append_left rules (asked ∷ []) rule there

    asked_in : Contains every asked
    asked_in = Contains-append_right rules (asked ∷ []) asked (contains-here asked [])

    rule_is : (rule : Rule) → all_true truth (rule_clauses cells rule) ≡ list_all (λ row. all_true truth (row_clauses cells rule row)) rule.rows
    rule_is rule = all_flat (clause_true truth) (row_clauses cells rule) rule.rows

    -- where the clauses of rules are true, the tuples satisfy them
    pub satisfied : all_true truth (flat_map (rule_clauses cells) rules) ≡ true → (rule : Rule) → Contains rules rule → Satisfies bytes_eq rule (one ∷ other ∷ [])
    satisfied holds rule there =
        let rule_holds = all_contained (λ r. all_true truth (rule_clauses cells r)) rules (sym (all_flat (clause_true truth) (rule_clauses cells) rules) ∙ holds) rule there in
        satisfies_from rule one other (λ row row_there.
        row_from_clauses truth cells one other rule row row.a refl (hears attrs valid every one other one_tuple other_tuple truth tells rule row (each_rule rule (in_every rule there)) (in_every rule there) row_there)
        (all_contained (λ r. all_true truth (row_clauses cells rule r)) rule.rows (sym (rule_is rule) ∙ rule_holds) row row_there))

    -- and the other way round
    pub clauses_hold : ((rule : Rule) → Contains rules rule → (row : TableauRow (List ℕ)) → Contains rule.rows row → RowHolds one other rule row) → all_true truth (flat_map (rule_clauses cells) rules) ≡ true
    clauses_hold holds =
        all_flat (clause_true truth) (rule_clauses cells) rules
        ∙ all_by (λ r. all_true truth (rule_clauses cells r)) rules (λ rule there.
        rule_is rule ∙ all_by (λ r. all_true truth (row_clauses cells rule r)) rule.rows (λ row row_there.
        clauses_from_row truth cells one other rule row row.a refl (hears attrs valid every one other one_tuple other_tuple truth tells rule row (each_rule rule (in_every rule there)) (in_every rule there) row_there) (holds rule there row row_there)))

    pub asked_holds : (row : TableauRow (List ℕ)) → Contains asked.rows row
        → all_true truth (asked_clauses cells asked row)
        ≡ ((same_values bytes_eq (left_of one asked.x) (left_of other asked.x) && all_match bytes_eq row.x (left_of one asked.x)) && Breaks one other asked.a row.a)
    asked_holds row row_there = asked_is truth cells one other asked row (hears_asked attrs valid every one other one_tuple other_tuple truth tells asked row (each_rule asked asked_in) asked_in row_there)

    -- tuples that agree both have a constant or neither has it
    same_counts : (c : CellValues) (t u : List ℕ) (place : ℕ) → bytes_eq t u ≡ true → counts_as c t place ≡ true → counts_as c u place ≡ true
    same_counts c t u place same counts = subst (λ z. counts_as c z place ≡ true) (same_text t u same) counts

    pub agreeing_hold : ((c : CellValues) (t u : List ℕ) (place : ℕ) → Contains cells c → place < c.constants → counts_as c t place ≡ true → counts_as c u place ≡ true → t ≡ u) → all_true truth (flat_map (agreeing_at cells) cells) ≡ true
    agreeing_hold constant_same =
        all_flat (clause_true truth) (agreeing_at cells) cells
        ∙ all_by (λ c. all_true truth (agreeing_at cells c)) cells (λ c there.
        all_flat (clause_true truth) (constant_clauses cells c.attr) (range_with_len 0 c.constants)
        ∙ all_by (λ place. all_true truth (constant_clauses cells c.attr place)) (range_with_len 0 c.constants) (λ place ranged.
        let size = length-range_with_len 0 c.constants in
        let (k, k_in, k_is) = ranged in
        let at : 0 + k ≡ place = sym (get_or-range_with_len 0 c.constants k place (omega arith)) ∙ k_is in
        let good = good_at attrs valid every c there in
        let bound = good.bound in
        let low : place < c.constants = omega arith in
        let within : place < length c.values = omega arith in
        let t = text_of one c.attr in
        let u = text_of other c.attr in
        let e_is = equal_told one other Two truth 0 cells (rises attrs every) tells c there tt in
        let p_is = agrees_told one other Two truth 0 cells (rises attrs every) tells c there First tt place within in
        let q_is = agrees_told one other Two truth 0 cells (rises attrs every) tells c there Second tt place within in
        three_true (truth (equal_var cells c.attr)) (truth (value_var First cells c.attr + place)) (truth (value_var Second cells c.attr + place))
        (λ e p. q_is ∙ same_counts c t u place (sym e_is ∙ e) (sym p_is ∙ p))
        (λ e q. p_is ∙ same_counts c u t place (text_same u t (sym (same_text t u (sym e_is ∙ e)))) (sym q_is ∙ q))
        (λ p q. e_is ∙ text_same t u (constant_same c t u place there low (sym p_is ∙ p) (sym q_is ∙ q)))))

-- ---- breaking

pub breaks_if_no_match : (one other : List (List ℕ)) (attr : ℕ) (p : Pattern (List ℕ)) → matches bytes_eq p (text_of one attr) ≡ false → Breaks one other attr p ≡ true
breaks_if_no_match one other attr patterns.Any fails = absurd cc
breaks_if_no_match one other attr (patterns.Is constant) fails = ap not fails
breaks_if_no_match one other attr (patterns.In members) fails = or_right (not (bytes_eq (text_of one attr) (text_of other attr))) (not (matches bytes_eq (patterns.In members) (text_of one attr))) (ap not fails)
breaks_if_no_match one other attr (patterns.NotIn members) fails = or_right (not (bytes_eq (text_of one attr) (text_of other attr))) (not (matches bytes_eq (patterns.NotIn members) (text_of one attr))) (ap not fails)

pub breaks_if_differ : (one other : List (List ℕ)) (attr : ℕ) (p : Pattern (List ℕ)) → bytes_eq (text_of one attr) (text_of other attr) ≡ false → matches bytes_eq p (text_of one attr) ≡ true → matches bytes_eq p (text_of other attr) ≡ true → Breaks one other attr p ≡ true
breaks_if_differ one other attr patterns.Any fails left right = ap not fails
breaks_if_differ one other attr (patterns.Is constant) fails left right =
    absurd (false≢true (sym fails ∙ text_same (text_of one attr) (text_of other attr) (sym (same_text constant (text_of one attr) left) ∙ same_text constant (text_of other attr) right)))
breaks_if_differ one other attr (patterns.In members) fails left right = or_left (not (bytes_eq (text_of one attr) (text_of other attr))) (not (matches bytes_eq (patterns.In members) (text_of one attr))) (ap not fails)
breaks_if_differ one other attr (patterns.NotIn members) fails left right = or_left (not (bytes_eq (text_of one attr) (text_of other attr))) (not (matches bytes_eq (patterns.NotIn members) (text_of one attr))) (ap not fails)

-- two tuples that agree on the right and match there don't break it
pub keeps_if_both : (one other : List (List ℕ)) (attr : ℕ) (p : Pattern (List ℕ)) → bytes_eq (text_of one attr) (text_of other attr) ≡ true → matches bytes_eq p (text_of one attr) ≡ true → Breaks one other attr p ≡ false
keeps_if_both one other attr patterns.Any same match = ap not same
keeps_if_both one other attr (patterns.Is constant) same match = ap not match
keeps_if_both one other attr (patterns.In members) same match = rw (same, match) refl
keeps_if_both one other attr (patterns.NotIn members) same match = rw (same, match) refl
