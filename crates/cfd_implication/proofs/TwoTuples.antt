-- What the clauses of the rows of a dependency say of two tuples, and when two tuples satisfy it.
use Rattle.std.proofs.Common.{◌≡◌, ◌⊎◌, ℕ, Bool, true, false, List, [], ◌∷◌, ◌++◌, length, Some, refl, sym, ap, ◌∙◌, subst, inl, inr}
use Rattle.std.specs.Prelude.{not, ◌&&◌, ◌||◌, zip, Contains}
use Rattle.std.specs.List.{AllByRecursion}
use Rattle.std.specs.Str.{bytes_eq}
use Rattle.std.proofs.lemmas.Bool.{and_parts}
use Rattle.std.proofs.lemmas.List.Folds.{list_any-append}
use Rattle.cfd_semantics.specs.declared.pattern.Pattern.{Pattern}
use Rattle.cfd_semantics.specs.declared.pattern.Pattern.TheVariants.{Any, Is, In, NotIn}
use Rattle.cfd_semantics.specs.declared.dependency.TableauRow.{TableauRow}
use Rattle.cfd_semantics.specs.Pattern.{matches, all_match}
use Rattle.cfd_semantics.specs.Tuple.{same_values}
use Rattle.cfd_semantics.specs.Violation.{Sides, sides_of}
use Rattle.cfd_semantics.specs.Satisfaction.{Satisfies}
use Rattle.cfd_semantics.proofs.Members.{contains_cases, contains_nothing}
use Rattle.cell_values.specs.declared.which.Which.TheVariants.{First, Second}
use Rattle.cell_values.specs.declared.values.CellValues.{CellValues}
use Rattle.cell_values.specs.Layout.{equal_var}
use Rattle.cell_values.specs.RowClauses.{alone, misses_left, yes}
use Rattle.cell_values.specs.TableRules.{Rule}
use Rattle.cell_values.proofs.OneTuple.{MeetsCell}
use Rattle.cell_values.proofs.Satisfied.{Holds, holds_if_satisfied, implied, implies, list_same, same_list, same_text, sides_are, sides_in, text_same}
use Rattle.cell_values.proofs.Truths.{alone_is, all_true, clause_true, left_of, lit_true, Meets, Misses, misses_left_is, not_and, or_false, text_of}
use Rattle.cfd_implication.specs.Question.{clauses_for, differ_on, together}

-- ---- tests

pub implied_twice : (a b c : Bool) → ((not a || not b) || c) ≡ true → a ≡ true → b ≡ true → c ≡ true
implied_twice true true c e first second = e
implied_twice true false c e first second = absurd cc
implied_twice false b c e first second = absurd cc

pub implies_twice : (a b c : Bool) → (a ≡ true → b ≡ true → c ≡ true) → ((not a || not b) || c) ≡ true
implies_twice true true c f = f refl refl
implies_twice true false c f = refl
implies_twice false b c f = refl

-- ---- clauses that speak of both

module _ (truth : ℕ → Bool) (cells : List CellValues) where
  -- the variable of an attribute says whether the tuples agree on it
  abbrev pub Equates : List (List ℕ) → List (List ℕ) → ℕ → Type 0
  Equates one other attr = truth (equal_var cells attr) ≡ bytes_eq (text_of one attr) (text_of other attr)

  pub differ_is : (one other : List (List ℕ)) (xs : List ℕ) → AllByRecursion (Equates one other) xs → clause_true truth (differ_on cells xs) ≡ not (same_values bytes_eq (left_of one xs) (left_of other xs))
  differ_is one other [] says = refl
  differ_is one other (x ∷ xs) says =
      ap (λ b. not b || clause_true truth (differ_on cells xs)) says.0
      ∙ ap (λ b. not (bytes_eq (text_of one x) (text_of other x)) || b) (differ_is one other xs says.1)
      ∙ sym (not_and (bytes_eq (text_of one x) (text_of other x)) (same_values bytes_eq (left_of one xs) (left_of other xs)))

  pub together_is : (one other : List (List ℕ)) (rule : Rule) (row : TableauRow (List ℕ)) → length rule.x ≡ length row.x → AllByRecursion (Equates one other) rule.x → AllByRecursion (Misses truth cells First one) (zip rule.x row.x) → Equates one other rule.a
      → clause_true truth (together cells rule row)
      ≡ ((not (same_values bytes_eq (left_of one rule.x) (left_of other rule.x)) || not (all_match bytes_eq row.x (left_of one rule.x))) || bytes_eq (text_of one rule.a) (text_of other rule.a))
  together_is one other rule row same equal left right =
      let last = yes (equal_var cells rule.a) ∷ [] in
      list_any-append (lit_true truth) (differ_on cells rule.x ++ misses_left cells First rule row) last
      ∙ ap (λ b. b || (truth (equal_var cells rule.a) || false)) (list_any-append (lit_true truth) (differ_on cells rule.x) (misses_left cells First rule row)
      ∙ ap (λ b. b || clause_true truth (misses_left cells First rule row)) (differ_is one other rule.x equal)
      ∙ ap (λ b. not (same_values bytes_eq (left_of one rule.x) (left_of other rule.x)) || b) (misses_left_is truth cells First one rule.x row.x same left))
      ∙ ap (λ b. (not (same_values bytes_eq (left_of one rule.x) (left_of other rule.x)) || not (all_match bytes_eq row.x (left_of one rule.x))) || b) (or_false (truth (equal_var cells rule.a)) ∙ right)

-- ---- a row

-- what a tableau row asks of two tuples
pub record RowHolds (one other : List (List ℕ)) (rule : Rule) (row : TableauRow (List ℕ)) : Type 0 where
  pub first : Holds one rule row
  pub second : Holds other rule row
  pub both : left_of one rule.x ≡ left_of other rule.x → all_match bytes_eq row.x (left_of one rule.x) ≡ true → text_of one rule.a ≡ text_of other rule.a

module _ (truth : ℕ → Bool) (cells : List CellValues) (one other : List (List ℕ)) where
  -- the variables of the row's attributes say what the tuples are there
  pub record Hears (rule : Rule) (row : TableauRow (List ℕ)) : Type 0 where
    pub wide : length rule.x ≡ length row.x
    pub equal : AllByRecursion (Equates truth cells one other) rule.x
    pub equal_right : Equates truth cells one other rule.a
    pub first : AllByRecursion (Misses truth cells First one) (zip rule.x row.x)
    pub second : AllByRecursion (Misses truth cells Second other) (zip rule.x row.x)
    pub first_right : MeetsCell truth cells First one rule.a row.a
    pub second_right : MeetsCell truth cells Second other rule.a row.a

  first_is : (rule : Rule) (row : TableauRow (List ℕ)) → Hears rule row → Meets truth cells First one (rule.a, row.a)
      → clause_true truth (alone cells First rule row) ≡ (not (all_match bytes_eq row.x (left_of one rule.x)) || matches bytes_eq row.a (text_of one rule.a))
  first_is rule row hears right = alone_is truth cells First one rule row hears.wide hears.first right

  second_is : (rule : Rule) (row : TableauRow (List ℕ)) → Hears rule row → Meets truth cells Second other (rule.a, row.a)
      → clause_true truth (alone cells Second rule row) ≡ (not (all_match bytes_eq row.x (left_of other rule.x)) || matches bytes_eq row.a (text_of other rule.a))
  second_is rule row hears right = alone_is truth cells Second other rule row hears.wide hears.second right

  both_is : (rule : Rule) (row : TableauRow (List ℕ)) → Hears rule row
      → clause_true truth (together cells rule row)
      ≡ ((not (same_values bytes_eq (left_of one rule.x) (left_of other rule.x)) || not (all_match bytes_eq row.x (left_of one rule.x))) || bytes_eq (text_of one rule.a) (text_of other rule.a))
  both_is rule row hears = together_is truth cells one other rule row hears.wide hears.equal hears.first hears.equal_right

  together_from : (rule : Rule) (row : TableauRow (List ℕ)) → Hears rule row → clause_true truth (together cells rule row) ≡ true
      → left_of one rule.x ≡ left_of other rule.x → all_match bytes_eq row.x (left_of one rule.x) ≡ true → text_of one rule.a ≡ text_of other rule.a
  together_from rule row hears holds same match =
      same_text (text_of one rule.a) (text_of other rule.a)
      (implied_twice (same_values bytes_eq (left_of one rule.x) (left_of other rule.x)) (all_match bytes_eq row.x (left_of one rule.x)) (bytes_eq (text_of one rule.a) (text_of other rule.a))
      (sym (both_is rule row hears) ∙ holds) (list_same (left_of one rule.x) (left_of other rule.x) same) match)

  together_to : (rule : Rule) (row : TableauRow (List ℕ)) → Hears rule row → RowHolds one other rule row → clause_true truth (together cells rule row) ≡ true
  together_to rule row hears holds =
      both_is rule row hears
      ∙ implies_twice (same_values bytes_eq (left_of one rule.x) (left_of other rule.x)) (all_match bytes_eq row.x (left_of one rule.x)) (bytes_eq (text_of one rule.a) (text_of other rule.a))
      (λ same match. text_same (text_of one rule.a) (text_of other rule.a) (holds.both (same_list (left_of one rule.x) (left_of other rule.x) same) match))

  -- alone and together, where the cell on the right is a set
  three_from : (rule : Rule) (row : TableauRow (List ℕ)) → Hears rule row → Meets truth cells First one (rule.a, row.a) → Meets truth cells Second other (rule.a, row.a)
      → all_true truth (alone cells First rule row ∷ alone cells Second rule row ∷ together cells rule row ∷ []) ≡ true → RowHolds one other rule row
  three_from rule row hears meets_first meets_second holds =
      let a = clause_true truth (alone cells First rule row) in
      let b = clause_true truth (alone cells Second rule row) in
      let c = clause_true truth (together cells rule row) in
      let parts = and_parts a (b && (c && true)) holds in
      let more = and_parts b (c && true) parts.1 in
      let last = and_parts c true more.1 in
      record {
        first = implied (all_match bytes_eq row.x (left_of one rule.x)) (matches bytes_eq row.a (text_of one rule.a)) (sym (first_is rule row hears meets_first) ∙ parts.0);
        second = implied (all_match bytes_eq row.x (left_of other rule.x)) (matches bytes_eq row.a (text_of other rule.a)) (sym (second_is rule row hears meets_second) ∙ more.0);
        both = together_from rule row hears last.0;
      }

  three_to : (rule : Rule) (row : TableauRow (List ℕ)) → Hears rule row → Meets truth cells First one (rule.a, row.a) → Meets truth cells Second other (rule.a, row.a) → RowHolds one other rule row
      → all_true truth (alone cells First rule row ∷ alone cells Second rule row ∷ together cells rule row ∷ []) ≡ true
  three_to rule row hears meets_first meets_second holds =
      let left : clause_true truth (alone cells First rule row) ≡ true = first_is rule row hears meets_first ∙ implies (all_match bytes_eq row.x (left_of one rule.x)) (matches bytes_eq row.a (text_of one rule.a)) holds.first in
      let right : clause_true truth (alone cells Second rule row) ≡ true = second_is rule row hears meets_second ∙ implies (all_match bytes_eq row.x (left_of other rule.x)) (matches bytes_eq row.a (text_of other rule.a)) holds.second in
      rw (left, right, together_to rule row hears holds) refl

  pub row_from_clauses : (rule : Rule) (row : TableauRow (List ℕ)) (p : Pattern (List ℕ)) → row.a ≡ p → Hears rule row → all_true truth (clauses_for cells rule row p) ≡ true → RowHolds one other rule row
  row_from_clauses rule row Any is hears holds = record {
    first = λ _. ap (λ p. matches bytes_eq p (text_of one rule.a)) is;
    second = λ _. ap (λ p. matches bytes_eq p (text_of other rule.a)) is;
    both = together_from rule row hears (and_parts (clause_true truth (together cells rule row)) true holds).0;
  }
  row_from_clauses rule row (Is constant) is hears holds =
      let a = clause_true truth (alone cells First rule row) in
      let b = clause_true truth (alone cells Second rule row) in
      let parts = and_parts a (b && true) holds in
      let more = and_parts b true parts.1 in
      let meets_first : Meets truth cells First one (rule.a, row.a) = subst (λ p. Meets truth cells First one (rule.a, p)) (sym is) (subst (MeetsCell truth cells First one rule.a) is hears.first_right) in
      let meets_second : Meets truth cells Second other (rule.a, row.a) = subst (λ p. Meets truth cells Second other (rule.a, p)) (sym is) (subst (MeetsCell truth cells Second other rule.a) is hears.second_right) in
      let first = implied (all_match bytes_eq row.x (left_of one rule.x)) (matches bytes_eq row.a (text_of one rule.a)) (sym (first_is rule row hears meets_first) ∙ parts.0) in
      let second = implied (all_match bytes_eq row.x (left_of other rule.x)) (matches bytes_eq row.a (text_of other rule.a)) (sym (second_is rule row hears meets_second) ∙ more.0) in
      record {
        first = first;
        second = second;
        both = λ same match.
            sym (same_text constant (text_of one rule.a) (sym (ap (λ p. matches bytes_eq p (text_of one rule.a)) is) ∙ first match))
            ∙ same_text constant (text_of other rule.a) (sym (ap (λ p. matches bytes_eq p (text_of other rule.a)) is) ∙ second (sym (ap (all_match bytes_eq row.x) same) ∙ match));
      }
  row_from_clauses rule row (In members) is hears holds =
      three_from rule row hears (subst (λ p. Meets truth cells First one (rule.a, p)) (sym is) (subst (MeetsCell truth cells First one rule.a) is hears.first_right))
      (subst (λ p. Meets truth cells Second other (rule.a, p)) (sym is) (subst (MeetsCell truth cells Second other rule.a) is hears.second_right)) holds
  row_from_clauses rule row (NotIn members) is hears holds =
      three_from rule row hears (subst (λ p. Meets truth cells First one (rule.a, p)) (sym is) (subst (MeetsCell truth cells First one rule.a) is hears.first_right))
      (subst (λ p. Meets truth cells Second other (rule.a, p)) (sym is) (subst (MeetsCell truth cells Second other rule.a) is hears.second_right)) holds

  pub clauses_from_row : (rule : Rule) (row : TableauRow (List ℕ)) (p : Pattern (List ℕ)) → row.a ≡ p → Hears rule row → RowHolds one other rule row → all_true truth (clauses_for cells rule row p) ≡ true
  clauses_from_row rule row Any is hears holds = ap (λ b. b && true) (together_to rule row hears holds)
  clauses_from_row rule row (Is constant) is hears holds =
      let meets_first : Meets truth cells First one (rule.a, row.a) = subst (λ p. Meets truth cells First one (rule.a, p)) (sym is) (subst (MeetsCell truth cells First one rule.a) is hears.first_right) in
      let meets_second : Meets truth cells Second other (rule.a, row.a) = subst (λ p. Meets truth cells Second other (rule.a, p)) (sym is) (subst (MeetsCell truth cells Second other rule.a) is hears.second_right) in
      let left : clause_true truth (alone cells First rule row) ≡ true = first_is rule row hears meets_first ∙ implies (all_match bytes_eq row.x (left_of one rule.x)) (matches bytes_eq row.a (text_of one rule.a)) holds.first in
      let right : clause_true truth (alone cells Second rule row) ≡ true = second_is rule row hears meets_second ∙ implies (all_match bytes_eq row.x (left_of other rule.x)) (matches bytes_eq row.a (text_of other rule.a)) holds.second in
      rw (left, right) refl
  clauses_from_row rule row (In members) is hears holds =
      three_to rule row hears (subst (λ p. Meets truth cells First one (rule.a, p)) (sym is) (subst (MeetsCell truth cells First one rule.a) is hears.first_right))
      (subst (λ p. Meets truth cells Second other (rule.a, p)) (sym is) (subst (MeetsCell truth cells Second other rule.a) is hears.second_right)) holds
  clauses_from_row rule row (NotIn members) is hears holds =
      three_to rule row hears (subst (λ p. Meets truth cells First one (rule.a, p)) (sym is) (subst (MeetsCell truth cells First one rule.a) is hears.first_right))
      (subst (λ p. Meets truth cells Second other (rule.a, p)) (sym is) (subst (MeetsCell truth cells Second other rule.a) is hears.second_right)) holds

-- ---- satisfaction

-- what a row asks of a tuple with another, each of which is one of the two
asked_of : (one other t u : List (List ℕ)) (rule : Rule) (row : TableauRow (List ℕ)) → RowHolds one other rule row → (one ≡ t) ⊎ (other ≡ t) → (one ≡ u) ⊎ (other ≡ u)
    → left_of t rule.x ≡ left_of u rule.x → all_match bytes_eq row.x (left_of t rule.x) ≡ true → (text_of t rule.a ≡ text_of u rule.a) × (matches bytes_eq row.a (text_of t rule.a) ≡ true)
asked_of one other t u rule row holds (inl a) (inl b) same match =
    (ap (λ z. text_of z rule.a) (sym a ∙ b), subst (λ z. matches bytes_eq row.a (text_of z rule.a) ≡ true) a (holds.first (subst (λ z. all_match bytes_eq row.x (left_of z rule.x) ≡ true) (sym a) match)))
asked_of one other t u rule row holds (inl a) (inr b) same match =
    let match_one = subst (λ z. all_match bytes_eq row.x (left_of z rule.x) ≡ true) (sym a) match in
    let same_two : left_of one rule.x ≡ left_of other rule.x = ap (λ z. left_of z rule.x) a ∙ same ∙ ap (λ z. left_of z rule.x) (sym b) in (
      ap (λ z. text_of z rule.a) (sym a) ∙ holds.both same_two match_one ∙ ap (λ z. text_of z rule.a) b,
      subst (λ z. matches bytes_eq row.a (text_of z rule.a) ≡ true) a (holds.first match_one),
    )
asked_of one other t u rule row holds (inr a) (inl b) same match =
    let match_other = subst (λ z. all_match bytes_eq row.x (left_of z rule.x) ≡ true) (sym a) match in
    let same_two : left_of one rule.x ≡ left_of other rule.x = ap (λ z. left_of z rule.x) b ∙ sym same ∙ ap (λ z. left_of z rule.x) (sym a) in
    let match_one : all_match bytes_eq row.x (left_of one rule.x) ≡ true = ap (all_match bytes_eq row.x) same_two ∙ match_other in (
      ap (λ z. text_of z rule.a) (sym a) ∙ sym (holds.both same_two match_one) ∙ ap (λ z. text_of z rule.a) b,
      subst (λ z. matches bytes_eq row.a (text_of z rule.a) ≡ true) a (holds.second match_other),
    )
asked_of one other t u rule row holds (inr a) (inr b) same match =
    (ap (λ z. text_of z rule.a) (sym a ∙ b), subst (λ z. matches bytes_eq row.a (text_of z rule.a) ≡ true) a (holds.second (subst (λ z. all_match bytes_eq row.x (left_of z rule.x) ≡ true) (sym a) match)))

one_of_two : (one other t : List (List ℕ)) → Contains (one ∷ other ∷ []) t → (one ≡ t) ⊎ (other ≡ t)
one_of_two one other t there = elim (contains_cases t one (other ∷ []) there) [
  | inl same ↦ inl same
  | inr more ↦ elim (contains_cases t other [] more) [ inl same ↦ inr same | inr none ↦ absurd (contains_nothing t none) ]
]

pub satisfies_from : (rule : Rule) (one other : List (List ℕ)) → ((row : TableauRow (List ℕ)) → Contains rule.rows row → RowHolds one other rule row) → Satisfies bytes_eq rule (one ∷ other ∷ [])
satisfies_from rule one other holds row t u first second there one_there other_there is_first is_second same match =
    let left = sides_are rule t first is_first in
    let right = sides_are rule u second is_second in
    let x_first : first.x ≡ left_of t rule.x = ap (λ (s : Sides (List ℕ)). s.x) left in
    let x_second : second.x ≡ left_of u rule.x = ap (λ (s : Sides (List ℕ)). s.x) right in
    let a_first : first.a ≡ text_of t rule.a = ap (λ (s : Sides (List ℕ)). s.a) left in
    let a_second : second.a ≡ text_of u rule.a = ap (λ (s : Sides (List ℕ)). s.a) right in
    let given = asked_of one other t u rule row (holds row there) (one_of_two one other t one_there) (one_of_two one other u other_there)
    (sym x_first ∙ same_list first.x second.x same ∙ x_second) (ap (all_match bytes_eq row.x) (sym x_first) ∙ match) in
    (text_same first.a second.a (a_first ∙ given.0 ∙ sym a_second), ap (matches bytes_eq row.a) a_first ∙ given.1)

pub satisfies_to : (rule : Rule) (tuples : List (List (List ℕ))) (one other : List (List ℕ)) (row : TableauRow (List ℕ)) → Satisfies bytes_eq rule tuples → Contains tuples one → Contains tuples other
    → sides_of rule one ≡ Some (sides_in rule one) → sides_of rule other ≡ Some (sides_in rule other) → Contains rule.rows row → RowHolds one other rule row
satisfies_to rule tuples one other row satisfies one_there other_there first second there = record {
  first = holds_if_satisfied rule tuples one row satisfies one_there first there;
  second = holds_if_satisfied rule tuples other row satisfies other_there second there;
  both = λ same match. same_text (text_of one rule.a) (text_of other rule.a) (satisfies row one other (sides_in rule one) (sides_in rule other) there one_there other_there first second (list_same (left_of one rule.x) (left_of other rule.x) same) match).0;
}
