-- The question of a table of a rule book.
use Rattle.std.proofs.Common.{inl, inr, ◌≡◌, ℕ, ◌≤◌, Bool, List, [], ◌∷◌, length, Option, Some, None, subst}
use Rattle.std.specs.Prelude.{All, Contains, IfSome}
use Rattle.std.specs.List.{AllByRecursion, flat_map}
use Rattle.std.specs.Str.{bytes_eq}
use Rattle.std.proofs.lemmas.List.Elements.{Contains-append_cases, Contains-append_left, All-contains}
use Rattle.cfd_semantics.proofs.Members.{contains_nothing}
use Rattle.cfd_semantics.specs.Satisfaction.{Satisfies}
use Rattle.schema_core.specs.Schemas.{IsValidAttr, table_place}
use Rattle.schema_core.specs.Lookups.{attrs_at}
use Rattle.schema_core.specs.declared.schema.Attr.{Attr}
use Rattle.rule_model.specs.Rules.{IsValidDep}
use Rattle.rule_model.specs.Books.{Book, book_deps, IsBook}
use Rattle.case_tree.specs.CaseTree.{IsAllowed, IsWellFormed, Refutes, var_count}
use Rattle.case_tree.specs.declared.tree.Node.{Node}
use Rattle.case_tree.proofs.Soundness.{sound}
use Rattle.case_search.specs.Answer.{HasOneFree}
use Rattle.cell_values.specs.declared.which.Which.TheVariants.{Only}
use Rattle.cell_values.specs.declared.which.TupleCount.TheVariants.{One}
use Rattle.cell_values.specs.declared.values.CellValues.{CellValues}
use Rattle.cell_values.specs.Layout.{var_total}
use Rattle.cell_values.specs.Readings.{HasAllowed}
use Rattle.cell_values.specs.TableRules.{Rule, rules_with, table_rules}
use Rattle.cell_values.specs.Values.{AreFew, occurring}
use Rattle.cell_values.proofs.Bounds.{cells_count}
use Rattle.cell_values.proofs.Free.{all_one_free, well_formed}
use Rattle.cell_values.proofs.OneTuple.{IsRuleOf}
use Rattle.cell_values.proofs.Tables.{attrs_each, from_table, in_table, rule_of_dep}
use Rattle.cell_values.proofs.Texts.{constants_bound as bounds, is_short}
use Rattle.cfd_consistency.specs.Answer.{HasLaw}
use Rattle.cfd_consistency.specs.Consistent.{IsConsistent, IsWitness}
use Rattle.cfd_consistency.specs.Question.{question, rule_clauses, stands_for}
use Rattle.cfd_consistency.proofs.Law.{all_good, allowed_of, truth_by, tuple_satisfies, tuple_typed}

module _ (book : Book) (good : IsBook book) (table : ℕ) where
  abbrev attrs : List Attr
  attrs = attrs_at book.schema table

  abbrev rules : List Rule
  rules = rules_with table (book_deps book) []

  attrs_good : AllByRecursion IsValidAttr attrs
  attrs_good = attrs_each book.schema table good.schema

  each_valid : (rule : Rule) → Contains rules rule → IsRuleOf attrs rule
  each_valid rule there = elim (Contains-append_cases (table_rules table (book_deps book)) [] rule there) [
    | inl of_table ↦ (
        let from = from_table table (book_deps book) rule of_table in
        subst (IsRuleOf (attrs_at book.schema table)) from.is (rule_of_dep book.schema table from.dep from.of_table (All-contains (IsValidDep book.schema) (book_deps book) from.dep good.deps from.there)))
    | inr none ↦ absurd (contains_nothing rule none)
  ]

  -- ---- the law

  witness_of : (truth : ℕ → Bool) → IsAllowed (question book table) truth → IsWitness book table (stands_for book table truth)
  unfolding question
  witness_of truth allowed = record {
    typed = tuple_typed attrs attrs_good rules each_valid truth allowed;
    satisfies = λ dep there same. tuple_satisfies attrs attrs_good rules each_valid truth allowed dep.rule (Contains-append_left (table_rules table (book_deps book)) [] dep.rule (in_table table (book_deps book) dep there same));
  }

  allowed_by : (tuple : List (List ℕ)) → IsWitness book table tuple → HasAllowed (question book table)
  unfolding question
  allowed_by tuple witness =
      let satisfied : (rule : Rule) → Contains rules rule → Satisfies bytes_eq rule (tuple ∷ []) = λ rule there. elim (Contains-append_cases (table_rules table (book_deps book)) [] rule there) [
        | inl of_table ↦ (
            let from = from_table table (book_deps book) rule of_table in
            subst (λ (r : Rule). Satisfies bytes_eq r (tuple ∷ [])) from.is (witness.satisfies from.dep from.there from.of_table))
        | inr none ↦ absurd (contains_nothing rule none)
      ] in
      (truth_by attrs attrs_good rules each_valid tuple witness.typed satisfied, allowed_of attrs attrs_good rules each_valid tuple witness.typed satisfied)

  pub law : HasLaw book table
  law = record {
    exactly = (λ some. (stands_for book table some.0, witness_of some.0 some.1), λ some. allowed_by some.0 some.1);
    shown = witness_of;
  }

  -- ---- what the search and the answer need

  pub question_well_formed : AreFew (occurring attrs rules) → IsWellFormed (question book table)
  unfolding question
  question_well_formed few = well_formed One attrs attrs_good rules (flat_map (rule_clauses (occurring attrs rules)) rules) few (all_good attrs attrs_good rules each_valid)

  pub question_one_free : All (HasOneFree (question book table)) (question book table).clauses
  unfolding question
  question_one_free = all_one_free One attrs attrs_good rules (flat_map (rule_clauses (occurring attrs rules)) rules) (all_good attrs attrs_good rules each_valid)

  pub question_vars : var_count (question book table).cells ≡ var_total One (occurring attrs rules)
  unfolding question
  question_vars = cells_count One 0 (occurring attrs rules)

  pub constants_bound : All (λ (cell : CellValues). cell.constants ≤ length cell.values) (occurring attrs rules)
  constants_bound = bounds attrs attrs_good rules

  pub witness_short : (truth : ℕ → Bool) → All (λ (text : List ℕ). length text ≤ 65535) (stands_for book table truth)
  witness_short truth = is_short attrs attrs_good rules truth each_valid Only

  -- a tree that refutes the question shows that no tuple satisfies all
  pub none_if_refuted : (tree : List Node) → Refutes (question book table) tree → ¬ IsConsistent book table
  none_if_refuted tree refutes some = let allowed = law.exactly.1 some in sound (question book table) tree refutes allowed.0 allowed.1

-- the law for the table of a name
law_there : (book : Book) → IsBook book → (table : Option ℕ) → IfSome table (HasLaw book)
law_there book good None = tt
law_there book good (Some table) = law book good table

pub law_named : (book : Book) → IsBook book → (name : List ℕ) → IfSome (table_place book.schema name) (HasLaw book)
law_named book good name = law_there book good (table_place book.schema name)
