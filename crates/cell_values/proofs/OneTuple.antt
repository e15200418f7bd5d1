-- A tuple is heard in every row, where the variables of its values say which of them it has.
use Rattle.std.proofs.Common.{◌≡◌, ℕ, zero, suc, ◌<◌, Bool, true, not, List, [], ◌∷◌, length, refl, sym, ap, ◌∙◌, subst, inl, inr, arith}
use Rattle.std.specs.Prelude.{Contains, zip}
use Rattle.std.specs.List.{AllZip, All, AllByRecursion}
use Rattle.std.specs.Str.{bytes_eq}
use Rattle.std.proofs.lemmas.Bool.{cases_Bool, false_from_ne_true, false≢true}
use Rattle.std.proofs.lemmas.List.Elements.{All-contains}
use Rattle.cfd_semantics.specs.declared.pattern.Pattern.{Pattern}
use Rattle.cfd_semantics.specs.declared.pattern.Pattern.TheVariants as patterns
use Rattle.cfd_semantics.specs.declared.dependency.TableauRow.{TableauRow}
use Rattle.cfd_semantics.specs.Pattern.{matches}
use Rattle.cfd_semantics.proofs.Members.{contains-here, contains-there}
use Rattle.schema_core.specs.Lookups.{domain_at}
use Rattle.schema_core.specs.Schemas.{Admits, IsValidAttr, IsValidDomain}
use Rattle.schema_core.specs.declared.schema.Attr.{Attr}
use Rattle.rule_model.specs.Rules.{IsCellOf, IsValidRow}
use Rattle.cell_values.specs.declared.which.Which.{Which}
use Rattle.cell_values.specs.declared.values.CellValues.{CellValues}
use Rattle.cell_values.specs.Layout.{value_var}
use Rattle.cell_values.specs.Literals.{meets, misses}
use Rattle.cell_values.specs.Standing.{Agrees}
use Rattle.cell_values.specs.TableRules.{Rule, occurs, cells_at}
use Rattle.cell_values.specs.Tuples.{IsTupleOf}
use Rattle.cell_values.specs.Values.{cell_values, occurring, values_for}
use Rattle.cell_values.proofs.Meaning.{AreValues, IsKnownCell, IsCovered, match_if_meets, meets_if_matches, differ_if_misses, misses_if_differ}
use Rattle.cell_values.proofs.Occurs.{rises, occurring_has, left_occurs, right_occurs, cell_there, left_cell, right_cell}
use Rattle.cell_values.proofs.Order.{values_at}
use Rattle.cell_values.proofs.Truths.{any_of_clause, clause_of_any, clause_true, text_of, Meets, Misses}
use Rattle.cell_values.proofs.ValueFacts.{values_good, covered_if_admitted, known_if_there}

module _ (truth : ℕ → Bool) (first : ℕ) (c : CellValues) (text : List ℕ) (good : AreValues c) (covered : IsCovered c text) (agrees : Agrees truth first c text) (p : Pattern (List ℕ)) (known : IsKnownCell c p) where
  pub misses_is : clause_true truth (misses first c.values p) ≡ not (matches bytes_eq p text)
  misses_is = elim (cases_Bool (matches bytes_eq p text)) [
    | inl match ↦
        false_from_ne_true (clause_true truth (misses first c.values p))
        (λ holds. false≢true (sym (differ_if_misses c good text covered truth first agrees p known (any_of_clause truth (misses first c.values p) holds)) ∙ match))
        ∙ sym (ap not match)
    | inr differs ↦ clause_of_any truth (misses first c.values p) (misses_if_differ c good text covered truth first agrees p known differs) ∙ sym (ap not differs)
  ]

  pub meets_is : ¬ (p ≡ patterns.Any) → clause_true truth (meets first c.values p) ≡ matches bytes_eq p text
  meets_is some = elim (cases_Bool (matches bytes_eq p text)) [
    | inl match ↦ clause_of_any truth (meets first c.values p) (meets_if_matches c good text covered truth first agrees p known some match) ∙ sym match
    | inr differs ↦
        false_from_ne_true (clause_true truth (meets first c.values p))
        (λ holds. false≢true (sym differs ∙ match_if_meets c good p known text truth first agrees (any_of_clause truth (meets first c.values p) holds)))
        ∙ sym differs
  ]

-- ---- domains

pub admitted_at : (attrs : List Attr) (tuple : List (List ℕ)) (attr : ℕ) → IsTupleOf attrs tuple → attr < length attrs → Admits (domain_at attrs attr) (text_of tuple attr)
admitted_at [] tuple attr is within = absurd (omega arith)
admitted_at (a ∷ attrs) [] attr is within = absurd is
admitted_at (a ∷ attrs) (text ∷ tuple) zero is within = is.0
admitted_at (a ∷ attrs) (text ∷ tuple) (suc attr) is within = admitted_at attrs tuple attr is.1 (omega arith)

pub valid_domain_at : (attrs : List Attr) (attr : ℕ) → AllByRecursion IsValidAttr attrs → IsValidDomain (domain_at attrs attr)
valid_domain_at [] attr valid = tt
valid_domain_at (a ∷ attrs) zero valid = valid.0.domain
valid_domain_at (a ∷ attrs) (suc attr) valid = valid_domain_at attrs attr valid.1

-- ---- rules

-- a rule whose attributes are those of the table and whose rows are valid
pub record IsRuleOf (attrs : List Attr) (rule : Rule) : Type 0 where
  pub x : All (λ attr. attr < length attrs) rule.x
  pub a : rule.a < length attrs
  pub rows : All (IsValidRow attrs rule.x rule.a) rule.rows

-- what is true of all cells beside their attributes is true of each
pub zipped : (P : ℕ × Pattern (List ℕ) → Type 0) (xs : List ℕ) (ps : List (Pattern (List ℕ))) → ((at : ℕ × Pattern (List ℕ)) → Contains (zip xs ps) at → P at) → AllByRecursion P (zip xs ps)
zipped P [] ps each = tt
zipped P (x ∷ xs) [] each = tt
zipped P (x ∷ xs) (p ∷ ps) each = (each (x, p) (contains-here (x, p) (zip xs ps)), zipped P xs ps (λ at there. each at (contains-there at (x, p) (zip xs ps) there)))

pub listed : (P : ℕ → Type 0) (xs : List ℕ) → ((x : ℕ) → Contains xs x → P x) → AllByRecursion P xs
listed P [] each = tt
listed P (x ∷ xs) each = (each x (contains-here x xs), listed P xs (λ y there. each y (contains-there y x xs there)))

pub zip_left : (xs : List ℕ) (ps : List (Pattern (List ℕ))) (at : ℕ × Pattern (List ℕ)) → Contains (zip xs ps) at → Contains xs at.0
zip_left [] ps at (k, within, is) = absurd (omega arith)
zip_left (x ∷ xs) [] at (k, within, is) = absurd (omega arith)
zip_left (x ∷ xs) (p ∷ ps) at (zero, within, is) = subst (λ (z : ℕ × Pattern (List ℕ)). Contains (x ∷ xs) z.0) is (contains-here x xs)
zip_left (x ∷ xs) (p ∷ ps) at (suc k, within, is) = contains-there at.0 x xs (zip_left xs ps at (k, omega arith, is))

pub zip_cell : (attrs : List Attr) (xs : List ℕ) (ps : List (Pattern (List ℕ))) (at : ℕ × Pattern (List ℕ)) → AllZip (λ attr cell. IsCellOf (domain_at attrs attr) cell) xs ps → Contains (zip xs ps) at → IsCellOf (domain_at attrs at.0) at.1
zip_cell attrs [] ps at are (k, within, is) = absurd (omega arith)
zip_cell attrs (x ∷ xs) [] at are (k, within, is) = absurd (omega arith)
zip_cell attrs (x ∷ xs) (p ∷ ps) at are (zero, within, is) = subst (λ (z : ℕ × Pattern (List ℕ)). IsCellOf (domain_at attrs z.0) z.1) is are.0
zip_cell attrs (x ∷ xs) (p ∷ ps) at are (suc k, within, is) = zip_cell attrs xs ps at are.1 (k, omega arith, is)

pub as_wide : (attrs : List Attr) (xs : List ℕ) (ps : List (Pattern (List ℕ))) → AllZip (λ attr cell. IsCellOf (domain_at attrs attr) cell) xs ps → length xs ≡ length ps
as_wide attrs [] [] are = refl
as_wide attrs [] (p ∷ ps) are = absurd are
as_wide attrs (x ∷ xs) [] are = absurd are
as_wide attrs (x ∷ xs) (p ∷ ps) are = ap suc (as_wide attrs xs ps are.1)

-- where a cell stands in the rules
pub record IsCellHere (attrs : List Attr) (all : List Rule) (at : ℕ × Pattern (List ℕ)) : Type 0 where
  pub within : at.0 < length attrs
  pub occurs : occurs all at.0 ≡ true
  pub there : Contains (cells_at all at.0) at.1
  pub of_domain : IsCellOf (domain_at attrs at.0) at.1

module _ (attrs : List Attr) (all : List Rule) (rule : Rule) (row : TableauRow (List ℕ)) (is : IsRuleOf attrs rule) (there : Contains all rule) (row_there : Contains rule.rows row) where
  row_valid : IsValidRow attrs rule.x rule.a row
  row_valid = All-contains (IsValidRow attrs rule.x rule.a) rule.rows row is.rows row_there

  pub wide_here : length rule.x ≡ length row.x
  wide_here = as_wide attrs rule.x row.x row_valid.x

  pub attr_here : (attr : ℕ) → Contains rule.x attr → (attr < length attrs) × (occurs all attr ≡ true)
  attr_here attr left = (All-contains (λ (n : ℕ). n < length attrs) rule.x attr is.x left, left_occurs all rule attr there left)

  pub left_here : (at : ℕ × Pattern (List ℕ)) → Contains (zip rule.x row.x) at → IsCellHere attrs all at
  left_here at cell = record {
    within = All-contains (λ (attr : ℕ). attr < length attrs) rule.x at.0 is.x (zip_left rule.x row.x at cell);
    occurs = left_occurs all rule at.0 there (zip_left rule.x row.x at cell);
    there = cell_there all rule row at there row_there (left_cell rule row at cell);
    of_domain = zip_cell attrs rule.x row.x at row_valid.x cell;
  }

  pub right_here : IsCellHere attrs all (rule.a, row.a)
  right_here = record {
    within = is.a;
    occurs = right_occurs all rule there;
    there = cell_there all rule row (rule.a, row.a) there row_there (right_cell rule row);
    of_domain = row_valid.a;
  }

-- what `meets` says, but of `_`, of which it says nothing
module _ (truth : ℕ → Bool) (cells : List CellValues) where
  abbrev pub MeetsCell : Which → List (List ℕ) → ℕ → Pattern (List ℕ) → Type 0
  MeetsCell which tuple attr patterns.Any = Unit {0}
  MeetsCell which tuple attr (patterns.Is constant) = Meets truth cells which tuple (attr, patterns.Is constant)
  MeetsCell which tuple attr (patterns.In members) = Meets truth cells which tuple (attr, patterns.In members)
  MeetsCell which tuple attr (patterns.NotIn members) = Meets truth cells which tuple (attr, patterns.NotIn members)

module _ (attrs : List Attr) (valid : AllByRecursion IsValidAttr attrs) (all : List Rule) (tuple : List (List ℕ)) (typed : IsTupleOf attrs tuple) (truth : ℕ → Bool) (which : Which)
    (agrees : (attr : ℕ) → attr < length attrs → occurs all attr ≡ true → Agrees truth (value_var which (occurring attrs all) attr) (cell_values all attr (domain_at attrs attr)) (text_of tuple attr)) where
  values_are : (attr : ℕ) → attr < length attrs → occurs all attr ≡ true → values_for (occurring attrs all) attr ≡ (cell_values all attr (domain_at attrs attr)).values
  values_are attr within there = values_at 0 (occurring attrs all) (cell_values all attr (domain_at attrs attr)) (rises attrs all) (occurring_has attrs all attr within there)

  pub misses_said : (at : ℕ × Pattern (List ℕ)) → IsCellHere attrs all at → Misses truth (occurring attrs all) which tuple at
  misses_said at here =
      let c = cell_values all at.0 (domain_at attrs at.0) in
      let domain = valid_domain_at attrs at.0 valid in
      ap (λ vs. clause_true truth (misses (value_var which (occurring attrs all) at.0) vs at.1)) (values_are at.0 here.within here.occurs)
      ∙ misses_is truth (value_var which (occurring attrs all) at.0) c (text_of tuple at.0) (values_good all at.0 (domain_at attrs at.0) domain)
      (covered_if_admitted all at.0 (domain_at attrs at.0) (text_of tuple at.0) domain (admitted_at attrs tuple at.0 typed here.within))
      (agrees at.0 here.within here.occurs) at.1 (known_if_there all at.0 (domain_at attrs at.0) at.1 here.there here.of_domain)

  meets_said : (at : ℕ × Pattern (List ℕ)) → IsCellHere attrs all at → ¬ (at.1 ≡ patterns.Any) → Meets truth (occurring attrs all) which tuple at
  meets_said at here some =
      let c = cell_values all at.0 (domain_at attrs at.0) in
      let domain = valid_domain_at attrs at.0 valid in
      ap (λ vs. clause_true truth (meets (value_var which (occurring attrs all) at.0) vs at.1)) (values_are at.0 here.within here.occurs)
      ∙ meets_is truth (value_var which (occurring attrs all) at.0) c (text_of tuple at.0) (values_good all at.0 (domain_at attrs at.0) domain)
      (covered_if_admitted all at.0 (domain_at attrs at.0) (text_of tuple at.0) domain (admitted_at attrs tuple at.0 typed here.within))
      (agrees at.0 here.within here.occurs) at.1 (known_if_there all at.0 (domain_at attrs at.0) at.1 here.there here.of_domain) some

  pub cell_said : (attr : ℕ) (p : Pattern (List ℕ)) → IsCellHere attrs all (attr, p) → MeetsCell truth (occurring attrs all) which tuple attr p
  cell_said attr patterns.Any here = tt
  cell_said attr (patterns.Is constant) here = meets_said (attr, patterns.Is constant) here (λ e. absurd cc)
  cell_said attr (patterns.In members) here = meets_said (attr, patterns.In members) here (λ e. absurd cc)
  cell_said attr (patterns.NotIn members) here = meets_said (attr, patterns.NotIn members) here (λ e. absurd cc)

  module _ (rule : Rule) (row : TableauRow (List ℕ)) (is : IsRuleOf attrs rule) (there : Contains all rule) (row_there : Contains rule.rows row) where
    pub left_said : AllByRecursion (Misses truth (occurring attrs all) which tuple) (zip rule.x row.x)
    left_said = zipped (Misses truth (occurring attrs all) which tuple) rule.x row.x (λ at cell. misses_said at (left_here attrs all rule row is there row_there at cell))

    pub right_said : MeetsCell truth (occurring attrs all) which tuple rule.a row.a
    right_said = cell_said rule.a row.a (right_here attrs all rule row is there row_there)
