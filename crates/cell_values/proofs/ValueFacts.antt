-- The values of the attributes that occur in valid rules.
use Rattle.std.proofs.Common.{inl, inr, ◌⊎◌, ◌≡◌, ◌≢◌, ℕ, zero, suc, ◌<◌, Bool, true, false, ◌||◌, List, [], ◌∷◌, ◌++◌, length, get_or, take, Contains, refl, sym, ◌∙◌, subst, arith}
use Rattle.std.specs.Prelude.{All}
use Rattle.std.specs.List.{flat_map, list_any}
use Rattle.std.specs.Str.{bytes_eq}
use Rattle.std.proofs.lemmas.Bool.{cases_Bool, false≢true}
use Rattle.std.proofs.lemmas.List.{get_or_at, get_or_default, take_at, take_all, length_push}
use Rattle.std.proofs.lemmas.List.Elements.{Contains-append_left, Contains-append_right, Contains-push}
use Rattle.std.proofs.lemmas.List.Folds.{list_any_at}
use Rattle.std.proofs.lemmas.List.Quantifiers.{all_pairs_push}
use Rattle.cfd_semantics.specs.declared.pattern.Pattern.{Pattern}
use Rattle.cfd_semantics.specs.declared.pattern.Pattern.TheVariants as patterns
use Rattle.text_lists.specs.Repeats.{AreDistinct, is_among}
use Rattle.schema_core.specs.Schemas.{Admits, IsValidDomain}
use Rattle.schema_core.specs.declared.schema.Domain.{Domain}
use Rattle.schema_core.specs.declared.schema.Domain.TheVariants.{AnyText, Finite}
use Rattle.cfd_semantics.specs.Pattern.{is_set}
use Rattle.rule_model.specs.Declarations.{constants_of}
use Rattle.rule_model.specs.Rules.{IsCellOf}
use Rattle.cell_values.specs.declared.values.CellValues.{CellValues}
use Rattle.cell_values.specs.Fresh.{fresh_past}
use Rattle.cell_values.specs.TableRules.{Rule, cells_at}
use Rattle.cell_values.specs.Values.{with_text, once_after, constants_at, has_other, is_finite, with_other, cell_values}
use Rattle.cell_values.proofs.Among.{Contains_if_among, absent_if_not}
use Rattle.cell_values.proofs.Meaning.{constants, AreValues, IsKnownCell, IsCovered, counted_constant, counted_other}
use Rattle.cell_values.proofs.Choices.{fresh_there}

-- ---- texts each once

pub with_text_cases : (texts : List (List ℕ)) (text : List ℕ) → ((with_text texts text ≡ texts) × Contains texts text) ⊎ ((with_text texts text ≡ texts ++ text ∷ []) × (is_among bytes_eq texts text ≡ false))
with_text_cases texts text = elim (cases_Bool (is_among bytes_eq texts text)) [
  | inl there ↦ inl (rw there refl, Contains_if_among texts text there)
  | inr new ↦ inr (rw new refl, new)
]

kept_by_with : (texts : List (List ℕ)) (more text : List ℕ) → Contains texts text → Contains (with_text texts more) text
kept_by_with texts more text there = elim (with_text_cases texts more) [
  | inl same ↦ subst (λ (all : List (List ℕ)). Contains all text) (sym same.0) there
  | inr longer ↦ subst (λ (all : List (List ℕ)). Contains all text) (sym longer.0) (Contains-append_left texts (more ∷ []) text there)
]

added_by_with : (texts : List (List ℕ)) (text : List ℕ) → Contains (with_text texts text) text
added_by_with texts text = elim (with_text_cases texts text) [
  | inl same ↦ subst (λ (all : List (List ℕ)). Contains all text) (sym same.0) same.1
  | inr longer ↦ subst (λ (all : List (List ℕ)). Contains all text) (sym longer.0) (Contains-push texts text)
]

pub kept_by_once : (before texts : List (List ℕ)) (text : List ℕ) → Contains before text → Contains (once_after before texts) text
kept_by_once before [] text there = there
kept_by_once before (t ∷ texts) text there = kept_by_once (with_text before t) texts text (kept_by_with before t text there)

pub added_by_once : (before texts : List (List ℕ)) (text : List ℕ) (k : ℕ) → k < length texts → get_or texts k text ≡ text → Contains (once_after before texts) text
added_by_once before [] text k within is = absurd (omega arith)
added_by_once before (t ∷ texts) text zero within is = kept_by_once (with_text before t) texts text (subst (Contains (with_text before t)) is (added_by_with before t))
added_by_once before (t ∷ texts) text (suc k) within is = added_by_once (with_text before t) texts text k (omega arith) is

pushed_distinct : (texts : List (List ℕ)) (text : List ℕ) → AreDistinct texts → ¬ Contains texts text → AreDistinct (texts ++ text ∷ [])
pushed_distinct texts text distinct absent =
    all_pairs_push (λ a b. a ≢ b) texts text distinct (λ k d within same. absent (k, within, get_or_default texts k text d within ∙ same))

with_text_distinct : (texts : List (List ℕ)) (text : List ℕ) → AreDistinct texts → AreDistinct (with_text texts text)
with_text_distinct texts text distinct = elim (with_text_cases texts text) [
  | inl same ↦ subst (λ (all : List (List ℕ)). AreDistinct all) (sym same.0) distinct
  | inr longer ↦ subst (λ (all : List (List ℕ)). AreDistinct all) (sym longer.0) (pushed_distinct texts text distinct (absent_if_not texts text longer.1))
]

pub once_after_distinct : (before texts : List (List ℕ)) → AreDistinct before → AreDistinct (once_after before texts)
once_after_distinct before [] distinct = distinct
once_after_distinct before (t ∷ texts) distinct = once_after_distinct (with_text before t) texts (with_text_distinct before t distinct)

-- ---- the values of an attribute

constants_distinct : (rules : List Rule) (attr : ℕ) (domain : Domain) → IsValidDomain domain → AreDistinct (constants_at rules attr domain)
constants_distinct rules attr AnyText valid = once_after_distinct [] (flat_map constants_of (cells_at rules attr)) (λ i j d less within. absurd (omega arith))
constants_distinct rules attr (Finite values) valid = valid.distinct

finite_some : (rules : List Rule) (attr : ℕ) (domain : Domain) → IsValidDomain domain → is_finite domain ≡ true → 0 < length (constants_at rules attr domain)
finite_some rules attr AnyText valid finite = absurd cc
finite_some rules attr (Finite values) valid finite = let some = valid.some in omega arith

-- for any constants, with an other-value or without
abbrev made : ℕ → List (List ℕ) → Bool → Bool → CellValues
made attr known finite other = record { attr = attr; values = with_other other known; constants = length known; demanded = finite || other }

or_true : (b : Bool) → (b || true) ≡ true
or_true true = refl
or_true false = refl

or_false_is : (b : Bool) → (b || false) ≡ true → b ≡ true
or_false_is true e = e
or_false_is false e = e

made_good : (attr : ℕ) (known : List (List ℕ)) (finite other : Bool) → AreDistinct known → (finite ≡ true → 0 < length known) → AreValues (made attr known finite other)
made_good attr known finite true distinct some =
    let fresh = (fresh_there 0 known).new in
    let size = length_push known (fresh_past 0 known) in
    let front : take (length known) (known ++ fresh_past 0 known ∷ []) ≡ known = take_at known (fresh_past 0 known ∷ []) (length known) refl in
    record {
      bound = omega arith;
      few = omega arith;
      distinct = pushed_distinct known (fresh_past 0 known) distinct fresh;
      some = λ demanded. omega arith;
      all_constants = λ free. absurd (false≢true (sym free ∙ or_true finite));
      other = λ place high within.
          let last : length known ≡ place = omega arith in
          let is : get_or (known ++ fresh_past 0 known ∷ []) place [] ≡ fresh_past 0 known = get_or_at known (fresh_past 0 known) [] [] place last in
          rw (is, front) fresh;
    }
made_good attr known finite false distinct some = record {
  bound = omega arith;
  few = omega arith;
  distinct = distinct;
  some = λ demanded. some (or_false_is finite demanded);
  all_constants = λ free. omega arith;
  other = λ place high within. absurd (omega arith);
}

pub values_good : (rules : List Rule) (attr : ℕ) (domain : Domain) → IsValidDomain domain → AreValues (cell_values rules attr domain)
values_good rules attr domain valid =
    made_good attr (constants_at rules attr domain) (is_finite domain) (has_other rules attr domain) (constants_distinct rules attr domain valid) (finite_some rules attr domain valid)

-- its constants
made_constants : (attr : ℕ) (known : List (List ℕ)) (finite other : Bool) → constants (made attr known finite other) ≡ known
made_constants attr known finite true = take_at known (fresh_past 0 known ∷ []) (length known) refl
made_constants attr known finite false = take_all (length known) known (omega arith)

pub constants_are : (rules : List Rule) (attr : ℕ) (domain : Domain) → constants (cell_values rules attr domain) ≡ constants_at rules attr domain
constants_are rules attr domain = made_constants attr (constants_at rules attr domain) (is_finite domain) (has_other rules attr domain)

-- ---- each text of the domain counts as some value, where that is demanded

covered_open : (attr : ℕ) (known : List (List ℕ)) (other : Bool) (text : List ℕ) → AreValues (made attr known false other) → IsCovered (made attr known false other) text
covered_open attr known true text good demanded = elim (cases_Bool (is_among bytes_eq known text)) [
  | inl there ↦ (
      let v = made attr known false true in
      let found = counted_constant v text good (subst (λ (texts : List (List ℕ)). Contains texts text) (sym (made_constants attr known false true)) (Contains_if_among known text there)) in
      (found.0, found.2, found.4))
  | inr new ↦ (
      let v = made attr known false true in
      let size = length_push known (fresh_past 0 known) in
      (length known, omega arith, counted_other v text (subst (λ (texts : List (List ℕ)). ¬ Contains texts text) (sym (made_constants attr known false true)) (absent_if_not known text new)) (length known) (omega arith)))
]
covered_open attr known false text good demanded = absurd (false≢true demanded)

pub covered_if_admitted : (rules : List Rule) (attr : ℕ) (domain : Domain) (text : List ℕ) → IsValidDomain domain → Admits domain text → IsCovered (cell_values rules attr domain) text
covered_if_admitted rules attr AnyText text valid admitted =
    covered_open attr (constants_at rules attr AnyText) (has_other rules attr AnyText) text (values_good rules attr AnyText valid)
covered_if_admitted rules attr (Finite values) text valid admitted = λ demanded.
    let v = cell_values rules attr (Finite values) in
    let found = counted_constant v text (values_good rules attr (Finite values) valid) (subst (λ (texts : List (List ℕ)). Contains texts text) (sym (constants_are rules attr (Finite values))) admitted) in
    (found.0, found.2, found.4)

-- ---- each cell of a rule is known

Contains-flat_map_at : {X Y : Type 0} (f : X → List Y) (xs : List X) (x : X) (y : Y) (k : ℕ) → k < length xs → get_or xs k x ≡ x → Contains (f x) y → Contains (flat_map f xs) y
Contains-flat_map_at f [] x y k within is there = absurd (omega arith)
Contains-flat_map_at f (z ∷ xs) x y zero within is there = Contains-append_left (f z) (flat_map f xs) y (rw is there)
Contains-flat_map_at f (z ∷ xs) x y (suc k) within is there = Contains-append_right (f z) (flat_map f xs) y (Contains-flat_map_at f xs x y k (omega arith) is there)

pub Contains-flat_map : {X Y : Type 0} (f : X → List Y) (xs : List X) (x : X) (y : Y) → Contains xs x → Contains (f x) y → Contains (flat_map f xs) y
Contains-flat_map f xs x y (k, within, is) there = Contains-flat_map_at f xs x y k within is there

any_set : (cells : List (Pattern (List ℕ))) (cell : Pattern (List ℕ)) → Contains cells cell → is_set cell ≡ true → list_any is_set cells ≡ true
any_set cells cell (k, within, is) set = list_any_at is_set cells k cell within (rw is set)

all_of_once : (cells : List (Pattern (List ℕ))) (cell : Pattern (List ℕ)) → Contains cells cell → All (Contains (once_after [] (flat_map constants_of cells))) (constants_of cell)
all_of_once cells cell there k d within =
    let text = get_or (constants_of cell) k d in
    let (at, inside, is) = Contains-flat_map constants_of cells cell text there (k, within, get_or_default (constants_of cell) k text d within) in
    added_by_once [] (flat_map constants_of cells) text at inside is

known_open : (rules : List Rule) (attr : ℕ) (cell : Pattern (List ℕ)) → Contains (cells_at rules attr) cell → IsKnownCell (cell_values rules attr AnyText) cell
known_open rules attr cell there = record {
  constants = subst (λ (texts : List (List ℕ)). All (Contains texts) (constants_of cell)) (sym (constants_are rules attr AnyText)) (all_of_once (cells_at rules attr) cell there);
  covered = λ set. any_set (cells_at rules attr) cell there set;
}

admitted_each : (values : List (List ℕ)) (cell : Pattern (List ℕ)) → IsCellOf (Finite values) cell → All (Contains values) (constants_of cell)
admitted_each values patterns.Any of_domain k d within = absurd (omega arith)
admitted_each values (patterns.Is constant) of_domain zero d within = of_domain.admitted
admitted_each values (patterns.Is constant) of_domain (suc k) d within = absurd (omega arith)
admitted_each values (patterns.In members) of_domain k d within = (of_domain.each k d within).admitted
admitted_each values (patterns.NotIn members) of_domain k d within = (of_domain.each k d within).admitted

pub known_if_there : (rules : List Rule) (attr : ℕ) (domain : Domain) (cell : Pattern (List ℕ)) → Contains (cells_at rules attr) cell → IsCellOf domain cell → IsKnownCell (cell_values rules attr domain) cell
known_if_there rules attr AnyText cell there of_domain = known_open rules attr cell there
known_if_there rules attr (Finite values) cell there of_domain = record {
  constants = subst (λ (texts : List (List ℕ)). All (Contains texts) (constants_of cell)) (sym (constants_are rules attr (Finite values))) (admitted_each values cell of_domain);
  covered = λ set. refl;
}
