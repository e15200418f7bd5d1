-- A value stands in a row that satisfies the dependencies of its table, or these imply the dependency that bars it.
use Rattle.std.proofs.Common.{inl, inr, ◌≡◌, ◌⊎◌, ℕ, ◌<◌, Bool, true, false, List, [], ◌∷◌, length, Option, Some, None, Result, Ok, Err, ◌+◌, ◌++◌, append_assoc, get_or, map, take, refl, sym, ap, ◌∙◌, subst, arith}
use Rattle.std.specs.Prelude.{Contains, IfOk, not, ◌||◌, slice_get}
use Rattle.std.specs.List.{All}
use Rattle.std.specs.Option.{option_map_or}
use Rattle.std.specs.Str.{bytes_eq}
use Rattle.std.proofs.lemmas.Bool.{and_parts, cases_Bool}
use Rattle.std.proofs.lemmas.List.{map-append, take_more}
use Rattle.std.proofs.lemmas.List.Elements.{All-cons, All-nil, Contains-get_or}
use Rattle.std.proofs.lemmas.Option.{none-some, slice_get-get_or}
use Rattle.text_lists.specs.Names.{IsConstant}
use Rattle.text_lists.specs.Repeats.{AreDistinct}
use Rattle.cfd_semantics.specs.declared.pattern.Pattern.TheVariants.{Is, NotIn}
use Rattle.cfd_semantics.specs.declared.dependency.TableauRow.{TableauRow}
use Rattle.cfd_semantics.specs.Pattern.{all_match}
use Rattle.cfd_semantics.specs.Tuple.{with_both}
use Rattle.cfd_semantics.specs.Violation.{Sides, sides_of}
use Rattle.cfd_semantics.proofs.Members.{contains_cases, contains_nothing, contains-here, contains-there}
use Rattle.schema_core.specs.Lookups.{attrs_at, domain_at}
use Rattle.schema_core.specs.Schemas.{AreValues, IsValidAttr, IsValidDomain}
use Rattle.schema_core.specs.declared.schema.Attr.{Attr}
use Rattle.schema_core.specs.declared.schema.Domain.{Domain}
use Rattle.schema_core.specs.declared.schema.Domain.TheVariants.{AnyText, Finite}
use Rattle.schema_core.specs.declared.schema.Schema.{Schema}
use Rattle.rule_model.specs.declared.dep.Dep.{Dep}
use Rattle.rule_model.specs.Books.{Book, IsBook, book_deps}
use Rattle.rule_model.specs.Rules.{IsConstantOf, IsSetOf, IsValidDep, IsValidRow}
use Rattle.rule_model.specs.Satisfied.{SatisfyDep}
use Rattle.cell_values.specs.Tuples.{IsTupleOf}
use Rattle.cell_values.proofs.Satisfied.{same_text, text_same}
use Rattle.cell_values.proofs.Tables.{attrs_valid}
use Rattle.cfd_implication.specs.Implied.{IsCounter, IsImplied}
use Rattle.project_flaws.specs.ValueVerdicts.{CanStand, IsBarred, IsMayStand, at_attr, bar, value_of, values_in}
use Rattle.project_flaws.specs.declared.values.MayStand.{MayStand}
use Rattle.project_flaws.specs.declared.values.MayStand.TheVariants.{Never, Open, Yes}
use Rattle.project_flaws.specs.declared.values.ValueVerdict.{ValueVerdict}

-- ---- tuples

the_one : {X : Type 0} (x y : X) → Contains (x ∷ []) y → x ≡ y
the_one x y there = elim (contains_cases y x [] there) [ inl same ↦ same | inr none ↦ absurd (contains_nothing y none) ]

one_of_two : {X : Type 0} (x y z : X) → Contains (x ∷ y ∷ []) z → (x ≡ z) ⊎ (y ≡ z)
one_of_two x y z there = elim (contains_cases z x (y ∷ []) there) [ inl same ↦ inl same | inr later ↦ inr (the_one y z later) ]

-- what tuples satisfy, some of them satisfy
fewer : (dep : Dep) (tuples some : List (List (List ℕ))) → SatisfyDep dep tuples → ((t : List (List ℕ)) → Contains some t → Contains tuples t) → SatisfyDep dep some
fewer dep tuples some satisfy within row t u one other there t_there u_there = satisfy row t u one other there (within t t_there) (within u u_there)

-- ---- the value of a tuple

no_true : (b : Bool) → b ≡ false → b ≡ true → ⊥
no_true b fails holds = cc

inside : {X : Type 0} (x y : X) → ◌≡◌ {A = Option X} (Some x) (Some y) → x ≡ y
inside x y e = cc

has_or_not : (found : Option (List ℕ)) (value : List ℕ) → (found ≡ Some value) ⊎ (found ≡ Some value → ⊥)
has_or_not None value = inr (λ e. none-some _ e)
has_or_not (Some v) value = elim (cases_Bool (bytes_eq v value)) [
  | inl same ↦ inl (ap Some (same_text v value same))
  | inr differ ↦ inr (λ e. no_true (bytes_eq v value) differ (text_same v value (inside v value e)))
]

bar_row : List ℕ → TableauRow (List ℕ)
bar_row value = record { x = Is value ∷ []; a = NotIn (value ∷ []) }

has_value : (value : List ℕ) (found : Option (List ℕ)) (one : Sides (List ℕ)) → with_both (λ x a. record { x = x; a = a }) (with_both (λ v vs. v ∷ vs) found (Some [])) found ≡ Some one
    → all_match bytes_eq (Is value ∷ []) one.x ≡ true → found ≡ Some value
has_value value None one e match = absurd (none-some _ e)
has_value value (Some v) one e match =
    let x_is : v ∷ [] ≡ one.x = ap (λ (s : Sides (List ℕ)). s.x) (inside (record { x = v ∷ []; a = v }) one e) in
    let both = and_parts (bytes_eq value v) true (ap (all_match bytes_eq (Is value ∷ [])) x_is ∙ match) in
    ap Some (sym (same_text value v both.0))

-- ---- the dependency that bars a value

-- tuples none of which has the value satisfy it
bars : (table attr : ℕ) (value : List ℕ) (tuples : List (List (List ℕ))) → ((t : List (List ℕ)) → Contains tuples t → slice_get t attr ≡ Some value → ⊥) → SatisfyDep (bar table attr value) tuples
unfolding bar_row
bars table attr value tuples never row t u one other there t_there u_there is_one is_other same match =
    absurd (never t t_there (has_value value (slice_get t attr) one is_one (ap (λ (r : TableauRow (List ℕ)). all_match bytes_eq r.x one.x) (the_one _ row there) ∙ match)))

module _ (rules : Book) (table attr : ℕ) (value : List ℕ) where
  stands : (one other t : List (List ℕ)) → IsCounter rules.schema (book_deps rules) (bar table attr value) one other → IsTupleOf (attrs_at rules.schema table) t → Contains (one ∷ other ∷ []) t → slice_get t attr ≡ Some value → CanStand rules table attr value
  stands one other t counter typed there has = (
    t,
    record {
      typed = typed;
      satisfies = λ dep listed of_table. fewer dep (one ∷ other ∷ []) (t ∷ []) (counter.satisfy dep listed of_table) (λ u u_there. subst (Contains (one ∷ other ∷ [])) (the_one t u u_there) there);
    },
    has,
  )

  can_stand : (one other : List (List ℕ)) → IsCounter rules.schema (book_deps rules) (bar table attr value) one other → CanStand rules table attr value
  can_stand one other counter = elim (has_or_not (slice_get one attr) value) [
    | inl has ↦ stands one other one counter counter.one_tuple (contains-here one (other ∷ [])) has
    | inr first ↦ elim (has_or_not (slice_get other attr) value) [
      | inl has ↦ stands one other other counter counter.other_tuple (contains-there other one (other ∷ []) (contains-here other [])) has
      | inr second ↦ absurd (counter.breaks (bars table attr value (one ∷ other ∷ []) (λ t there has. elim (one_of_two one other t there) [
        | inl is ↦ first (ap (λ z. slice_get z attr) is ∙ has)
        | inr is ↦ second (ap (λ z. slice_get z attr) is ∙ has)
      ])))
    ]
  ]

  cannot_stand : IsImplied rules.schema (book_deps rules) (bar table attr value) → CanStand rules table attr value → ⊥
  unfolding bar_row
  cannot_stand implied (tuple, witness, has) =
      let satisfied = implied (tuple ∷ []) (All-cons (IsTupleOf (attrs_at rules.schema table)) tuple [] witness.typed (All-nil (IsTupleOf (attrs_at rules.schema table)))) witness.satisfies in
      let sides : Sides (List ℕ) = record { x = value ∷ []; a = value } in
      let is : sides_of (bar table attr value).rule tuple ≡ Some sides = ap (λ found. with_both (λ x a. record { x = x; a = a }) (with_both (λ v vs. v ∷ vs) found (Some [])) found) has in
      let here = contains-here tuple [] in
      let itself = text_same value value refl in
      let meets : not (bytes_eq value value || false) ≡ true = (satisfied (bar_row value) tuple tuple sides sides (contains-here (bar_row value) []) here here is is (rw itself refl) (rw itself refl)).1 in
      no_true (not (bytes_eq value value || false)) (rw itself refl) meets

  may_stand_if : (may : MayStand) → IsBarred rules (bar table attr value) may → IsMayStand rules table attr value may
  may_stand_if Yes (one, other, counter) = can_stand one other counter
  may_stand_if Never implied = cannot_stand implied
  may_stand_if Open many = many

-- what is known of the dependency is known of the value
pub may_stand-result : {E : Type 0} (rules : Book) (table attr : ℕ) (value : List ℕ) (dep : Dep) (result : Result MayStand E) → dep ≡ bar table attr value → IfOk result (IsBarred rules dep) → IfOk result (IsMayStand rules table attr value)
may_stand-result rules table attr value dep (Ok may) is known = may_stand_if rules table attr value may (subst (λ d. IsBarred rules d may) is known)
may_stand-result rules table attr value dep (Err e) is known = tt

-- ---- it is valid

alone_distinct : {X : Type 0} (x : X) → AreDistinct (x ∷ [])
alone_distinct x i j d before within = absurd (omega arith)

all_alone : {X : Type 0} (P : X → Type 0) (x : X) → P x → All P (x ∷ [])
all_alone P x holds = All-cons P x [] holds (All-nil P)

module _ (schema : Schema) (table place : ℕ) (there : table < length schema.tables) (within : place < length (attrs_at schema table)) where
  valid_bar : (values : List (List ℕ)) (value : List ℕ) → domain_at (attrs_at schema table) place ≡ Finite values → AreValues values → Contains values value → IsValidDep schema (bar table place value)
  unfolding bar_row
  valid_bar values value is good has =
      let domain = domain_at (attrs_at schema table) place in
      let right : IsConstantOf (Finite values) value = record { constant = subst IsConstant has.2 (good.constants has.0 value has.1); admitted = has } in
      let constant : IsConstantOf domain value = subst (λ d. IsConstantOf d value) (sym is) right in
      let set : IsSetOf domain (value ∷ []) = record { some = omega arith; few = omega arith; distinct = alone_distinct value; each = all_alone (IsConstantOf domain) value constant } in
      record {
        table = there;
        x = all_alone (λ attr. attr < length (attrs_at schema table)) place within;
        a = within;
        distinct = alone_distinct place;
        rows = all_alone (IsValidRow (attrs_at schema table) (place ∷ []) place) (bar_row value) (record { x = (constant, tt); a = set });
      }

  ask_by : (domain : Domain) → domain_at (attrs_at schema table) place ≡ domain → IsValidDomain domain → All (λ value. IsValidDep schema (bar table place value)) (values_in domain)
  ask_by AnyText is valid = All-nil (λ value. IsValidDep schema (bar table place value))
  ask_by (Finite values) is valid = λ k d lt. valid_bar values _ is valid (Contains-get_or values k d lt)

-- each value of an attribute of the table can be asked of
pub may_ask : (rules : Book) (table place : ℕ) (attrs : List Attr) (attr : Attr) → IsBook rules → table < length rules.schema.tables → attrs ≡ attrs_at rules.schema table → place < length attrs → attr ≡ get_or attrs place attr
    → All (λ value. IsValidDep rules.schema (bar table place value)) (values_in attr.domain)
may_ask rules table place attrs attr book there same within is =
    let all = attrs_at rules.schema table in
    let inside_all : place < length all = subst (λ (xs : List Attr). place < length xs) same within in
    let found : slice_get all place ≡ Some attr = ap (λ (xs : List Attr). slice_get xs place) (sym same) ∙ slice_get-get_or attrs place attr within ∙ ap Some (sym is) in
    let valid = attrs_valid rules.schema table book.schema in
    let good : IsValidAttr attr = subst IsValidAttr (inside _ attr (sym (slice_get-get_or all place attr inside_all) ∙ found)) (valid place attr inside_all) in
    ask_by rules.schema table place there inside_all attr.domain (ap (λ (f : Option Attr). option_map_or (λ (a : Attr). a.domain) f AnyText) found) good.domain

-- ---- one value more

pub values-more : (verdicts old : List ValueVerdict) (attr : ℕ) (values : List (List ℕ)) (place : ℕ) (value : List ℕ) (verdict : ValueVerdict) → place < length values → get_or values place value ≡ value → map value_of verdicts ≡ map value_of old ++ map (at_attr attr) (take place values)
    → value_of verdict ≡ at_attr attr value → map value_of (verdicts ++ verdict ∷ []) ≡ map value_of old ++ map (at_attr attr) (take (place + 1) values)
values-more verdicts old attr values place value verdict within is so_far right =
    map-append value_of verdicts (verdict ∷ []) ∙ ap (λ z. z ++ value_of verdict ∷ []) so_far ∙ ap (λ w. (map value_of old ++ map (at_attr attr) (take place values)) ++ w ∷ []) right
    ∙ append_assoc (map value_of old) (map (at_attr attr) (take place values)) (at_attr attr value ∷ [])
    ∙ ap (λ z. map value_of old ++ z) (sym (ap (map (at_attr attr)) (take_more values place value within ∙ ap (λ z. take place values ++ z ∷ []) is) ∙ map-append (at_attr attr) (take place values) (value ∷ [])))
