-- When tuples satisfy a dependency, said of their texts.
use Rattle.std.proofs.Common.{inl, inr, ◌≡◌, ℕ, suc, ◌<◌, Bool, true, false, List, [], ◌∷◌, length, Option, Some, None, refl, sym, ap, ◌∙◌, subst, arith}
use Rattle.std.specs.Prelude.{not, ◌&&◌, ◌||◌, Contains, slice_get}
use Rattle.std.specs.List.{AllByRecursion}
use Rattle.std.specs.Str.{bytes_eq}
use Rattle.std.proofs.lemmas.Bool.{and_parts}
use Rattle.std.proofs.lemmas.List.Elements.{recursion_from_All}
use Rattle.std.proofs.lemmas.Option.{none-some, get_or_from_slice_get, slice_get-get_or}
use Rattle.std.proofs.lemmas.Slice.Eq.{bytes_eq-Decides}
use Rattle.cfd_semantics.specs.declared.dependency.TableauRow.{TableauRow}
use Rattle.cfd_semantics.specs.Pattern.{matches, all_match}
use Rattle.cfd_semantics.specs.Tuple.{same_values, values_at, with_both}
use Rattle.cfd_semantics.specs.Violation.{Sides, sides_of}
use Rattle.cfd_semantics.specs.Satisfaction.{Satisfies}
use Rattle.cfd_semantics.proofs.Members.{contains_cases, contains_nothing}
use Rattle.schema_core.specs.declared.schema.Attr.{Attr}
use Rattle.cell_values.specs.TableRules.{Rule}
use Rattle.cell_values.specs.Tuples.{IsTupleOf}
use Rattle.cell_values.proofs.OneTuple.{IsRuleOf}
use Rattle.cell_values.proofs.Truths.{text_of, left_of}

-- ---- tests

pub implied : (a b : Bool) → (not a || b) ≡ true → a ≡ true → b ≡ true
implied true b e holds = e
implied false b e holds = absurd cc

pub implies : (a b : Bool) → (a ≡ true → b ≡ true) → (not a || b) ≡ true
implies true b f = f refl
implies false b f = refl

pub same_text : (v w : List ℕ) → bytes_eq v w ≡ true → v ≡ w
same_text v w e = (bytes_eq-Decides v w).0 e

pub text_same : (v w : List ℕ) → v ≡ w → bytes_eq v w ≡ true
text_same v w e = (bytes_eq-Decides v w).1 e

pub same_list : (xs ys : List (List ℕ)) → same_values bytes_eq xs ys ≡ true → xs ≡ ys
same_list [] [] e = refl
same_list [] (y ∷ ys) e = absurd cc
same_list (x ∷ xs) [] e = absurd cc
same_list (x ∷ xs) (y ∷ ys) e =
    let both = and_parts (bytes_eq x y) (same_values bytes_eq xs ys) e in
    ap (λ z. z ∷ xs) (same_text x y both.0) ∙ ap (λ zs. y ∷ zs) (same_list xs ys both.1)

pub list_same : (xs ys : List (List ℕ)) → xs ≡ ys → same_values bytes_eq xs ys ≡ true
list_same xs ys e = subst (λ zs. same_values bytes_eq xs zs ≡ true) e (itself xs) where
  itself : (zs : List (List ℕ)) → same_values bytes_eq zs zs ≡ true
  itself [] = refl
  itself (z ∷ zs) = ap (λ b. b && same_values bytes_eq zs zs) (text_same z z refl) ∙ itself zs

-- ---- the sides of a tuple

some_same : {A : Type 0} (x y : A) → ◌≡◌ {A = Option A} (Some x) (Some y) → x ≡ y
some_same x y e = cc

joined : (tuple : List (List ℕ)) (attr : ℕ) (xs : List ℕ) (vs : List (List ℕ)) (found : Option (List ℕ)) (more : Option (List (List ℕ))) → slice_get tuple attr ≡ found → ((ws : List (List ℕ)) → more ≡ Some ws → ws ≡ left_of tuple xs)
    → with_both (λ value values. value ∷ values) found more ≡ Some vs → vs ≡ text_of tuple attr ∷ left_of tuple xs
joined tuple attr xs vs None more is rest e = absurd (none-some _ e)
joined tuple attr xs vs (Some v) None is rest e = absurd (none-some _ e)
joined tuple attr xs vs (Some v) (Some ws) is rest e =
    sym (some_same (v ∷ ws) vs e) ∙ ap (λ z. z ∷ ws) (sym (get_or_from_slice_get tuple attr v [] is)) ∙ ap (λ zs. text_of tuple attr ∷ zs) (rest ws refl)

pub values_are : (tuple : List (List ℕ)) (xs : List ℕ) (vs : List (List ℕ)) → values_at tuple xs ≡ Some vs → vs ≡ left_of tuple xs
values_are tuple [] vs e = sym (some_same [] vs e)
values_are tuple (attr ∷ xs) vs e = joined tuple attr xs vs (slice_get tuple attr) (values_at tuple xs) refl (λ ws is. values_are tuple xs ws is) e

abbrev pub sides_in : Rule → List (List ℕ) → Sides (List ℕ)
sides_in rule tuple = record { x = left_of tuple rule.x; a = text_of tuple rule.a }

sides_joined : (rule : Rule) (tuple : List (List ℕ)) (sides : Sides (List ℕ)) (found : Option (List (List ℕ))) (right : Option (List ℕ)) → ((ws : List (List ℕ)) → found ≡ Some ws → ws ≡ left_of tuple rule.x) → slice_get tuple rule.a ≡ right
    → ◌≡◌ {A = Option (Sides (List ℕ))} (with_both (λ x a. record { x = x; a = a }) found right) (Some sides) → sides ≡ sides_in rule tuple
sides_joined rule tuple sides None right left is e = absurd (none-some _ e)
sides_joined rule tuple sides (Some ws) None left is e = absurd (none-some _ e)
sides_joined rule tuple sides (Some ws) (Some a) left is e =
    let here : Sides (List ℕ) = record { x = ws; a = a } in
    sym (some_same here sides e) ∙ ap (λ zs. record { x = zs; a = a }) (left ws refl) ∙ ap (λ z. record { x = left_of tuple rule.x; a = z }) (sym (get_or_from_slice_get tuple rule.a a [] is))

pub sides_are : (rule : Rule) (tuple : List (List ℕ)) (sides : Sides (List ℕ)) → sides_of rule tuple ≡ Some sides → sides ≡ sides_in rule tuple
sides_are rule tuple sides e = sides_joined rule tuple sides (values_at tuple rule.x) (slice_get tuple rule.a) (λ ws is. values_are tuple rule.x ws is) refl e

pub values_there : (tuple : List (List ℕ)) (xs : List ℕ) → AllByRecursion (λ attr. attr < length tuple) xs → values_at tuple xs ≡ Some (left_of tuple xs)
values_there tuple [] within = refl
values_there tuple (attr ∷ xs) within = rw (slice_get-get_or tuple attr [] within.0, values_there tuple xs within.1) refl

pub sides_there : (rule : Rule) (tuple : List (List ℕ)) → AllByRecursion (λ attr. attr < length tuple) rule.x → rule.a < length tuple → sides_of rule tuple ≡ Some (sides_in rule tuple)
sides_there rule tuple left right = rw (values_there tuple rule.x left, slice_get-get_or tuple rule.a [] right) refl

-- a tuple has a text for each attribute
pub length_of : (attrs : List Attr) (tuple : List (List ℕ)) → IsTupleOf attrs tuple → length tuple ≡ length attrs
length_of [] [] is = refl
length_of [] (t ∷ ts) is = absurd is
length_of (a ∷ attrs) [] is = absurd is
length_of (a ∷ attrs) (t ∷ ts) is = ap suc (length_of attrs ts is.1)

within_all : (n m : ℕ) (xs : List ℕ) → n ≡ m → AllByRecursion (λ x. x < n) xs → AllByRecursion (λ x. x < m) xs
within_all n m [] same all = tt
within_all n m (x ∷ xs) same all = (let low = all.0 in omega arith, within_all n m xs same all.1)

pub has_sides : (attrs : List Attr) (rule : Rule) (tuple : List (List ℕ)) → IsRuleOf attrs rule → IsTupleOf attrs tuple → sides_of rule tuple ≡ Some (sides_in rule tuple)
has_sides attrs rule tuple valid is =
    let size = length_of attrs tuple is in
    let right = valid.a in
    sides_there rule tuple (within_all (length attrs) (length tuple) rule.x (sym size) (recursion_from_All (λ (a : ℕ). a < length attrs) rule.x valid.x)) (omega arith)

-- ---- one tuple

-- what a tableau row asks of a tuple
abbrev pub Holds : List (List ℕ) → Rule → TableauRow (List ℕ) → Type 0
Holds tuple rule row = all_match bytes_eq row.x (left_of tuple rule.x) ≡ true → matches bytes_eq row.a (text_of tuple rule.a) ≡ true

the_one : (tuple t : List (List ℕ)) → Contains (tuple ∷ []) t → tuple ≡ t
the_one tuple t there = elim (contains_cases t tuple [] there) [ inl same ↦ same | inr none ↦ absurd (contains_nothing t none) ]

pub one_satisfies : (rule : Rule) (tuple : List (List ℕ)) → ((row : TableauRow (List ℕ)) → Contains rule.rows row → Holds tuple rule row) → Satisfies bytes_eq rule (tuple ∷ [])
one_satisfies rule tuple holds row t u first second there t_there u_there is_first is_second same match =
    let left : first ≡ sides_in rule tuple = sides_are rule t first is_first ∙ ap (sides_in rule) (sym (the_one tuple t t_there)) in
    let right : second ≡ sides_in rule tuple = sides_are rule u second is_second ∙ ap (sides_in rule) (sym (the_one tuple u u_there)) in
    let a_first : first.a ≡ text_of tuple rule.a = ap (λ (s : Sides (List ℕ)). s.a) left in
    let a_second : second.a ≡ text_of tuple rule.a = ap (λ (s : Sides (List ℕ)). s.a) right in
    let x_first : first.x ≡ left_of tuple rule.x = ap (λ (s : Sides (List ℕ)). s.x) left in
    (text_same first.a second.a (a_first ∙ sym a_second), ap (matches bytes_eq row.a) a_first ∙ holds row there (ap (all_match bytes_eq row.x) (sym x_first) ∙ match))

pub holds_if_satisfied : (rule : Rule) (tuples : List (List (List ℕ))) (tuple : List (List ℕ)) (row : TableauRow (List ℕ)) → Satisfies bytes_eq rule tuples → Contains tuples tuple → sides_of rule tuple ≡ Some (sides_in rule tuple) → Contains rule.rows row → Holds tuple rule row
holds_if_satisfied rule tuples tuple row satisfies tuple_there is there match =
    (satisfies row tuple tuple (sides_in rule tuple) (sides_in rule tuple) there tuple_there tuple_there is is (list_same (left_of tuple rule.x) (left_of tuple rule.x) refl) match).1
