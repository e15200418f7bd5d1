-- Attributes by their names.
use Rattle.std.proofs.Common.{◌≡◌, ℕ, ◌<◌, Bool, true, false, List, [], ◌∷◌, ◌++◌, length, get_or, Option, Some, None, refl, sym, ap, ◌∙◌, ⊎_elim, arith, subst}
use Rattle.std.specs.Prelude.{◌≢◌, ◌==◌, ◌||◌, HoldsAt, slice_get, option_map}
use Rattle.std.specs.List.{All, Any, list_any}
use Rattle.std.specs.Option.{option_map_or}
use Rattle.std.specs.Str.{bytes_eq}
use Rattle.std.proofs.lemmas.Bool.{cases_lt, cases_Bool}
use Rattle.std.proofs.lemmas.Bool.Decides.{eqb_tells}
use Rattle.std.proofs.lemmas.List.Folds.{list_any-append}
use Rattle.std.proofs.lemmas.Option.{slice_get-get_or, slice_get-map, slice_get_cases, slice_get_read, slice_get_within, get_or_from_slice_get, none-some, same_Some}
use Rattle.std.proofs.lemmas.Slice.Eq.{bytes_eq-Decides}
use Rattle.text_lists.specs.Repeats.{AreDistinct}
use Rattle.schema_core.specs.Schemas.{names_of_attrs}
use Rattle.schema_core.specs.Lookups.{attrs_at}
use Rattle.schema_core.specs.declared.schema.Attr.{Attr}
use Rattle.schema_core.specs.declared.schema.Table.{Table}
use Rattle.schema_core.specs.declared.schema.Schema.{Schema}
use Rattle.rule_runs.specs.Marks.{with_attr}
use Rattle.rule_runs.proofs.Lists.{slice_get-either}
use Rattle.fix_engine.specs.Questions.{is_vouched}

-- whether an attribute that may be missing has one of the names
abbrev is_named : List (List ℕ) → Option Attr → Bool
is_named names o = option_map_or (λ (a : Attr). list_any (bytes_eq a.name) names) o false

-- with no name nothing is vouched for
pub is_vouched-none : (attrs : List Attr) (attr : ℕ) → is_vouched attrs [] attr ≡ false
is_vouched-none attrs attr =
    ⊎_elim (λ (a, is). ap (is_named []) is) (λ none. ap (is_named []) none) (slice_get-either attrs attr)

name_at : (attrs : List Attr) (k : ℕ) (a : Attr) (d : List ℕ) → slice_get attrs k ≡ Some a → get_or (names_of_attrs attrs) k d ≡ a.name
name_at attrs k a d is =
    get_or_from_slice_get (names_of_attrs attrs) k a.name d (slice_get-map (λ (b : Attr). b.name) attrs k ∙ ap (option_map (λ (b : Attr). b.name)) is)

-- attributes at different places have different names
apart : (attrs : List Attr) (k other : ℕ) (b a : Attr) → AreDistinct (names_of_attrs attrs) → slice_get attrs k ≡ Some b → slice_get attrs other ≡ Some a → other ≢ k → a.name ≢ b.name
apart attrs k other b a distinct here there differ same =
    let names = names_of_attrs attrs in
    let long = slice_get_within names other a.name (slice_get-map (λ (c : Attr). c.name) attrs other ∙ ap (option_map (λ (c : Attr). c.name)) there) in
    let long' = slice_get_within names k b.name (slice_get-map (λ (c : Attr). c.name) attrs k ∙ ap (option_map (λ (c : Attr). c.name)) here) in
    ⊎_elim
    (λ below. distinct other k a.name below long' (name_at attrs other a a.name there ∙ same ∙ sym (name_at attrs k b a.name here)))
    (λ not_below.
    ⊎_elim
    (λ above. distinct k other a.name above long (name_at attrs k b a.name here ∙ sym same ∙ sym (name_at attrs other a a.name there)))
    (λ not_above. differ (omega arith))
    (cases_lt k other))
    (cases_lt other k)

-- the attribute of a name is the one that has it
same_name : (attrs : List Attr) (name : List ℕ) (k other : ℕ) (b a : Attr) → AreDistinct (names_of_attrs attrs) → slice_get attrs k ≡ Some b → b.name ≡ name → slice_get attrs other ≡ Some a → bytes_eq a.name name ≡ (other == k)
same_name attrs name k other b a distinct here is there =
    ⊎_elim
    (λ (is_so, e).
    let alike : a ≡ b = let o = sym there ∙ ap (slice_get attrs) e ∙ here in same_Some a b o in
    (bytes_eq-Decides a.name name).1 (ap (λ (c : Attr). c.name) alike ∙ is) ∙ sym is_so)
    (λ (isnt, differ).
    ⊎_elim
    (λ equal. absurd (apart attrs k other b a distinct here there differ ((bytes_eq-Decides a.name name).0 equal ∙ sym is)))
    (λ unequal. unequal ∙ sym isnt)
    (cases_Bool (bytes_eq a.name name)))
    (eqb_tells other k)

-- one more name
pub is_vouched-push : (attrs : List Attr) (names : List (List ℕ)) (name : List ℕ) (k other : ℕ) → AreDistinct (names_of_attrs attrs) → k < length attrs → HoldsAt (λ (a : Attr). a.name ≡ name) attrs k → is_vouched attrs (names ++ name ∷ []) other ≡ with_attr (is_vouched attrs names) k other
is_vouched-push attrs names name k other distinct within named =
    ⊎_elim
    (λ (a, is).
    let b = get_or attrs k a in
    let same = same_name attrs name k other b a distinct (slice_get-get_or attrs k a within) (named a) is in
    ap (is_named (names ++ name ∷ [])) is
    ∙ list_any-append (bytes_eq a.name) names (name ∷ [])
    ∙ swapped (list_any (bytes_eq a.name) names) (bytes_eq a.name name)
    ∙ ap (λ t. t || list_any (bytes_eq a.name) names) same
    ∙ ap (λ o. other == k || is_named names o) (sym is))
    (λ none.
    ap (is_named (names ++ name ∷ [])) none
    ∙ sym (ap (λ t. t || is_vouched attrs names other) (past none) ∙ ap (is_named names) none))
    (slice_get-either attrs other)
  where
    swapped : (x y : Bool) → (x || (y || false)) ≡ (y || x)
    swapped true true = refl
    swapped true false = refl
    swapped false true = refl
    swapped false false = refl

    past : slice_get attrs other ≡ None → (other == k) ≡ false
    past none =
        ⊎_elim
        (λ (is_so, e).
        ⊎_elim
        (λ (b, _, here, _). absurd (none-some b (sym none ∙ ap (slice_get attrs) e ∙ here)))
        (λ (beyond, _). absurd (omega arith))
        (slice_get_cases attrs k).1)
        (λ (isnt, differ). isnt)
        (eqb_tells other k)

-- what holds of no name fails of each
pub not_any : {X : Type 0} (P : X → Type 0) (xs : List X) → All (λ x. ¬ P x) xs → ¬ Any P xs
not_any P xs none (k, x, within, is, holds) = none k x within (subst P (sym is) holds)

-- the attributes of a table that is read from a schema
pub attrs_read : (schema : Schema) (tables : List Table) (table : ℕ) (t : Table) → tables ≡ schema.tables → table < length schema.tables → t ≡ get_or tables table t → attrs_at schema table ≡ t.attrs
attrs_read schema tables table t same within is =
    let here : slice_get schema.tables table ≡ Some t = slice_get_read schema.tables (length schema.tables) table t refl within (subst (λ (ts : List Table). t ≡ get_or ts table t) same is) in
    ap (λ o. option_map_or (λ (u : Table). u.attrs) o []) here
