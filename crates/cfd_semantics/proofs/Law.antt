-- The list of a dependency's violations is empty exactly where its rows satisfy it, where `eq` is an equivalence.
use Rattle.std.proofs.Common.{◌≡◌, ℕ, ◌↔◌, Bool, true, false, cond, not, ◌&&◌, List, [], ◌∷◌, Option, None, Some, refl, sym, ap, ◌∙◌}
use Rattle.std.specs.Option.{option_map}
use Rattle.std.specs.List.{Contains, list_any}
use Rattle.std.specs.Cmp.{IsEquivalence}
use Rattle.std.proofs.lemmas.Cmp.{lists_equiv}
use Rattle.cfd_semantics.specs.declared.pattern.Pattern.{Pattern}
use Rattle.cfd_semantics.specs.declared.pattern.Pattern.TheVariants.{Any, Is, In, NotIn}
use Rattle.cfd_semantics.specs.declared.dependency.TableauRow.{TableauRow}
use Rattle.cfd_semantics.specs.declared.dependency.Dependency.{Dependency}
use Rattle.cfd_semantics.specs.declared.violation.Violation.{Violation}
use Rattle.cfd_semantics.specs.Pattern.{matches, all_match}
use Rattle.cfd_semantics.specs.Tuple.{same_values, tuples_of}
use Rattle.cfd_semantics.specs.Violation.{sides_of, Entry, entry_of, entries, is_single, is_pair, least, partners, least_partner, violation_of, violating, violations}
use Rattle.cfd_semantics.specs.Satisfaction.{Satisfies}
use Rattle.cfd_semantics.proofs.EntryFacts.{sides_in, entry_with, entry_from_sides, entry_parts, row_with_tuple, tuple_of_row}
use Rattle.cfd_semantics.proofs.Numbers.{numbered-empty}
use Rattle.cfd_semantics.proofs.Members.{contains-filter_map, contains_from_filter_map, nothing_from_empty, empty_from_nothing, none_pass_from_empty, empty_from_none_pass, map-empty}

-- ---- equal values match the same cells

any-equal : {V : Type 0} {eq : V → V → Bool} (laws : IsEquivalence eq) (a b : V) → eq a b ≡ true → (members : List V) → list_any (λ member. eq member a) members ≡ list_any (λ member. eq member b) members
any-equal laws a b e [] = refl
any-equal {eq = eq} laws a b e (member ∷ rest) =
    let head : eq member a ≡ eq member b = laws.symm member a ∙ laws.congr a b member e ∙ laws.symm b member in
    rw (head, any-equal laws a b e rest)

pub matches-equal : {V : Type 0} {eq : V → V → Bool} (laws : IsEquivalence eq) (a b : V) → eq a b ≡ true → (cell : Pattern V) → matches eq cell a ≡ matches eq cell b
matches-equal laws a b e Any = refl
matches-equal laws a b e (Is constant) = laws.symm constant a ∙ laws.congr a b constant e ∙ laws.symm b constant
matches-equal laws a b e (In members) = any-equal laws a b e members
matches-equal laws a b e (NotIn members) = ap not (any-equal laws a b e members)

both_true : (a b : Bool) → (a && b) ≡ true → (a ≡ true) × (b ≡ true)
both_true true b h = (refl, h)
both_true false b h = absurd (cc)

pub all_match-equal : {V : Type 0} {eq : V → V → Bool} (laws : IsEquivalence eq) (cells : List (Pattern V)) (xs ys : List V) → same_values eq xs ys ≡ true → all_match eq cells xs ≡ all_match eq cells ys
all_match-equal laws [] [] [] e = refl
all_match-equal laws [] [] (y ∷ ys) e = absurd (cc)
all_match-equal laws [] (x ∷ xs) [] e = absurd (cc)
all_match-equal laws [] (x ∷ xs) (y ∷ ys) e = refl
all_match-equal laws (cell ∷ cells) [] [] e = refl
all_match-equal laws (cell ∷ cells) [] (y ∷ ys) e = absurd (cc)
all_match-equal laws (cell ∷ cells) (x ∷ xs) [] e = absurd (cc)
all_match-equal {eq = eq} laws (cell ∷ cells) (x ∷ xs) (y ∷ ys) e =
    let parts = both_true (eq x y) (same_values eq xs ys) e in
    rw (matches-equal laws x y parts.0 cell, all_match-equal laws cells xs ys parts.1)

-- ---- one tableau row

-- the entries of the rows satisfy a tableau row
pub record Obeys {V : Type 0} (eq : V → V → Bool) (t : TableauRow V) (all : List (Entry V)) : Type 0 where
  pub imply : (e other : Entry V) → Contains all e → Contains all other → same_values eq e.x other.x ≡ true → all_match eq t.x e.x ≡ true → (eq e.a other.a ≡ true) × (matches eq t.a e.a ≡ true)

least-none : (ns : List ℕ) → least ns ≡ None → ns ≡ []
least-none [] h = refl
least-none (n ∷ ns) h = absurd (cc)

unlisted : {X Y : Type 0} (b : Bool) (y : Y) (f : X → Y) (o : Option X) → cond b (Some y) (option_map f o) ≡ None → (b ≡ false) × (o ≡ None)
unlisted true y f o h = absurd (cc)
unlisted false y f None h = (refl, refl)
unlisted false y f (Some x) h = absurd (cc)

abbrev violation : {V : Type 0} → Entry V → Option ℕ → Violation
violation e partner = record { row = e.row; partner = partner }

-- what is unlisted is no single and has no partner
no_single_no_pair : {V : Type 0} (eq : V → V → Bool) (t : TableauRow V) (all : List (Entry V)) (e : Entry V) → violation_of eq t all e ≡ None → (is_single eq t e ≡ false) × ((other : Entry V) → Contains all other → is_pair eq t e other ≡ false)
no_single_no_pair {V} eq t all e h =
    let parts = unlisted (is_single eq t e) (violation e None) (λ partner. violation e (Some partner)) (least_partner eq t all e) h in
    (parts.0, none_pass_from_empty (is_pair eq t e) all (map-empty (λ (other : Entry V). other.row) _ (least-none (partners eq t all e) parts.1)))

none_listed : {V : Type 0} (eq : V → V → Bool) (t : TableauRow V) (all : List (Entry V)) (e : Entry V) → is_single eq t e ≡ false → ((other : Entry V) → Contains all other → is_pair eq t e other ≡ false) → violation_of eq t all e ≡ None
none_listed eq t all e single pair =
    rw (single, empty_from_none_pass (is_pair eq t e) all pair)

no_single : (m a : Bool) → (m && not a) ≡ false → m ≡ true → a ≡ true
no_single m true h e = refl
no_single true false h e = absurd (cc)
no_single false false h e = absurd (cc)

not_true : (d : Bool) → not d ≡ false → d ≡ true
not_true true h = refl
not_true false h = absurd (cc)

no_pair : (s m n p q d : Bool) → (s && m && n && p && q && not d) ≡ false → s ≡ true → m ≡ true → n ≡ true → p ≡ true → q ≡ true → d ≡ true
no_pair s m n p q d h is_s is_m is_n is_p is_q = not_true d (rw (is_s, is_m, is_n, is_p, is_q) at h)

-- where nothing is listed, equal X values that match imply equal A values that match
obeys_from_none : {V : Type 0} {eq : V → V → Bool} (laws : IsEquivalence eq) (t : TableauRow V) (all : List (Entry V)) → violating eq t all ≡ [] → Obeys eq t all
obeys_from_none {V} {eq} laws t all h = record {
  imply = λ e other member beside same matched.
      let none = no_single_no_pair eq t all e (nothing_from_empty (violation_of eq t all) all h e member) in
      let none_beside = no_single_no_pair eq t all other (nothing_from_empty (violation_of eq t all) all h other beside) in
      let matched_beside : all_match eq t.x other.x ≡ true = sym (all_match-equal laws t.x e.x other.x same) ∙ matched in
      let right = no_single (all_match eq t.x e.x) (matches eq t.a e.a) none.0 matched in
      let right_beside = no_single (all_match eq t.x other.x) (matches eq t.a other.a) none_beside.0 matched_beside in
      (no_pair _ _ _ _ _ (eq e.a other.a) (none.1 other beside) same matched matched_beside right right_beside, right);
}

single_passes : (m a : Bool) → (m ≡ true → a ≡ true) → (m && not a) ≡ false
single_passes true a h = rw (h refl) refl
single_passes false a h = refl

and-false : (b : Bool) → (b && false) ≡ false
and-false true = refl
and-false false = refl

pair_passes : (s m n p q d : Bool) → (s ≡ true → m ≡ true → d ≡ true) → (s && m && n && p && q && not d) ≡ false
pair_passes true true n p q d h = rw (h refl refl) (and-false _)
pair_passes true false n p q d h = refl
pair_passes false m n p q d h = refl

none_from_obeys : {V : Type 0} {eq : V → V → Bool} (laws : IsEquivalence eq) (t : TableauRow V) (all : List (Entry V)) → Obeys eq t all → violating eq t all ≡ []
none_from_obeys {V} {eq} laws t all obeys = empty_from_nothing (violation_of eq t all) all (λ e member.
    none_listed eq t all e
    (single_passes (all_match eq t.x e.x) (matches eq t.a e.a) (λ matched. (obeys.imply e e member member ((lists_equiv laws).refl e.x) matched).1))
    (λ other beside. pair_passes _ _ _ _ _ (eq e.a other.a) (λ same matched. (obeys.imply e other member beside same matched).0)))

-- ---- the tableau

-- nothing is listed exactly where the entries obey each tableau row
none_where_obeyed : {V : Type 0} {eq : V → V → Bool} (laws : IsEquivalence eq) (d : Dependency V) (all : List (Entry V)) → (violations eq d all ≡ []) ↔ ((t : TableauRow V) → Contains d.rows t → Obeys eq t all)
none_where_obeyed {V} {eq} laws d all =
    let empty = numbered-empty (λ t. violating eq t all) d.rows in (
      (λ none t member. obeys_from_none laws t all (empty.0 none t member)),
      (λ obeyed. empty.1 (λ t member. none_from_obeys laws t all (obeyed t member))),
    )

-- ---- the law

-- the list of violations is empty exactly where the tuples satisfy the dependency
pub listing_is_empty_where_satisfied : {V : Type 0} {eq : V → V → Bool} (laws : IsEquivalence eq) (d : Dependency V) (rows : List (ℕ × List V)) → (violations eq d (entries d rows) ≡ []) ↔ Satisfies eq d (tuples_of rows)
listing_is_empty_where_satisfied {V} {eq} laws d rows =
    let law = none_where_obeyed laws d (entries d rows) in (
      (λ empty t. λ one_tuple other_tuple one other member first second has beside same matched.
          let row = row_with_tuple rows one_tuple first in
          let next = row_with_tuple rows other_tuple second in
          let e = entry_with row.0.0 one in
          let f = entry_with next.0.0 other in
          let e_in : Contains (entries d rows) e = contains-filter_map (entry_of d) rows row.0 e row.1 (entry_from_sides d row.0 one (ap (sides_of d) row.2 ∙ has)) in
          let f_in : Contains (entries d rows) f = contains-filter_map (entry_of d) rows next.0 f next.1 (entry_from_sides d next.0 other (ap (sides_of d) next.2 ∙ beside)) in
          (law.0 empty t member).imply e f e_in f_in same matched),
      (λ satisfies. law.1 (λ t member. record {
        imply = λ e f e_in f_in same matched.
            let row = contains_from_filter_map (entry_of d) rows e e_in in
            let next = contains_from_filter_map (entry_of d) rows f f_in in
            satisfies t row.0.1 next.0.1 (sides_in e) (sides_in f) member (tuple_of_row rows row.0 row.1) (tuple_of_row rows next.0 next.1)
            (entry_parts d row.0 e row.2).sides (entry_parts d next.0 f next.2).sides same matched;
      })),
    )
