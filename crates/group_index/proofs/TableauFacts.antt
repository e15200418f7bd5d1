-- Rows of a tableau that are found by what they ask for.
use Rattle.std.proofs.Common.{◌≡◌, ℕ, zero, suc, ◌+◌, ◌<◌, Bool, true, false, cond, ◌&&◌, ◌||◌, List, [], ◌∷◌, length, slice_get, Option, Some, None, refl, sym, ap, ◌∙◌, subst, inl, inr, arith}
use Rattle.std.specs.Prelude.{nat_eq, Contains, filter, get_or}
use Rattle.std.specs.List.{list_any}
use Rattle.std.specs.Option.{option_map_or}
use Rattle.std.specs.BTreeSet.{BTreeSet, contains}
use Rattle.std.specs.BTreeMap.{is_at}
use Rattle.std.specs.BTreeMap.Range.{range_contains}
use Rattle.std.specs.declared.ops.Bound.TheVariants.{Included}
use Rattle.std.proofs.lemmas.Bool.{cases_lt}
use Rattle.std.proofs.lemmas.Bool.Decides.{nat_tests}
use Rattle.std.proofs.lemmas.List.{get_or_default}
use Rattle.std.proofs.lemmas.Option.{none-some, same_Some}
use Rattle.cfd_semantics.specs.declared.pattern.Pattern.{Pattern}
use Rattle.cfd_semantics.specs.declared.pattern.Pattern.TheVariants.{Any, Is, In, NotIn}
use Rattle.cfd_semantics.specs.declared.dependency.TableauRow.{TableauRow}
use Rattle.cfd_semantics.specs.Pattern.{matches, all_match}
use Rattle.cfd_semantics.proofs.InclusionLaw.{found_by_any, any_from_found}
use Rattle.group_index.specs.declared.tableau.Finder.{Finder}
use Rattle.group_index.specs.Pairs.{Pair, has_pair, is_pair}
use Rattle.group_index.specs.Tableaux.{FindsRow, FindsRows, IsFoundBy, IsKept, asked_by, is_asked, members_of, offends, offends_at}
use Rattle.group_index.proofs.GroupFacts.{both_true, both_so, left_so, one_true, right_so, same_test}
use Rattle.group_index.proofs.PairFacts.{any_same, has_from, member_from, pair_cmp, put_from_insert}

-- ---- places

-- what stands at a place is a member
pub member_at : {X : Type 0} (xs : List X) (k : ℕ) (x : X) → slice_get xs k ≡ Some x → Contains xs x
member_at [] k x at = absurd (none-some x at)
member_at (y ∷ ys) zero x at = (0, omega arith, same_Some y x at)
member_at (y ∷ ys) (suc k) x at = let later = member_at ys k x at in (suc later.0, omega (arith, later.1), later.2)

-- a member stands at a place
pub place_of : {X : Type 0} (xs : List X) (x : X) → Contains xs x → (k : ℕ) × (k < length xs) × (slice_get xs k ≡ Some x)
place_of [] x (k, below, is) = absurd (omega (arith, below))
place_of (y ∷ ys) x (zero, below, is) = (0, omega arith, ap Some is)
place_of (y ∷ ys) x (suc k, below, is) = let later = place_of ys x (k, omega (arith, below), is) in (suc later.0, omega (arith, later.1), later.2)

-- ---- a key that matches a row asks as the row does

all_at : (cells : List (Pattern ℕ)) (x : List ℕ) (place id : ℕ) (cell : Pattern ℕ) → all_match nat_eq cells x ≡ true → slice_get x place ≡ Some id → slice_get cells place ≡ Some cell → matches nat_eq cell id ≡ true
all_at [] x place id cell all at has = absurd (none-some cell has)
all_at (c ∷ cs) [] place id cell all at has = absurd (none-some id at)
all_at (c ∷ cs) (i ∷ is) zero id cell all at has =
    let both = both_true (matches nat_eq c i) (all_match nat_eq cs is) all in
    sym (ap (λ d. matches nat_eq d id) (same_Some c cell has)) ∙ sym (ap (matches nat_eq c) (same_Some i id at)) ∙ both.0
all_at (c ∷ cs) (i ∷ is) (suc place) id cell all at has = all_at cs is place id cell (both_true (matches nat_eq c i) (all_match nat_eq cs is) all).1 at has

-- the id of a key that matches is one of the members
among_members : (cell : Pattern ℕ) (members : List ℕ) (id : ℕ) → matches nat_eq cell id ≡ true → members_of cell ≡ Some members → Contains members id
among_members Any members id does is = absurd (none-some members is)
among_members (Is constant) members id does is =
    let same : constant ≡ id = grind (arith, nat_tests, does) in
    subst (λ ms. Contains ms id) (same_Some (constant ∷ []) members is) (0, omega arith, same)
among_members (In own) members id does is =
    let found = found_by_any (λ member. nat_eq member id) own does in
    let same : found.0 ≡ id = grind (arith, nat_tests, found.2) in
    subst (λ ms. Contains ms id) (same_Some own members is) (subst (Contains own) same found.1)
among_members (NotIn own) members id does is = absurd (none-some members is)

asked_among : (cells : List (Pattern ℕ)) (x : List ℕ) (place id : ℕ) (members : List ℕ) → all_match nat_eq cells x ≡ true → slice_get x place ≡ Some id → asked_by (slice_get cells place) ≡ Some members → Contains members id
asked_among cells x place id members all at is = by (slice_get cells place) refl is
  where
    by : (cell : Option (Pattern ℕ)) → slice_get cells place ≡ cell → asked_by cell ≡ Some members → Contains members id
    by None has is = absurd (none-some members is)
    by (Some cell) has is = among_members cell members id (all_at cells x place id cell all at has) is

-- ---- the rows that are found

module _ (finder : Finder) (rows : List (TableauRow ℕ)) (x : List ℕ) (a : Option ℕ) (id : ℕ) where
  abbrev among_others : Bool
  among_others = list_any (offends_at rows x a) finder.others.items

  abbrev among_asked : Bool
  among_asked = list_any (λ p. is_asked id p && offends_at rows x a p.1) finder.asked.keys

  there : (k : ℕ) → offends_at rows x a k ≡ true → list_any (offends x a) rows ≡ true
  there k is = by (slice_get rows k) refl is
    where
      by : (row : Option (TableauRow ℕ)) → slice_get rows k ≡ row → option_map_or (offends x a) row false ≡ true → list_any (offends x a) rows ≡ true
      by None at is = absurd (cc)
      by (Some t) at is = any_from_found (offends x a) rows t (member_at rows k t at) is

  from_others : among_others ≡ true → list_any (offends x a) rows ≡ true
  from_others is = let found = found_by_any (offends_at rows x a) finder.others.items is in there found.0 found.2

  from_asked : among_asked ≡ true → list_any (offends x a) rows ≡ true
  from_asked is =
      let found = found_by_any (λ (p : Pair). is_asked id p && offends_at rows x a p.1) finder.asked.keys is in
      there found.0.1 (both_true (is_asked id found.0) (offends_at rows x a found.0.1) found.2).1

  module _ (all : FindsRows finder rows) (few : length rows < 9223372036854775808) (at : slice_get x finder.place ≡ Some id) where
    found_one : (k : ℕ) (t : TableauRow ℕ) → k < length rows → slice_get rows k ≡ Some t → offends x a t ≡ true → (among_others || among_asked) ≡ true
    found_one k t below stands does = by (asked_by (slice_get t.x finder.place)) refl (all k t stands)
      where
        here : offends_at rows x a k ≡ true
        here = rw stands does

        by : (members : Option (List ℕ)) → asked_by (slice_get t.x finder.place) ≡ members → IsFoundBy finder k members → (among_others || among_asked) ≡ true
        by None is found = left_so among_others among_asked (any_from_found (offends_at rows x a) finder.others.items k found here)
        by (Some members) is found =
            let asks = asked_among t.x x finder.place id members (both_true (all_match nat_eq t.x x) _ does).0 at is in
            let asked : is_asked id (id, k) ≡ true = grind (arith, nat_tests, few, below) in
            right_so among_others among_asked (any_from_found (λ (p : Pair). is_asked id p && offends_at rows x a p.1) finder.asked.keys (id, k) (subst (λ m. Contains finder.asked.keys (m, k)) asks.2 (found asks.0 id asks.1)) (both_so (is_asked id (id, k)) (offends_at rows x a k) asked here))

    pub offended_by : (among_others || among_asked) ≡ list_any (offends x a) rows
    offended_by =
        same_test (among_others || among_asked) (list_any (offends x a) rows) (λ is. elim (one_true among_others among_asked is) [
          | inl other ↦ from_others other
          | inr asked ↦ from_asked asked
        ])
        (λ is.
        let found = found_by_any (offends x a) rows is in
        let stood = place_of rows found.0 found.1 in
        found_one stood.0 found.0 stood.1 stood.2 found.2)

    -- some row among the others is one, or else one of those that ask for the id
    pub offended_there : (some : Bool) → some ≡ among_others → some ≡ true → some ≡ list_any (offends x a) rows
    offended_there some told is = is ∙ sym (left_so among_others among_asked (sym told ∙ is)) ∙ offended_by

    pub offended_else : (some other : Bool) → some ≡ among_others → some ≡ false → other ≡ among_asked → other ≡ list_any (offends x a) rows
    offended_else some other told is asked = asked ∙ sym (ap (λ b. b || among_asked) (sym told ∙ is)) ∙ offended_by

-- ---- the range of the rows that ask for an id

pub asked_range : (id : ℕ) (test : Pair → Bool) (keys : List Pair)
    → list_any test (filter (range_contains pair_cmp (Included (id, 0)) (Included (id, 18446744073709551615))) keys) ≡ list_any (λ p. is_asked id p && test p) keys
asked_range id test [] = refl
asked_range id test (p ∷ ps) = step (range_contains pair_cmp (Included (id, 0)) (Included (id, 18446744073709551615)) p) (is_asked id p) inside (filter (range_contains pair_cmp (Included (id, 0)) (Included (id, 18446744073709551615))) ps) (list_any (λ q. is_asked id q && test q) ps) (asked_range id test ps)
  where
    inside : range_contains pair_cmp (Included (id, 0)) (Included (id, 18446744073709551615)) p ≡ is_asked id p
    inside = grind (arith, nat_tests)

    step : (b c : Bool) → b ≡ c → (rest : List Pair) (later : Bool) → list_any test rest ≡ later → list_any test (cond b (p ∷ rest) rest) ≡ ((c && test p) || later)
    step true true same rest later is = ap (λ l. test p || l) is
    step true false same rest later is = absurd (cc)
    step false true same rest later is = absurd (cc)
    step false false same rest later is = is

-- ---- adding rows

pub kept_at_once : (finder : Finder) → IsKept finder finder
kept_at_once finder = record { place = refl; asked = λ p inside. inside; others = λ k inside. inside }

pub kept_twice : (one other third : Finder) → IsKept one other → IsKept other third → IsKept one third
kept_twice one other third first second = record { place = second.place ∙ first.place; asked = λ p inside. second.asked p (first.asked p inside); others = λ k inside. second.others k (first.others k inside) }

pub found_still : (old new : Finder) (k : ℕ) (members : Option (List ℕ)) → IsKept old new → IsFoundBy old k members → IsFoundBy new k members
found_still old new k None kept found = kept.others k found
found_still old new k (Some members) kept found = λ place member below. kept.asked _ (found place member below)

pub finds_still : (old new : Finder) (k : ℕ) (t : TableauRow ℕ) → IsKept old new → FindsRow old k t → FindsRow new k t
finds_still old new k t kept found = rw kept.place (found_still old new k (asked_by (slice_get t.x old.place)) kept found)

pub inserted_is_in : (s n : BTreeSet Pair) (p : Pair) → ((q : Pair) → contains pair_cmp n q ≡ cond (is_at (pair_cmp p) q) true (contains pair_cmp s q)) → Contains n.keys p
inserted_is_in s n p updates =
    let put = put_from_insert s n p updates in
    let own : is_pair p p ≡ true = grind (arith, nat_tests) in
    member_from n.keys p (put p ∙ left_so (is_pair p p) (has_pair s.keys p) own)

pub inserted_keeps : (s n : BTreeSet Pair) (p : Pair) → ((q : Pair) → contains pair_cmp n q ≡ cond (is_at (pair_cmp p) q) true (contains pair_cmp s q)) → (q : Pair) → Contains s.keys q → Contains n.keys q
inserted_keeps s n p updates q inside =
    let put = put_from_insert s n p updates in
    member_from n.keys q (put q ∙ right_so (is_pair q p) (has_pair s.keys q) (has_from s.keys q inside))

-- one more member is there
pub one_more_member : (finder new : Finder) (k place : ℕ) (members : List ℕ) → place < length members → ((at : ℕ) (d : ℕ) → at < place → Contains finder.asked.keys (get_or members at d, k)) → Contains new.asked.keys (get_or members place 0, k)
    → IsKept finder new → (at : ℕ) (d : ℕ) → at < place + 1 → Contains new.asked.keys (get_or members at d, k)
one_more_member finder new k place members within before now kept at d below = elim (cases_lt at place) [
  | inl earlier ↦ kept.asked (get_or members at d, k) (before at d earlier)
  | inr from ↦
      let same : place ≡ at = omega (arith, below, from) in
      let own : get_or members place 0 ≡ get_or members at d = ap (λ n. get_or members n 0) same ∙ sym (get_or_default members at d 0 (omega (arith, within, same))) in
      subst (λ m. Contains new.asked.keys (m, k)) own now
]

-- one more row is found
pub one_more_row : (finder new : Finder) (rows : List (TableauRow ℕ)) (k : ℕ) (row : TableauRow ℕ) → slice_get rows k ≡ Some row → ((at : ℕ) (t : TableauRow ℕ) → at < k → slice_get rows at ≡ Some t → FindsRow finder at t) → FindsRow new k row
    → IsKept finder new → (at : ℕ) (t : TableauRow ℕ) → at < k + 1 → slice_get rows at ≡ Some t → FindsRow new at t
one_more_row finder new rows k row own before now kept at t below stands = elim (cases_lt at k) [
  | inl earlier ↦ finds_still finder new at t kept (before at t earlier stands)
  | inr from ↦
      let same : k ≡ at = omega (arith, below, from) in
      let is : row ≡ t = same_Some row t (sym own ∙ ap (slice_get rows) same ∙ stands) in
      subst (λ n. FindsRow new n t) same (subst (FindsRow new k) is now)
]

-- where no A id is given, each row that the key matches is one
pub offended_by_match : (rows : List (TableauRow ℕ)) (x : List ℕ) → list_any (offends x None) rows ≡ list_any (λ t. all_match nat_eq t.x x) rows
offended_by_match rows x = any_same (offends x None) (λ t. all_match nat_eq t.x x) (λ t. always (all_match nat_eq t.x x)) rows
  where
    always : (b : Bool) → (b && true) ≡ b
    always true = refl
    always false = refl
