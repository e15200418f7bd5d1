-- How the A ids of a group spread tells whether it is dirty.
use Rattle.std.proofs.Common.{◌≡◌, ◌≢◌, ℕ, ◌<◌, ◌≤◌, Bool, true, false, not, ◌&&◌, ◌||◌, List, [], ◌∷◌, length, slice_get, Some, refl, sym, ap, ◌∙◌, subst, inl, inr, arith}
use Rattle.std.specs.Prelude.{nat_eq, Contains}
use Rattle.std.specs.List.{list_any}
use Rattle.std.specs.Ordering.{is_lt, is_gt}
use Rattle.std.specs.BTreeSet.{BTreeSet, contains, IsUpperBound, IsLowerBound}
use Rattle.std.proofs.lemmas.Bool.{cases_lt, cases_eq}
use Rattle.std.proofs.lemmas.Bool.Decides.{nat_tests}
use Rattle.std.proofs.lemmas.Option.{same_Some}
use Rattle.cfd_semantics.specs.declared.pattern.Pattern.{Pattern}
use Rattle.cfd_semantics.specs.declared.dependency.TableauRow.{TableauRow}
use Rattle.cfd_semantics.specs.Pattern.{matches, all_match}
use Rattle.cfd_semantics.proofs.InclusionLaw.{found_by_any, any_from_found}
use Rattle.group_index.specs.declared.group.Group.{Group}
use Rattle.group_index.specs.contracts.spread.SpreadPartialEq.TheImpl.{ghosts}
use Rattle.group_index.specs.declared.spread.Spread.{Spread}
use Rattle.group_index.specs.declared.spread.Spread.TheVariants.{Nothing, Alike, Both, Mixed}
use Rattle.group_index.specs.Pairs.{Pair, pairs_of, IsSpread, is_mixed, is_turning, is_both, disagree, is_dirty}
use Rattle.group_index.specs.Groups.{KeyedGroup, KeyedGroups, is_dirty_at, AreMarked, AreMarkedBut, IsMarkedBy}
use Rattle.group_index.proofs.GroupFacts.{set_value_at, set_here, clash}
use Rattle.group_index.proofs.PairFacts.{pair_cmp, set_has, has_from, member_from, any_same, none_pass}

-- ---- equal spreads are one

pub unflip : (b : Bool) → not b ≡ false → b ≡ true
unflip true is = refl
unflip false is = absurd (cc)

pub same_spread : (one other : Spread) → ghosts.eq one other ≡ true → one ≡ other
same_spread Nothing Nothing is = refl
same_spread Nothing (Alike b) is = absurd (cc)
same_spread Nothing Both is = absurd (cc)
same_spread Nothing Mixed is = absurd (cc)
same_spread (Alike a) Nothing is = absurd (cc)
same_spread (Alike a) (Alike b) is = let same : a ≡ b = grind (arith, nat_tests, is) in ap Alike same
same_spread (Alike a) Both is = absurd (cc)
same_spread (Alike a) Mixed is = absurd (cc)
same_spread Both Nothing is = absurd (cc)
same_spread Both (Alike b) is = absurd (cc)
same_spread Both Both is = refl
same_spread Both Mixed is = absurd (cc)
same_spread Mixed Nothing is = absurd (cc)
same_spread Mixed (Alike b) is = absurd (cc)
same_spread Mixed Both is = absurd (cc)
same_spread Mixed Mixed is = refl

-- ---- the least and the greatest pair of a set

pub nothing_there : (pairs : List Pair) → length pairs ≡ 0 → IsSpread pairs Nothing
nothing_there pairs none q inside = absurd (empty pairs none inside)
  where
    empty : (ps : List Pair) → length ps ≡ 0 → Contains ps q → ⊥
    empty [] none (place, within, is) = omega (arith, within)
    empty (p ∷ ps) none inside = omega arith

module _ (s : BTreeSet Pair) (least greatest : Pair) (has_least : contains pair_cmp s least ≡ true) (has_greatest : contains pair_cmp s greatest ≡ true) where
  pub alike_between : IsLowerBound pair_cmp s least → IsUpperBound pair_cmp s greatest → least.0 ≡ greatest.0 → IsSpread s.keys (Alike least.0)
  alike_between low high same = (
    (least.1, member_from s.keys least (sym (set_has s least) ∙ has_least)),
    λ q inside.
        let there : contains pair_cmp s q ≡ true = set_has s q ∙ has_from s.keys q inside in
        let above = low q there in
        let below = high q there in
        within q above below,
  )
    where
      within : (q : Pair) → is_gt (pair_cmp least q) ≡ false → is_lt (pair_cmp greatest q) ≡ false → q.0 ≡ least.0
      within q above below = elim (cases_lt q.0 least.0) [
        | inl h ↦ absurd (grind (arith, nat_tests))
        | inr from ↦ elim (cases_lt greatest.0 q.0) [
          | inl h ↦ absurd (grind (arith, nat_tests))
          | inr to ↦ omega (arith, from, to, same)
        ]
      ]

  pub mixed_between : least.0 ≢ greatest.0 → IsSpread s.keys Mixed
  mixed_between apart = (least, greatest, member_from s.keys least (sym (set_has s least) ∙ has_least), member_from s.keys greatest (sym (set_has s greatest) ∙ has_greatest), apart)

-- ---- the first pair of a list

pub first_inside : (pairs : List Pair) (first : Pair) → slice_get pairs 0 ≡ Some first → Contains pairs first
first_inside [] first is = absurd (cc)
first_inside (p ∷ ps) first is = (0, omega arith, same_Some p first is)

module _ (pairs : List Pair) (first : Pair) (here : Contains pairs first) where
  pub mixed_among : list_any (λ p. not (nat_eq p.0 first.0)) pairs ≡ true → IsSpread pairs Mixed
  mixed_among some = let found = found_by_any (λ p. not (nat_eq p.0 first.0)) pairs some in (found.0, first, found.1, here, differ found.0 found.2)
    where
      differ : (p : Pair) → not (nat_eq p.0 first.0) ≡ true → p.0 ≢ first.0
      differ p does same = absurd (grind (arith, nat_tests, does, same))

  pub alike_among : list_any (λ p. not (nat_eq p.0 first.0)) pairs ≡ false → IsSpread pairs (Alike first.0)
  alike_among none = (
    (first.1, here),
    λ q inside. elim (cases_eq q.0 first.0) [
      | inl same ↦ same
      | inr apart ↦ let some = any_from_found (λ p. not (nat_eq p.0 first.0)) pairs q inside (grind (arith, nat_tests, apart)) in absurd (cc)
    ],
  )

-- ---- dirty groups

-- what the spread tells of it
abbrev told_by : List (TableauRow ℕ) → List ℕ → Spread → Bool
told_by rows x Nothing = false
told_by rows x (Alike a) = list_any (λ t. all_match nat_eq t.x x && not (matches nat_eq t.a a)) rows
told_by rows x Both = list_any (λ t. all_match nat_eq t.x x) rows
told_by rows x Mixed = list_any (λ t. all_match nat_eq t.x x) rows

never : (b : Bool) → (b && false) ≡ false
never true = refl
never false = refl

pub unmixed : (pairs : List Pair) (a : ℕ) → ((q : Pair) → Contains pairs q → q.0 ≡ a) → is_mixed pairs ≡ false
unmixed pairs a same =
    none_pass (λ p. list_any (λ q. not (nat_eq p.0 q.0)) pairs) pairs (λ p inside. none_pass (λ q. not (nat_eq p.0 q.0)) pairs (λ q beside. let one = same p inside in let other = same q beside in grind (arith, nat_tests)))

module _ (rows : List (TableauRow ℕ)) (x : List ℕ) (pairs : List Pair) where
  -- two A ids differ
  dirty_by_two : (p q : Pair) → Contains pairs p → Contains pairs q → p.0 ≢ q.0 → is_dirty rows x pairs ≡ list_any (λ t. all_match nat_eq t.x x) rows
  dirty_by_two p q has_p has_q apart =
      any_same (λ t. all_match nat_eq t.x x && disagree t.a pairs) (λ t. all_match nat_eq t.x x) (λ t. ap (λ b. all_match nat_eq t.x x && b) (differs t.a) ∙ always (all_match nat_eq t.x x)) rows
    where
      always : (b : Bool) → (b && true) ≡ b
      always true = refl
      always false = refl

      differ : not (nat_eq p.0 q.0) ≡ true
      differ = grind (arith, nat_tests, apart)

      differs : (cell : Pattern ℕ) → disagree cell pairs ≡ true
      differs cell =
          ap (λ b. b || list_any (λ r. not (matches nat_eq cell r.0)) pairs) (any_from_found (λ r. list_any (λ o. not (nat_eq r.0 o.0)) pairs) pairs p has_p (any_from_found (λ o. not (nat_eq p.0 o.0)) pairs q has_q differ))

  pub dirty_by_spread : (spread : Spread) → IsSpread pairs spread → is_dirty rows x pairs ≡ told_by rows x spread
  dirty_by_spread Nothing none =
      none_pass (λ t. all_match nat_eq t.x x && disagree t.a pairs) rows (λ t inside. ap (λ b. all_match nat_eq t.x x && b) (agrees t.a) ∙ never (all_match nat_eq t.x x))
    where
      agrees : (cell : Pattern ℕ) → disagree cell pairs ≡ false
      agrees cell =
          rw (none_pass (λ p. list_any (λ q. not (nat_eq p.0 q.0)) pairs) pairs (λ p inside. absurd (none p inside)), none_pass (λ p. not (matches nat_eq cell p.0)) pairs (λ p inside. absurd (none p inside))) refl
  dirty_by_spread (Alike a) (some, same) =
      any_same (λ t. all_match nat_eq t.x x && disagree t.a pairs) (λ t. all_match nat_eq t.x x && not (matches nat_eq t.a a)) (λ t. ap (λ b. all_match nat_eq t.x x && b) (differs t.a)) rows
    where
      by : (cell : Pattern ℕ) (b : Bool) → matches nat_eq cell a ≡ b → list_any (λ p. not (matches nat_eq cell p.0)) pairs ≡ not b
      by cell true is = none_pass (λ p. not (matches nat_eq cell p.0)) pairs (λ p inside. ap (λ c. not (matches nat_eq cell c)) (same p inside) ∙ ap not is)
      by cell false is = any_from_found (λ p. not (matches nat_eq cell p.0)) pairs (a, some.0) some.1 (ap not is)

      differs : (cell : Pattern ℕ) → disagree cell pairs ≡ not (matches nat_eq cell a)
      differs cell = ap (λ b. b || list_any (λ p. not (matches nat_eq cell p.0)) pairs) (unmixed pairs a same) ∙ by cell (matches nat_eq cell a) refl
  dirty_by_spread Both (p, q, has_p, has_q, apart) = dirty_by_two p q has_p has_q apart
  dirty_by_spread Mixed (p, q, has_p, has_q, apart) = dirty_by_two p q has_p has_q apart

-- groups with one key whose A ids spread alike are dirty alike
pub dirty_alike : (rows : List (TableauRow ℕ)) (x : List ℕ) (pairs others : List Pair) (spread : Spread) → IsSpread pairs spread → IsSpread others spread → is_dirty rows x pairs ≡ is_dirty rows x others
dirty_alike rows x pairs others spread is also = dirty_by_spread rows x pairs spread is ∙ sym (dirty_by_spread rows x others spread also)

-- ---- marks

-- a mark that is right for how A ids are spread
pub marked_by_spread : (rows : List (TableauRow ℕ)) (groups : KeyedGroups) (place : ℕ) (at : KeyedGroup) (spread : Spread) → slice_get groups.pairs place ≡ Some at → IsSpread (pairs_of at.1) spread → is_both spread ≡ false → IsMarkedBy rows groups place spread
    → AreMarkedBut rows groups place → AreMarked rows groups
marked_by_spread rows groups place at spread there is one by others = record {
  marked = λ i g below stands steady. elim (cases_eq i place) [
    | inl same ↦ ap (is_dirty_at rows) (sym (own i g same stands)) ∙ (by at (pairs_of at.1) there is one).0 (subst (λ n. n < groups.marked) same below)
    | inr apart ↦ others.0 i g apart below stands steady
  ];
  unmarked = λ i g past stands steady. elim (cases_eq i place) [
    | inl same ↦ ap (is_dirty_at rows) (sym (own i g same stands)) ∙ (by at (pairs_of at.1) there is one).1 (subst (λ n. groups.marked ≤ n) same past)
    | inr apart ↦ others.1 i g apart past stands steady
  ];
}
  where
    own : (i : ℕ) (g : KeyedGroup) → i ≡ place → slice_get groups.pairs i ≡ Some g → at ≡ g
    own i g same stands = same_Some at g (sym there ∙ ap (slice_get groups.pairs) (sym same) ∙ stands)

-- any mark is right of a group that is turning
pub marked_while_turning : (rows : List (TableauRow ℕ)) (groups : KeyedGroups) (place : ℕ) (at : KeyedGroup) → slice_get groups.pairs place ≡ Some at → is_turning at.1 ≡ true → AreMarkedBut rows groups place → AreMarked rows groups
marked_while_turning rows groups place at there turning others = record {
  marked = λ i g below stands steady. elim (cases_eq i place) [
    | inl same ↦ absurd (own i g same stands steady)
    | inr apart ↦ others.0 i g apart below stands steady
  ];
  unmarked = λ i g past stands steady. elim (cases_eq i place) [
    | inl same ↦ absurd (own i g same stands steady)
    | inr apart ↦ others.1 i g apart past stands steady
  ];
}
  where
    own : (i : ℕ) (g : KeyedGroup) → i ≡ place → slice_get groups.pairs i ≡ Some g → is_turning g.1 ≡ false → ⊥
    own i g same stands steady = clash (is_turning g.1) (ap (λ (h : KeyedGroup). is_turning h.1) (sym (same_Some at g (sym there ∙ ap (slice_get groups.pairs) (sym same) ∙ stands))) ∙ turning) steady

-- a mark that was right stays right for how A ids were spread, whatever group stands there now
pub marked_as_before : (rows : List (TableauRow ℕ)) (groups : KeyedGroups) (place : ℕ) (at : KeyedGroup) (w : Group) (spread : Spread) → slice_get groups.pairs place ≡ Some at → IsSpread (pairs_of at.1) spread × (is_both spread ≡ is_turning at.1) → AreMarked rows groups
    → IsMarkedBy rows (record { pairs = set_value_at groups.pairs place w; marked = groups.marked }) place spread
marked_as_before rows groups place at w spread there (is, turning) are now pairs stands spreads one =
    let own : ◌≡◌ {A = KeyedGroup} (at.0, w) now = same_Some (at.0, w) now (sym (set_here groups.pairs place at.0 at.1 w there) ∙ stands) in
    let was : is_dirty rows now.0.items pairs ≡ is_dirty_at rows at = ap (λ (g : KeyedGroup). is_dirty rows g.0.items pairs) (sym own) ∙ dirty_alike rows at.0.items pairs (pairs_of at.1) spread spreads is in
    ((λ below. was ∙ are.marked place at below there (sym turning ∙ one)), (λ past. was ∙ are.unmarked place at past there (sym turning ∙ one)))
