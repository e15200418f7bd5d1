-- What is listed group by group, over the marked groups, are the violations of the set.
use Rattle.std.proofs.Common.{◌≡◌, ◌≢◌, ℕ, zero, suc, ◌+◌, ◌<◌, ◌≤◌, ◌⊎◌, true, false, List, [], ◌∷◌, ◌++◌, map, length, get_or, slice_get, Option, Some, None, refl, sym, ap, ◌∙◌, subst, inl, inr, arith}
use Rattle.std.specs.Prelude.{nat_eq, filter_map, AllPairs, Contains}
use Rattle.std.specs.List.{cons_option, IsDistinct, AllByRecursion}
use Rattle.std.specs.List.Sorted.{IsPermutation, IsNonDecreasingBy}
use Rattle.std.proofs.lemmas.Bool.{cases_lt}
use Rattle.std.proofs.lemmas.Bool.Decides.{nat_tests}
use Rattle.std.proofs.lemmas.List.Elements.{All-contains}
use Rattle.std.proofs.lemmas.List.Sorted.{IsPermutation-map, IsPermutation-sym, Contains-permutation}
use Rattle.std.proofs.lemmas.Map.Keys.{IsDistinct-IsPermutation, apart_from_distinct}
use Rattle.std.proofs.lemmas.Option.{same_Some}
use Rattle.smallvec.specs.SmallVec.{SmallVec}
use Rattle.marked_map.specs.MarkedMap.{HaveDistinctKeys}
use Rattle.cfd_semantics.specs.declared.dependency.TableauRow.{TableauRow}
use Rattle.cfd_semantics.specs.declared.dependency.Dependency.{Dependency}
use Rattle.cfd_semantics.specs.declared.violation.Violation.{Violation}
use Rattle.cfd_semantics.specs.Pattern.{all_match}
use Rattle.cfd_semantics.specs.Violation.{Entry, violating}
use Rattle.cfd_semantics.specs.EntrySets.{HasOneARow, IsRising, IsEntryList, IsListedWith}
use Rattle.cfd_semantics.specs.Dirty.{IsDirtyGroup}
use Rattle.cfd_semantics.specs.Dirty.Violates.{single, pair}
use Rattle.cfd_semantics.proofs.Members.{contains-here, contains-there, contains_nothing, contains_cases, contains_from_map, contains-filter_map, contains_from_filter_map}
use Rattle.cfd_semantics.proofs.Parts.{single_parts, pair_parts}
use Rattle.cfd_semantics.proofs.SetFacts.{violating_is}
use Rattle.group_index.specs.declared.group.Group.{Group}
use Rattle.group_index.specs.GroupSet.{GroupsMade, GroupSet, holds_entry}
use Rattle.group_index.specs.Answers.{AreViolations}
use Rattle.group_index.specs.Pairs.{Pair, pairs_of}
use Rattle.group_index.specs.Groups.{KeyedGroup, KeyedGroups, set_of, is_in, is_dirty_at, AreMarked}
use Rattle.group_index.specs.Leads.{AddsListed, AddsMatching, AreCollected, listed_by}
use Rattle.group_index.proofs.GroupFacts.{same_key, same_ids, clash, isnt, key_at}
use Rattle.group_index.proofs.PartnerFacts.{entry_in, entry_of_pair, pair_of_entry}
use Rattle.group_index.proofs.ListedFacts.{listed_so, listed_where}
use Rattle.group_index.proofs.TurnFacts.{settled_steady}
use Rattle.group_index.proofs.DirtyPlaces.{place_from_dirty}

-- ---- numbers that are all different

pub Apart : List ℕ → Type 0
Apart [] = Unit {0}
Apart (n ∷ ns) = ((m : ℕ) → Contains ns m → n ≢ m) × Apart ns

contains_left : {X : Type 0} (xs ys : List X) (x : X) → Contains xs x → Contains (xs ++ ys) x
contains_left [] ys x inside = absurd (contains_nothing x inside)
contains_left (z ∷ zs) ys x inside = elim (contains_cases x z zs inside) [
  | inl is ↦ subst (Contains (z ∷ (zs ++ ys))) is (contains-here z (zs ++ ys))
  | inr later ↦ contains-there x z (zs ++ ys) (contains_left zs ys x later)
]

contains_right : {X : Type 0} (xs ys : List X) (x : X) → Contains ys x → Contains (xs ++ ys) x
contains_right [] ys x inside = inside
contains_right (z ∷ zs) ys x inside = contains-there x z (zs ++ ys) (contains_right zs ys x inside)

pub contains_either : {X : Type 0} (xs ys : List X) (x : X) → Contains (xs ++ ys) x → Contains xs x ⊎ Contains ys x
contains_either [] ys x inside = inr inside
contains_either (z ∷ zs) ys x inside = elim (contains_cases x z (zs ++ ys) inside) [
  | inl is ↦ inl (subst (Contains (z ∷ zs)) is (contains-here z zs))
  | inr later ↦ elim (contains_either zs ys x later) [ inl left ↦ inl (contains-there x z zs left) | inr right ↦ inr right ]
]

apart_append : (xs ys : List ℕ) → Apart xs → Apart ys → ((m n : ℕ) → Contains xs m → Contains ys n → m ≢ n) → Apart (xs ++ ys)
unfolding Apart
apart_append [] ys one other between = other
apart_append (x ∷ xs) ys one other between = (
  (λ m inside. elim (contains_either xs ys m inside) [ inl left ↦ one.0 m left | inr right ↦ between x m (contains-here x xs) right ]),
  apart_append xs ys one.1 other (λ m n left right. between m n (contains-there m x xs left) right),
)

distinct_from_apart : (ns : List ℕ) → Apart ns → IsDistinct nat_eq ns
unfolding Apart IsDistinct
distinct_from_apart [] apart = tt
distinct_from_apart (n ∷ ns) apart = (others ns (λ m inside. apart.0 m inside), distinct_from_apart ns apart.1)
  where
    others : (ms : List ℕ) → ((m : ℕ) → Contains ms m → n ≢ m) → AllByRecursion (λ y. nat_eq n y ≡ false) ms
    others [] differ = tt
    others (m ∷ ms) differ = (isnt (nat_eq n m) (λ same. differ m (contains-here m ms) (grind (arith, nat_tests, same))), others ms (λ k inside. differ k (contains-there k m ms inside)))

-- ---- group by group

-- what is listed rests on the groups alone, whatever the attributes
abbrev any_with : List (TableauRow ℕ) → Dependency ℕ
any_with rows = record { x = []; a = 0; rows = rows }

abbrev any_made : GroupsMade
any_made = record { table = 0; dependency = any_with [] }

module _ (groups : KeyedGroups) (t : TableauRow ℕ) where
  -- the violation is listed of a pair of one of the first groups
  pub record ListedAt (count : ℕ) (w : Violation) : Type 0 where
    pub place : ℕ
    pub group : KeyedGroup
    pub own : Pair
    pub below : place < count
    pub at : slice_get groups.pairs place ≡ Some group
    pub member : Contains (pairs_of group.1) own
    pub row : w.row ≡ own.1
    pub listed : IsListedWith nat_eq t (is_in groups.pairs) (entry_in group.0 own) w.partner

  pub record ListedSoFar (count : ℕ) (found : List Violation) : Type 0 where
    pub from : (w : Violation) → Contains found w → ListedAt count w
    pub all : (w : Violation) → ListedAt count w → Contains found w
    pub apart : Apart (map (λ (w : Violation). w.row) found)

  pub nothing_listed : ListedSoFar 0 []
  unfolding Apart
  nothing_listed = record {
    from = λ w inside. absurd (contains_nothing w inside);
    all = λ w it. absurd (omega (arith, it.below));
    apart = tt;
  }

  longer : (count : ℕ) (w : Violation) → ListedAt count w → ListedAt (count + 1) w
  longer count w it = record { place = it.place; group = it.group; own = it.own; below = omega (arith, it.below); at = it.at; member = it.member; row = it.row; listed = it.listed }

-- the dirty groups are among the first ones
abbrev pub DirtyStandBelow : List (TableauRow ℕ) → KeyedGroups → ℕ → Type 0
DirtyStandBelow rows groups count = (place : ℕ) (at : KeyedGroup) → slice_get groups.pairs place ≡ Some at → is_dirty_at rows at ≡ true → place < count

pub marked_stand_below : (rows : List (TableauRow ℕ)) (groups : KeyedGroups) → HasOneARow (λ (e : Entry ℕ). e.row) (is_in groups.pairs) → AreMarked rows groups → DirtyStandBelow rows groups groups.marked
marked_stand_below rows groups settled are place at stands dirty = elim (cases_lt place groups.marked) [
  | inl below ↦ below
  | inr past ↦ absurd (clash (is_dirty_at rows at) dirty (are.unmarked place at past stands (settled_steady groups settled place at stands)))
]

module _ (groups : KeyedGroups) (distinct : HaveDistinctKeys same_key groups) (t : TableauRow ℕ) (settled : HasOneARow (λ (e : Entry ℕ). e.row) (is_in groups.pairs)) where
  -- two pairs with one row are one, in one group
  one_row : (i j : ℕ) (g h : KeyedGroup) (p q : Pair) → slice_get groups.pairs i ≡ Some g → slice_get groups.pairs j ≡ Some h → Contains (pairs_of g.1) p → Contains (pairs_of h.1) q → p.1 ≡ q.1 → (i ≡ j) × (p ≡ q)
  one_row i j g h p q at_i at_j inside beside same =
      let one = settled (entry_in g.0 p) (entry_in h.0 q) (entry_of_pair groups i g.0 g.1 at_i p inside) (entry_of_pair groups j h.0 h.1 at_j q beside) same in
      let a : p.0 ≡ q.0 = ap (λ (e : Entry ℕ). e.a) one in (
        distinct i j g.0 h.0 (key_at groups.pairs i g at_i) (key_at groups.pairs j h at_j) (same_ids g.0.items h.0.items (ap (λ (e : Entry ℕ). e.x) one)),
        λ k. (a k, same k),
      )

  -- an entry that is listed matches on X
  listed_matches : (e : Entry ℕ) (partner : Option ℕ) → IsListedWith nat_eq t (is_in groups.pairs) e partner → all_match nat_eq t.x e.x ≡ true
  listed_matches e None alone = (single_parts nat_eq t e alone).x
  listed_matches e (Some row) least = (pair_parts nat_eq t e least.partner.0 least.partner.1.pair).x

  module _ (i : ℕ) (key : SmallVec ℕ) (v : Group) (at : slice_get groups.pairs i ≡ Some (key, v)) where
    listed_apart : (h : Pair → Option Violation) → ((p : Pair) (w : Violation) → h p ≡ Some w → w.row ≡ p.1) → (ps : List Pair) → ((p : Pair) → Contains ps p → Contains (pairs_of v) p) → AllPairs (λ p q. p ≢ q) ps → Apart (map (λ (w : Violation). w.row) (filter_map h ps))
    unfolding Apart
    listed_apart h rows [] inside once = tt
    listed_apart h rows (p ∷ ps) inside once =
        by (h p) refl (listed_apart h rows ps (λ q later. inside q (contains-there q p ps later)) (λ k l d before within. once (suc k) (suc l) d (omega arith) (omega arith)))
      where
        by : (o : Option Violation) → h p ≡ o → Apart (map (λ (w : Violation). w.row) (filter_map h ps)) → Apart (map (λ (w : Violation). w.row) (cons_option o (filter_map h ps)))
        by None is rest = rest
        by (Some w) is rest = (
          (λ m later same.
              let from = contains_from_map (λ (u : Violation). u.row) (filter_map h ps) m later in
              let other = contains_from_filter_map h ps from.0 from.1 in
              let level : p.1 ≡ other.0.1 = sym (rows p w is) ∙ same ∙ sym from.2 ∙ rows other.0 from.0 other.2 in
              let one = one_row i i (key, v) (key, v) p other.0 at at (inside p (contains-here p ps)) (inside other.0 (contains-there other.0 p ps other.1)) level in
              All-contains (λ q. p ≢ q) ps other.0 (λ k d within. once 0 (suc k) d (omega arith) (omega arith)) other.1 one.1),
          rest,
        )

    module _ (old new : List Violation) (so_far : ListedSoFar groups t i old) where
      listed_none : all_match nat_eq t.x key.items ≡ false → new ≡ old → ListedSoFar groups t (i + 1) new
      listed_none unmatched same = subst (ListedSoFar groups t (i + 1)) (sym same) (record {
        from = λ w inside. longer groups t i w (so_far.from w inside);
        all = λ w it. elim (cases_lt it.place i) [
          | inl below ↦ so_far.all w (record { place = it.place; group = it.group; own = it.own; below = below; at = it.at; member = it.member; row = it.row; listed = it.listed })
          | inr past ↦
              let here : it.place ≡ i = omega (arith, past, it.below) in
              let group : it.group ≡ (key, v) = same_Some it.group (key, v) (sym it.at ∙ ap (slice_get groups.pairs) here ∙ at) in
              absurd (clash (all_match nat_eq t.x key.items) (ap (λ (g : KeyedGroup). all_match nat_eq t.x g.0.items) (sym group) ∙ listed_matches (entry_in it.group.0 it.own) w.partner it.listed) unmatched)
        ];
        apart = so_far.apart;
      })

      listed_all : all_match nat_eq t.x key.items ≡ true → AddsListed t.a (pairs_of v) old new → ListedSoFar groups t (i + 1) new
      listed_all matched adds = subst (ListedSoFar groups t (i + 1)) (sym adds.is) (record { from = from; all = all; apart = apart })
        where
          from : (w : Violation) → Contains (old ++ filter_map (listed_by t.a adds.first adds.second) (pairs_of v)) w → ListedAt groups t (i + 1) w
          from w inside = elim (contains_either old (filter_map (listed_by t.a adds.first adds.second) (pairs_of v)) w inside) [
            | inl before ↦ longer groups t i w (so_far.from w before)
            | inr new_one ↦
                let given = contains_from_filter_map (listed_by t.a adds.first adds.second) (pairs_of v) w new_one in
                let so = listed_so any_made groups distinct t i key v at matched adds.first adds.second adds.leads given.0 w given.2 in
                record { place = i; group = (key, v); own = given.0; below = omega arith; at = at; member = given.1; row = so.0; listed = so.1 }
          ]

          all : (w : Violation) → ListedAt groups t (i + 1) w → Contains (old ++ filter_map (listed_by t.a adds.first adds.second) (pairs_of v)) w
          all w it = elim (cases_lt it.place i) [
            | inl below ↦
                contains_left old (filter_map (listed_by t.a adds.first adds.second) (pairs_of v)) w
                (so_far.all w (record { place = it.place; group = it.group; own = it.own; below = below; at = it.at; member = it.member; row = it.row; listed = it.listed }))
            | inr past ↦
                let here : it.place ≡ i = omega (arith, past, it.below) in
                let group : it.group ≡ (key, v) = same_Some it.group (key, v) (sym it.at ∙ ap (slice_get groups.pairs) here ∙ at) in
                let member = subst (λ (g : KeyedGroup). Contains (pairs_of g.1) it.own) group it.member in
                let listed = subst (λ (g : KeyedGroup). IsListedWith nat_eq t (is_in groups.pairs) (entry_in g.0 it.own) w.partner) group it.listed in
                let is : listed_by t.a adds.first adds.second it.own ≡ Some w = listed_where any_made groups distinct t i key v at matched adds.first adds.second adds.leads it.own w.partner listed ∙ (λ k. Some (record { row = sym it.row k; partner = w.partner })) in
                contains_right old (filter_map (listed_by t.a adds.first adds.second) (pairs_of v)) w (contains-filter_map (listed_by t.a adds.first adds.second) (pairs_of v) it.own w member is)
          ]

          rows : (p : Pair) (w : Violation) → listed_by t.a adds.first adds.second p ≡ Some w → w.row ≡ p.1
          rows p w is = (listed_so any_made groups distinct t i key v at matched adds.first adds.second adds.leads p w is).0

          apart : Apart (map (λ (w : Violation). w.row) (old ++ filter_map (listed_by t.a adds.first adds.second) (pairs_of v)))
          apart =
              subst Apart (sym (map_joined old (filter_map (listed_by t.a adds.first adds.second) (pairs_of v))))
              (apart_append (map (λ (w : Violation). w.row) old) (map (λ (w : Violation). w.row) (filter_map (listed_by t.a adds.first adds.second) (pairs_of v))) so_far.apart
              (listed_apart (listed_by t.a adds.first adds.second) rows (pairs_of v) (λ p inside. inside) adds.once)
              (λ m n left right same.
              let one = contains_from_map (λ (w : Violation). w.row) old m left in
              let other = contains_from_map (λ (w : Violation). w.row) (filter_map (listed_by t.a adds.first adds.second) (pairs_of v)) n right in
              let it = so_far.from one.0 one.1 in
              let given = contains_from_filter_map (listed_by t.a adds.first adds.second) (pairs_of v) other.0 other.1 in
              let level : it.own.1 ≡ given.0.1 = sym it.row ∙ one.2 ∙ same ∙ sym other.2 ∙ rows given.0 other.0 given.2 in
              let here = one_row it.place i it.group (key, v) it.own given.0 it.at at it.member given.1 level in
              let where_it_is = here.0 in
              absurd (omega (arith, it.below, where_it_is))))
            where
              map_joined : (xs ys : List Violation) → map (λ (w : Violation). w.row) (xs ++ ys) ≡ map (λ (w : Violation). w.row) xs ++ map (λ (w : Violation). w.row) ys
              map_joined [] ys = refl
              map_joined (x ∷ xs) ys = ap (λ rest. x.row ∷ rest) (map_joined xs ys)

      pub listed_more : AddsMatching t key.items (pairs_of v) old new → ListedSoFar groups t (i + 1) new
      listed_more (inl both) = listed_all both.0 both.1
      listed_more (inr both) = listed_none both.0 both.1

  -- ---- all groups that are dirty

  pub collected : (rows : List (TableauRow ℕ)) (count : ℕ) (found : List Violation) → Contains rows t → DirtyStandBelow rows groups count → ListedSoFar groups t count found → AreCollected t groups found
  collected rows count found inside dirty_below so_far = record {
    exactly = λ w. (
      (λ member. let it = so_far.from w member in (entry_in it.group.0 it.own, entry_of_pair groups it.place it.group.0 it.group.1 it.at it.own it.member, sym it.row, it.listed)),
      (λ (e, held, row, listed). so_far.all w (stands e held row listed)),
    );
    once = distinct_from_apart (map (λ (w : Violation). w.row) found) so_far.apart;
  }
    where
      violates : (e : Entry ℕ) → is_in groups.pairs e ≡ true → (partner : Option ℕ) → IsListedWith nat_eq t (is_in groups.pairs) e partner → IsDirtyGroup nat_eq (is_in groups.pairs) (any_with rows) e.x
      violates e held None is = (t, inside, single e (record { held = held; same = same_ids e.x e.x refl }) is)
      violates e held (Some row) least = (t, inside, pair e least.partner.0 (record { held = held; same = same_ids e.x e.x refl }) least.partner.1)

      stands : {w : Violation} (e : Entry ℕ) → is_in groups.pairs e ≡ true → e.row ≡ w.row → IsListedWith nat_eq t (is_in groups.pairs) e w.partner → ListedAt groups t count w
      stands {w} e held row listed =
          let it = place_from_dirty (any_with rows) groups distinct e.x (violates e held w.partner listed) in
          let same : ◌≡◌ {A = Entry ℕ} e (entry_in it.group.0 (e.a, e.row)) = λ k. record { x = sym it.key k; a = e.a; row = e.row } in
          record {
            place = it.place;
            group = it.group;
            own = (e.a, e.row);
            below = dirty_below it.place it.group it.at it.dirty;
            at = it.at;
            member = pair_of_entry groups it.place it.group.0 it.group.1 it.at distinct e it.key held;
            row = sym row;
            listed = subst (λ f. IsListedWith nat_eq t (is_in groups.pairs) f w.partner) same listed;
          }

-- ---- in order

pub get_row : (vs : List Violation) (i : ℕ) (d : Violation) → get_or (map (λ (v : Violation). v.row) vs) i d.row ≡ (get_or vs i d).row
get_row [] i d = refl
get_row (v ∷ vs) zero d = refl
get_row (v ∷ vs) (suc i) d = get_row vs i d

pub as_many_rows : (vs : List Violation) → length (map (λ (v : Violation). v.row) vs) ≡ length vs
as_many_rows [] = refl
as_many_rows (v ∷ vs) = ap suc (as_many_rows vs)

rise : (found : List Violation) → IsNonDecreasingBy (λ (v : Violation). v.row) found → IsDistinct nat_eq (map (λ (v : Violation). v.row) found) → IsRising (λ (v : Violation). v.row) found
rise found up once i j d before within =
    let below : (get_or found i d).row ≤ (get_or found j d).row = up i j d (omega (arith, before)) within in
    let apart = apart_from_distinct nat_eq (map (λ (v : Violation). v.row) found) i j d.row once before (omega (arith, within, as_many_rows found)) in
    let differ : nat_eq (get_or found i d).row (get_or found j d).row ≡ false = ap (λ n. nat_eq n (get_or found j d).row) (sym (get_row found i d)) ∙ ap (nat_eq (get_or (map (λ (v : Violation). v.row) found) i d.row)) (sym (get_row found j d)) ∙ apart in
    strictly (get_or found i d).row (get_or found j d).row below differ
  where
    strictly : (m n : ℕ) → m ≤ n → nat_eq m n ≡ false → m < n
    strictly m n low other = grind (arith, nat_tests, low, other)

pub in_order : (made : GroupsMade) (groups : KeyedGroups) (t : TableauRow ℕ) (collected sorted : List Violation) → AreCollected t groups collected → IsPermutation collected sorted → IsNonDecreasingBy (λ (v : Violation). v.row) sorted → AreViolations (set_of made groups) t sorted
in_order made groups t collected sorted are moved up = record {
  rising = rise sorted up (IsDistinct-IsPermutation nat_eq flip (map (λ (v : Violation). v.row) collected) (map (λ (v : Violation). v.row) sorted) (IsPermutation-map (λ (v : Violation). v.row) collected sorted moved) are.once);
  exactly = λ v. (
    (λ inside. (are.exactly v).0 (Contains-permutation sorted collected v (IsPermutation-sym collected sorted moved) inside)),
    (λ is. Contains-permutation collected sorted v moved ((are.exactly v).1 is)),
  );
}
  where
    flip : (m n : ℕ) → nat_eq m n ≡ nat_eq n m
    flip m n = grind (arith, nat_tests)

-- the list that compares every entry with every entry is the same
pub those_of_the_list : (s : GroupSet) (t : TableauRow ℕ) (found : List Violation) → AreViolations s t found → (all : List (Entry ℕ)) → IsEntryList (holds_entry s) all → found ≡ violating nat_eq t all
those_of_the_list s t found are all list = violating_is nat_eq t (holds_entry s) all list found are.rising are.exactly
