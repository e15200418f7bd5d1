-- What a change of one group makes of the numbers of violations that are kept.
use Rattle.std.proofs.Common.{◌≡◌, ◌≢◌, ℕ, zero, suc, ◌+◌, ◌-◌, ◌<◌, ◌≤◌, ◌⊎◌, Bool, true, false, cond, not, ◌&&◌, ◌||◌, List, [], ◌∷◌, ◌++◌, length, take, slice_get, swap, Option, Some, None, Result, Ok, Err, OnOk, OnErr, refl, sym, ap, ◌∙◌, subst, inl, inr, arith}
use Rattle.std.specs.Prelude.{nat_eq, count_by, sum_by, filter, swap_remove, IsSomeAnd, AllPairs, Contains, Vec}
use Rattle.std.specs.Bool.{Decides}
use Rattle.std.specs.Cmp.{IsEquivalence}
use Rattle.std.specs.List.{IsDistinct, AllByRecursion}
use Rattle.std.specs.List.Sorted.{IsPermutation}
use Rattle.std.specs.Map.{keys_of}
use Rattle.std.proofs.lemmas.Bool.{cases_lt}
use Rattle.std.proofs.lemmas.Bool.Decides.{nat_tests}
use Rattle.std.proofs.lemmas.List.{take_all}
use Rattle.std.proofs.lemmas.List.Sums.{sum_by-cons, sum_by_push, sum_by_more, sum_by-swap_remove, length-filter}
use Rattle.std.proofs.lemmas.List.Sorted.{IsPermutation-swap, IsPermutation-sym, Contains-permutation, sum_by-IsPermutation}
use Rattle.std.proofs.lemmas.Map.Made.{IsDistinct-from_AllPairs, length-from_same_keys}
use Rattle.std.proofs.lemmas.Map.Views.{any-filter_same}
use Rattle.std.proofs.lemmas.Option.{none-some, same_Some, get_or_from_slice_get, slice_get_within, slice_get_past}
use Rattle.std.specs.declared.alloc.Global.{Global}
use Rattle.smallvec.specs.SmallVec.{SmallVec}
use Rattle.marked_map.specs.MarkedMap.{MarkedPairs, HaveDistinctKeys, Enters, without_mark, without_pair}
use Rattle.marked_map.proofs.MarkedMapLemmas.{slice_get-swap_to}
use Rattle.cfd_semantics.specs.declared.pattern.Pattern.{Pattern}
use Rattle.cfd_semantics.specs.declared.pattern.Pattern.TheVariants.{Any, Is, In, NotIn}
use Rattle.cfd_semantics.specs.declared.dependency.TableauRow.{TableauRow}
use Rattle.cfd_semantics.specs.Pattern.{all_match, is_set}
use Rattle.cfd_semantics.specs.Violation.{Entry}
use Rattle.cfd_semantics.specs.EntrySets.{HasOneARow}
use Rattle.cfd_semantics.proofs.Members.{contains-here, contains-there, contains_nothing, contains_cases}
use Rattle.group_index.specs.declared.group.Group.{Group}
use Rattle.group_index.specs.declared.group.Group.TheVariants.{One}
use Rattle.group_index.specs.declared.totals.Change.{Change}
use Rattle.group_index.specs.Pairs.{Pair, pairs_of, is_pair, has_pair, IsPut, IsTaken, IsAlone, HaveTheSame, DifferAtMostBy}
use Rattle.group_index.specs.Groups.{KeyedGroup, KeyedGroups, is_in}
use Rattle.group_index.specs.Leads.{CountsListed, CountsMatching, AreSoMany}
use Rattle.group_index.specs.Totals.{listed_among, tally, total, IsOnce, AreTotals, AreTotalsOf, IsKeptFor, IsExtent, IsChange, Follows, HasExtentAt, AreChangedOrGone}
use Rattle.group_index.proofs.GroupFacts.{same_key, set_value_at, key_at, no_key, stands_at, clash, isnt}
use Rattle.group_index.proofs.PairFacts.{is_pair_flip, same_pair}
use Rattle.group_index.proofs.CountFacts.{counts_mixed, counts_others, CountedSoFar, none_counted, counted_more, counted}
use Rattle.group_index.proofs.CollectFacts.{contains_either}
use Rattle.group_index.proofs.TestCounts.{counted_sides}

-- ---- a test that the pair which comes or goes doesn't pass

equal_pairs : IsEquivalence is_pair
equal_pairs = record { refl = λ p. grind (arith, nat_tests); symm = is_pair_flip; congr = λ p q r same. ap (λ o. is_pair o r) (sym (same_pair p q same)) }

pairs_decide : (p q : Pair) → Decides (is_pair p q) (p ≡ q)
pairs_decide p q = ((λ is. sym (same_pair p q is)), (λ same. ap (is_pair p) (sym same) ∙ equal_pairs.refl p))

distinct_filter : (f : Pair → Bool) (ps : List Pair) → IsDistinct is_pair ps → IsDistinct is_pair (filter f ps)
unfolding IsDistinct
distinct_filter f [] apart = tt
distinct_filter f (p ∷ ps) apart = by (f p) (distinct_filter f ps apart.1)
  where
    others : (qs : List Pair) → AllByRecursion (λ q. is_pair p q ≡ false) qs → AllByRecursion (λ q. is_pair p q ≡ false) (filter f qs)
    others [] all = tt
    others (q ∷ qs) all = one (f q) (others qs all.1)
      where
        one : (b : Bool) → AllByRecursion (λ r. is_pair p r ≡ false) (filter f qs) → AllByRecursion (λ r. is_pair p r ≡ false) (cond b (q ∷ filter f qs) (filter f qs))
        one true rest = (all.0, rest)
        one false rest = rest

    by : (b : Bool) → IsDistinct is_pair (filter f ps) → IsDistinct is_pair (cond b (p ∷ filter f ps) (filter f ps))
    by true rest = (others ps apart.0, rest)
    by false rest = rest

module _ (p : Pair) (old new : List Pair) (once_old : AllPairs (λ p q. p ≢ q) old) (once_new : AllPairs (λ p q. p ≢ q) new) (differ : DifferAtMostBy p old new) where
  count_kept : (f : Pair → Bool) → f p ≡ false → count_by f new ≡ count_by f old
  count_kept f out =
      sym (length-filter f new)
      ∙ length-from_same_keys equal_pairs (filter f new) (filter f old) (distinct_filter f new (IsDistinct-from_AllPairs pairs_decide new once_new)) (distinct_filter f old (IsDistinct-from_AllPairs pairs_decide old once_old)) members
      ∙ length-filter f old
    where
      by : (q : Pair) (b : Bool) → f q ≡ b → (f q && has_pair new q) ≡ (f q && has_pair old q)
      by q true is = ap (λ b. f q && b) (differ q (isnt (is_pair q p) (λ one. clash (f p) (ap f (same_pair q p one) ∙ is) out)))
      by q false is = rw is refl

      members : (q : Pair) → has_pair (filter f new) q ≡ has_pair (filter f old) q
      members q = any-filter_same (is_pair q) f (f q) (λ r is. ap f (same_pair q r is)) new ∙ by q (f q) refl ∙ sym (any-filter_same (is_pair q) f (f q) (λ r is. ap f (same_pair q r is)) old)

-- ---- one group changes

module _ (change : Change) (old new : List Pair) (is : IsChange change old new) (constant : ℕ) where
  kept : (f : Pair → Bool) → f (change.a, is.differ.0) ≡ false → count_by f new ≡ count_by f old
  kept = count_kept (change.a, is.differ.0) old new is.before.once is.after.once is.differ.1

  -- the pair that comes or goes has the constant
  pub others_kept : change.a ≡ constant → listed_among (Is constant) new ≡ listed_among (Is constant) old
  others_kept same = kept (λ p. not (nat_eq constant p.0)) (grind (arith, nat_tests, same))

  -- it has another A id
  pub others_changed : change.a ≢ constant → listed_among (Is constant) new + change.before.rows ≡ listed_among (Is constant) old + change.after.rows
  others_changed apart =
      let same = kept (λ p. nat_eq constant p.0) (grind (arith, nat_tests, apart)) in
      let one = counted_sides (λ (p : Pair). nat_eq constant p.0) old in
      let other = counted_sides (λ (p : Pair). nat_eq constant p.0) new in
      let from = is.before.rows in
      let to = is.after.rows in
      omega (arith, same, one, other, from, to)

nothing_listed : (t : TableauRow ℕ) (x : List ℕ) → tally t x [] ≡ 0
nothing_listed t x = by (all_match nat_eq t.x x) t.a
  where
    by : (b : Bool) (cell : Pattern ℕ) → cond b (listed_among cell []) 0 ≡ 0
    by true Any = refl
    by true (Is constant) = refl
    by true (In members) = refl
    by true (NotIn members) = refl
    by false cell = refl

-- ---- the sums over all groups

abbrev pub counts_at : TableauRow ℕ → KeyedGroup → ℕ
counts_at t at = tally t at.0.items (pairs_of at.1)

sum_by-set : {K V : Type 0} (f : K × V → ℕ) (ps : List (K × V)) (i : ℕ) (k : K) (v w : V) → slice_get ps i ≡ Some (k, v) → sum_by f (set_value_at ps i w) + f (k, v) ≡ sum_by f ps + f (k, w)
sum_by-set f [] i k v w at = absurd (none-some (k, v) at)
sum_by-set f (p ∷ ps) zero k v w at =
    let own = same_Some p (k, v) at in
    let old = sum_by-cons f p ps in
    let new = sum_by-cons f (p.0, w) ps in
    let one = ap f own in
    let other = ap (λ (q : _ × _). f (q.0, w)) own in
    omega (arith, old, new, one, other)
sum_by-set f (p ∷ ps) (suc i) k v w at =
    let old = sum_by-cons f p ps in
    let new = sum_by-cons f p (set_value_at ps i w) in
    let rest = sum_by-set f ps i k v w at in
    omega (arith, old, new, rest)

contains_set : {K V : Type 0} (ps : List (K × V)) (i : ℕ) (k : K) (v w : V) → slice_get ps i ≡ Some (k, v) → (q : K × V) → Contains (set_value_at ps i w) q → ((k, w) ≡ q) ⊎ Contains ps q
contains_set [] i k v w at q inside = absurd (none-some (k, v) at)
contains_set (p ∷ ps) zero k v w at q inside = elim (contains_cases q (p.0, w) ps inside) [
  | inl is ↦ inl (ap (λ (o : _ × _). (o.0, w)) (sym (same_Some p (k, v) at)) ∙ is)
  | inr later ↦ inr (contains-there q p ps later)
]
contains_set (p ∷ ps) (suc i) k v w at q inside = elim (contains_cases q p (set_value_at ps i w) inside) [
  | inl is ↦ inr (subst (Contains (p ∷ ps)) is (contains-here p ps))
  | inr later ↦ elim (contains_set ps i k v w at q later) [ inl own ↦ inl own | inr there ↦ inr (contains-there q p ps there) ]
]

sum_by-swap : {X : Type 0} (f : X → ℕ) (xs : List X) (i j : ℕ) → i < length xs → j < length xs → sum_by f (swap xs i j) ≡ sum_by f xs
sum_by-swap f xs i j in_i in_j = sum_by-IsPermutation f xs (swap xs i j) (IsPermutation-swap xs (swap xs i j) i j in_i in_j refl)

-- ---- what pairs a call leaves

pub put_differs : {A E : Type 0} (r : Result A E) (p : Pair) (old new : List Pair) → OnOk r (IsPut old new p) → OnErr r (HaveTheSame old new) → DifferAtMostBy p old new
put_differs (Ok a) p old new put same q apart = put q ∙ ap (λ b. b || has_pair old q) apart
put_differs (Err e) p old new put same q apart = same q

pub taken_differs : (p : Pair) (old new : List Pair) → IsTaken old new p → DifferAtMostBy p old new
taken_differs p old new taken q apart = taken q ∙ ap (λ b. not b && has_pair old q) apart

pub alone_differs : (p : Pair) (pairs : List Pair) → IsAlone pairs p → DifferAtMostBy p pairs []
alone_differs p pairs alone q apart = sym (alone q ∙ apart)

pub lone_differs : (p : Pair) → DifferAtMostBy p [] (p ∷ [])
lone_differs p q apart = ap (λ b. b || false) apart

-- ---- the numbers follow

module _ (rows : List (TableauRow ℕ)) (x : List ℕ) (change : Change) (old new : List Pair) (is : IsChange change old new) where
  followed : (groups changed : List KeyedGroup) → ((t : TableauRow ℕ) → total t changed + tally t x old ≡ total t groups + tally t x new) → ((at : KeyedGroup) → Contains changed at → IsOnce at ⊎ Contains groups at)
      → (before after : Option (Vec ℕ Global)) → AreChangedOrGone rows x change before after → AreTotals rows groups before → AreTotals rows changed after
  followed groups changed sums from before None are was = tt
  followed groups changed sums from None (Some after) are was = absurd are
  followed groups changed sums from (Some before) (Some after) are was = record {
    once = λ at inside. elim (from at inside) [ inl once ↦ once | inr there ↦ was.once at there ];
    sums = λ k t stands. number t (slice_get after.items k) (are k t (total t groups) stands (was.sums k t stands));
  }
    where
      number : (t : TableauRow ℕ) (there : Option ℕ) → IsSomeAnd there (Follows t x change (total t groups)) → there ≡ Some (total t changed)
      number t None none = absurd none
      number t (Some next) follows =
          let one = sums t in
          let other = follows old new is in
          let same : next ≡ total t changed = omega (arith, one, other) in
          ap Some same

module _ (rows : List (TableauRow ℕ)) (change : Change) (pairs : List KeyedGroup) (place : ℕ) (key : SmallVec ℕ) (v w : Group) (at : slice_get pairs place ≡ Some (key, v)) (x : List ℕ) (own : key.items ≡ x) where
  -- another group stands at the place
  pub followed_set : IsChange change (pairs_of v) (pairs_of w) → (before after : Option (Vec ℕ Global)) → AreChangedOrGone rows x change before after → AreTotals rows pairs before → AreTotals rows (set_value_at pairs place w) after
  followed_set is = followed rows x change (pairs_of v) (pairs_of w) is pairs (set_value_at pairs place w)
      (λ t. subst (λ y. total t (set_value_at pairs place w) + tally t y (pairs_of v) ≡ total t pairs + tally t y (pairs_of w)) own (sum_by-set (counts_at t) pairs place key v w at))
      (λ at_it inside. elim (contains_set pairs place key v w at at_it inside) [ inl here ↦ inl (subst IsOnce here is.after.once) | inr there ↦ inr there ])

  -- the group is taken away, whatever its last pairs
  pub followed_removed : (left : List KeyedGroup) → ((t : TableauRow ℕ) → sum_by (counts_at t) left + counts_at t (key, w) ≡ sum_by (counts_at t) (set_value_at pairs place w)) → ((it : KeyedGroup) → Contains left it → Contains pairs it)
      → IsChange change (pairs_of v) [] → (before after : Option (Vec ℕ Global)) → AreChangedOrGone rows x change before after → AreTotals rows pairs before → AreTotals rows left after
  followed_removed left less from is = followed rows x change (pairs_of v) [] is pairs left sums (λ it inside. inr (from it inside))
    where
      sums : (t : TableauRow ℕ) → total t left + tally t x (pairs_of v) ≡ total t pairs + tally t x []
      sums t =
          let gone = less t in
          let set = sum_by-set (counts_at t) pairs place key v w at in
          let none = nothing_listed t x in
          let same : counts_at t (key, v) ≡ tally t x (pairs_of v) = ap (λ y. tally t y (pairs_of v)) own in
          omega (arith, gone, set, none, same)

-- a group with the pair alone comes last
pub followed_entered : (rows : List (TableauRow ℕ)) (change : Change) (groups : List KeyedGroup) (key : SmallVec ℕ) (w : Group) (x : List ℕ) → key.items ≡ x → IsChange change [] (pairs_of w)
    → (before after : Option (Vec ℕ Global)) → AreChangedOrGone rows x change before after → AreTotals rows groups before → AreTotals rows (groups ++ (key, w) ∷ []) after
followed_entered rows change groups key w x own is = followed rows x change [] (pairs_of w) is groups (groups ++ (key, w) ∷ []) sums from
  where
    sums : (t : TableauRow ℕ) → total t (groups ++ (key, w) ∷ []) + tally t x [] ≡ total t groups + tally t x (pairs_of w)
    sums t =
        let one_more = sum_by_push (counts_at t) groups (key, w) in
        let none = nothing_listed t x in
        let same : counts_at t (key, w) ≡ tally t x (pairs_of w) = ap (λ y. tally t y (pairs_of w)) own in
        omega (arith, one_more, none, same)

    from : (it : KeyedGroup) → Contains (groups ++ (key, w) ∷ []) it → IsOnce it ⊎ Contains groups it
    from it inside = elim (contains_either groups ((key, w) ∷ []) it inside) [
      | inl there ↦ inr there
      | inr last ↦ elim (contains_cases it (key, w) [] last) [ inl here ↦ inl (subst IsOnce here is.after.once) | inr none ↦ absurd (contains_nothing it none) ]
    ]

-- the same as the map enters it
pub followed_new : (rows : List (TableauRow ℕ)) (change : Change) (row : ℕ) (old mid : KeyedGroups) (key stored : SmallVec ℕ) (place : ℕ) → Enters same_key old key (One change.a row) place mid → place ≡ length old.pairs → slice_get (keys_of mid.pairs) place ≡ Some stored → (x : List ℕ) → x ≡ stored.items
    → IsExtent [] change.before → HasExtentAt mid.pairs place change.after → (before after : Option (Vec ℕ Global)) → AreChangedOrGone rows x change before after → AreTotals rows old.pairs before → AreTotals rows mid.pairs after
followed_new rows change row old mid key stored place (inl found) last at x own is_old is_new before after changed was = absurd (no_key old.pairs place found.0.0 (slice_get_past old.pairs place (omega (arith, last))) found.0.1)
followed_new rows change row old mid key stored place (inr (absent, _, is)) last at x own is_old is_new before after changed was =
    let group : KeyedGroup = (key, One change.a row) in
    let pairs : mid.pairs ≡ old.pairs ++ group ∷ [] = ap (λ (m : KeyedGroups). m.pairs) is in
    let stands : slice_get mid.pairs place ≡ Some group = (λ i. slice_get (pairs i) (last i)) ∙ last_stands old.pairs group in
    let same : key ≡ stored = same_Some key stored (sym (key_at mid.pairs place group stands) ∙ at) in
    subst (λ groups. AreTotals rows groups after) (sym pairs)
    (followed_entered rows change old.pairs key (One change.a row) x (ap (λ (k : SmallVec ℕ). k.items) same ∙ sym own) (record { before = is_old; after = (is_new group stands).0; differ = (row, lone_differs (change.a, row)) }) before after changed was)
  where
    last_stands : (gs : List KeyedGroup) (g : KeyedGroup) → slice_get (gs ++ g ∷ []) (length gs) ≡ Some g
    last_stands [] g = refl
    last_stands (h ∷ hs) g = last_stands hs g

-- what a removal takes from a sum
pub sum_without : {K V : Type 0} (f : K × V → ℕ) (old new : MarkedPairs K V) (place : ℕ) (taken : K × V) → slice_get old.pairs place ≡ Some taken → (place < old.marked → old.marked ≤ length old.pairs)
    → (old.marked ≤ place → new ≡ without_pair old place taken) → (place < old.marked → new ≡ without_pair (without_mark old place) (old.marked - 1) taken) → sum_by f new.pairs + f taken ≡ sum_by f old.pairs
sum_without f old new place taken at fits unmarked marked = elim (cases_lt place old.marked) [
  | inr past ↦ ap (λ (m : MarkedPairs _ _). sum_by f m.pairs + f taken) (unmarked past) ∙ without old.pairs place at
  | inl below ↦
      let last : old.marked - 1 < length old.pairs = omega (arith, below, fits below) in
      ap (λ (m : MarkedPairs _ _). sum_by f m.pairs + f taken) (marked below) ∙ without (swap old.pairs place (old.marked - 1)) (old.marked - 1) (slice_get-swap_to old.pairs place (old.marked - 1) within last ∙ at)
      ∙ sum_by-swap f old.pairs place (old.marked - 1) within last
]
  where
    within : place < length old.pairs
    within = slice_get_within old.pairs place taken at

    without : (ps : List (_ × _)) (i : ℕ) → slice_get ps i ≡ Some taken → sum_by f (swap_remove ps i taken) + f taken ≡ sum_by f ps
    without ps i stands = ap (λ p. sum_by f (swap_remove ps i taken) + f p) (sym (get_or_from_slice_get ps i taken taken stands)) ∙ sum_by-swap_remove f ps i taken (slice_get_within ps i taken stands)

-- ---- groups move

pub followed_moved : (rows : List (TableauRow ℕ)) (groups moved : List KeyedGroup) → IsPermutation groups moved → (counts : Option (Vec ℕ Global)) → AreTotals rows groups counts → AreTotals rows moved counts
followed_moved rows groups moved are None was = tt
followed_moved rows groups moved are (Some counts) was = record {
  once = λ at inside. was.once at (Contains-permutation moved groups at (IsPermutation-sym groups moved are) inside);
  sums = λ k t stands. was.sums k t stands ∙ ap Some (sym (sum_by-IsPermutation (counts_at t) groups moved are));
}

-- ---- the numbers are those of the violations

module _ (rows : List (TableauRow ℕ)) (groups : KeyedGroups) (distinct : HaveDistinctKeys same_key groups) (t : TableauRow ℕ) (settled : HasOneARow (λ (e : Entry ℕ). e.row) (is_in groups.pairs)) (counts : List ℕ) (are : AreTotalsOf rows groups.pairs counts) (plain : is_set t.a ≡ false) where
  counts_listed : (cell : Pattern ℕ) (pairs : List Pair) → is_set cell ≡ false → CountsListed cell pairs (listed_among cell pairs)
  counts_listed Any pairs is = counts_mixed Any pairs (listed_among Any pairs) refl refl
  counts_listed (Is constant) pairs is = counts_others (Is constant) constant pairs (listed_among (Is constant) pairs) refl refl
  counts_listed (In members) pairs is = absurd (cc)
  counts_listed (NotIn members) pairs is = absurd (cc)

  counts_matching : (key : SmallVec ℕ) (v : Group) → IsOnce (key, v) → CountsMatching t key.items (pairs_of v) (tally t key.items (pairs_of v))
  counts_matching key v once = by (all_match nat_eq t.x key.items) refl
    where
      by : (b : Bool) → all_match nat_eq t.x key.items ≡ b → CountsMatching t key.items (pairs_of v) (cond b (listed_among t.a (pairs_of v)) 0)
      by true matched = inl (matched, once, counts_listed t.a (pairs_of v) plain)
      by false unmatched = inr (unmatched, refl)

  counted_to : (place : ℕ) → place ≤ length groups.pairs → CountedSoFar groups t place (sum_by (counts_at t) (take place groups.pairs))
  counted_to zero within = none_counted groups t
  counted_to (suc place) within =
      let below : place < length groups.pairs = omega (arith, within) in
      let it = stands_at groups.pairs place below in
      let inside : Contains groups.pairs it.0 = (place, below, get_or_from_slice_get groups.pairs place it.0 it.0 it.1) in
      let more = counted_more groups distinct t settled place it.0.0 it.0.1 it.1 (sum_by (counts_at t) (take place groups.pairs)) (counts_at t it.0) (counted_to place (omega (arith, below))) (counts_matching it.0.0 it.0.1 (are.once it.0 inside)) in
      let sum : sum_by (counts_at t) (take (place + 1) groups.pairs) ≡ sum_by (counts_at t) (take place groups.pairs) + counts_at t it.0 =
      sum_by_more (counts_at t) groups.pairs place it.0 below ∙ ap (λ g. sum_by (counts_at t) (take place groups.pairs) + counts_at t g) (get_or_from_slice_get groups.pairs place it.0 it.0 it.1) in
      subst (λ n. CountedSoFar groups t n (sum_by (counts_at t) (take n groups.pairs))) (omega arith) (subst (CountedSoFar groups t (place + 1)) (sym sum) more)

  pub total_is_so_many : AreSoMany t groups (total t groups.pairs)
  total_is_so_many =
      counted groups distinct t settled (t ∷ []) (length groups.pairs) (total t groups.pairs) (contains-here t []) (λ place at stands dirty. slice_get_within groups.pairs place at stands)
      (subst (λ gs. CountedSoFar groups t (length groups.pairs) (sum_by (counts_at t) gs)) (take_all (length groups.pairs) groups.pairs (omega arith)) (counted_to (length groups.pairs) (omega arith)))

-- the one that is answered
pub kept_is_so_many : (rows : List (TableauRow ℕ)) (groups : KeyedGroups) → HaveDistinctKeys same_key groups → HasOneARow (λ (e : Entry ℕ). e.row) (is_in groups.pairs) → (counts : Option (Vec ℕ Global)) → AreTotals rows groups.pairs counts
    → (k : ℕ) (t : TableauRow ℕ) (count : ℕ) → slice_get rows k ≡ Some t → IsKeptFor counts t k count → AreSoMany t groups count
kept_is_so_many rows groups distinct settled None are k t count at kept = absurd kept
kept_is_so_many rows groups distinct settled (Some counts) are k t count at (plain, stands) =
    subst (AreSoMany t groups) (same_Some (total t groups.pairs) count (sym (are.sums k t at) ∙ stands)) (total_is_so_many rows groups distinct t settled counts.items are plain)
