-- How many violations a tableau row has, told without a list of them.
use Rattle.std.proofs.Common.{◌≡◌, ◌≢◌, ℕ, ◌+◌, ◌<◌, ◌≤◌, Bool, true, false, cond, not, ◌&&◌, List, [], ◌∷◌, ◌++◌, map, length, get_or, slice_get, Option, Some, None, refl, sym, ap, ◌∙◌, subst, inl, inr, arith}
use Rattle.std.specs.Prelude.{nat_eq, count_by, filter_map, is_some, Contains}
use Rattle.std.specs.Option.{option_map}
use Rattle.std.specs.List.{list_any, IsDistinct}
use Rattle.std.proofs.lemmas.Bool.{cases_lt}
use Rattle.std.proofs.lemmas.Bool.Decides.{nat_tests}
use Rattle.std.proofs.lemmas.Cmp.{nat_eq_equiv}
use Rattle.std.proofs.lemmas.List.{length-append}
use Rattle.std.proofs.lemmas.Map.Keys.{IsDistinct-from_apart}
use Rattle.std.proofs.lemmas.Map.Made.{length-from_same_keys}
use Rattle.smallvec.specs.SmallVec.{SmallVec}
use Rattle.marked_map.specs.MarkedMap.{HaveDistinctKeys}
use Rattle.cfd_semantics.specs.declared.pattern.Pattern.{Pattern}
use Rattle.cfd_semantics.specs.declared.pattern.Pattern.TheVariants.{Any, Is}
use Rattle.cfd_semantics.specs.declared.dependency.TableauRow.{TableauRow}
use Rattle.cfd_semantics.specs.declared.violation.Violation.{Violation}
use Rattle.cfd_semantics.specs.Pattern.{matches}
use Rattle.cfd_semantics.specs.Violation.{Entry, violating}
use Rattle.cfd_semantics.specs.EntrySets.{HasOneARow, IsRising, IsEntryList}
use Rattle.cfd_semantics.proofs.Members.{contains-here, contains-there, contains_nothing, contains_cases, contains-map, contains_from_map}
use Rattle.cfd_semantics.proofs.InclusionLaw.{found_by_any, any_from_found}
use Rattle.cfd_semantics.proofs.SetFacts.{violations_of_set, violating_rise}
use Rattle.group_index.specs.declared.group.Group.{Group}
use Rattle.group_index.specs.declared.spread.Spread.{Spread}
use Rattle.group_index.specs.declared.spread.Spread.TheVariants.{Nothing, Alike, Both, Mixed}
use Rattle.group_index.specs.Pairs.{Pair, pairs_of, is_mixed, IsSpread}
use Rattle.group_index.specs.Groups.{KeyedGroups, is_in}
use Rattle.group_index.specs.Leads.{AreLeads, IsAmong, IsLeastOther, CountsListed, CountsMatching, AreSoMany, listed_by, partner_by}
use Rattle.group_index.proofs.GroupFacts.{same_key, clash}
use Rattle.group_index.proofs.PairFacts.{none_pass}
use Rattle.group_index.proofs.SpreadFacts.{unmixed}
use Rattle.group_index.proofs.LeadFacts.{partner_of_leads}
use Rattle.group_index.proofs.ListedFacts.{with_partner}
use Rattle.group_index.proofs.TestCounts.{counted_same, counted_all, counted_none, length-given}
use Rattle.group_index.proofs.CollectFacts.{ListedSoFar, nothing_listed, listed_more, DirtyStandBelow, collected, get_row, as_many_rows}

-- ---- every group has leads

module _ (test : Pair → Bool) where
  -- the pair that passes with the least row, or that none passes
  abbrev IsLeastOf : List Pair → Option Pair → Type 0
  IsLeastOf pairs None = (p : Pair) → Contains pairs p → test p ≡ true → ⊥
  IsLeastOf pairs (Some low) = Contains pairs low × (test low ≡ true) × ((p : Pair) → Contains pairs p → test p ≡ true → low.1 ≤ p.1)

  least_more : (p : Pair) (ps : List Pair) (b : Bool) → test p ≡ b → (low : Option Pair) → IsLeastOf ps low → (new : Option Pair) × IsLeastOf (p ∷ ps) new
  least_more p ps false isnt None none = (None, λ q inside is. elim (contains_cases q p ps inside) [ inl same ↦ clash (test q) is (ap test (sym same) ∙ isnt) | inr later ↦ none q later is ])
  least_more p ps false isnt (Some low) least = (
    Some low,
    (contains-there low p ps least.0, least.1, λ q inside is. elim (contains_cases q p ps inside) [ inl same ↦ absurd (clash (test q) is (ap test (sym same) ∙ isnt)) | inr later ↦ least.2 q later is ]),
  )
  least_more p ps true does None none = (
    Some p,
    (contains-here p ps, does, λ q inside is. elim (contains_cases q p ps inside) [ inl same ↦ let level : p.1 ≡ q.1 = ap (λ (r : Pair). r.1) same in omega (arith, level) | inr later ↦ absurd (none q later is) ]),
  )
  least_more p ps true does (Some low) least = elim (cases_lt p.1 low.1) [
    | inl below ↦ (
      Some p,
      (
        contains-here p ps,
        does,
        λ q inside is. elim (contains_cases q p ps inside) [
          | inl same ↦ let level : p.1 ≡ q.1 = ap (λ (r : Pair). r.1) same in omega (arith, level)
          | inr later ↦ let above = least.2 q later is in omega (arith, below, above)
        ],
      ),
    )
    | inr past ↦ (
      Some low,
      (
        contains-there low p ps least.0,
        least.1,
        λ q inside is. elim (contains_cases q p ps inside) [
          | inl same ↦ let level : p.1 ≡ q.1 = ap (λ (r : Pair). r.1) same in omega (arith, past, level)
          | inr later ↦ least.2 q later is
        ],
      ),
    )
  ]

  least_of : (pairs : List Pair) → (low : Option Pair) × IsLeastOf pairs low
  least_of [] = (None, λ p inside is. contains_nothing p inside)
  least_of (p ∷ ps) = let before = least_of ps in least_more p ps (test p) refl before.0 before.1

-- a fact with the two rows that it is told of
abbrev HasLeads : Pattern ℕ → List Pair → Type 0
HasLeads cell pairs = (first : Option Pair) × (second : Option ℕ) × AreLeads cell (IsAmong pairs) first second

abbrev is_other : Pattern ℕ → ℕ → Pair → Bool
is_other cell a p = matches nat_eq cell p.0 && not (nat_eq p.0 a)

leads_of : (cell : Pattern ℕ) (pairs : List Pair) → HasLeads cell pairs
leads_of cell pairs = by (least_of (λ p. matches nat_eq cell p.0) pairs).0 (least_of (λ p. matches nat_eq cell p.0) pairs).1
  where
    second : (first : Pair) → IsLeastOf (λ p. matches nat_eq cell p.0) pairs (Some first) → (o : Option Pair) → IsLeastOf (is_other cell first.0) pairs o → HasLeads cell pairs
    second first least None none = (Some first, None, (least.0, least.1, least.2, λ p inside does. only p inside does (nat_eq p.0 first.0) refl))
      where
        only : (p : Pair) → Contains pairs p → matches nat_eq cell p.0 ≡ true → (b : Bool) → nat_eq p.0 first.0 ≡ b → p.0 ≡ first.0
        only p inside does true is = grind (arith, nat_tests, is)
        only p inside does false isnt = absurd (none p inside (rw (does, isnt) refl))
    second first least (Some other) others = (
      Some first,
      Some other.1,
      (least.0, least.1, least.2, ((other.0, others.0, one (matches nat_eq cell other.0) (nat_eq other.0 first.0) others.1, λ same. apart (matches nat_eq cell other.0) same others.1), λ p inside does differ. others.2 p inside (rw does (differs p.0 first.0 differ)))),
    )
      where
        one : (a b : Bool) → (a && not b) ≡ true → a ≡ true
        one true b is = refl
        one false b is = absurd (cc)

        apart : (b : Bool) → other.0 ≡ first.0 → (b && not (nat_eq other.0 first.0)) ≡ true → ⊥
        apart true same is = grind (arith, nat_tests)
        apart false same is = absurd (cc)

        differs : (m n : ℕ) → m ≢ n → not (nat_eq m n) ≡ true
        differs m n apart = by_test (nat_eq m n) refl
          where
            by_test : (b : Bool) → nat_eq m n ≡ b → not b ≡ true
            by_test true is = absurd (apart (grind (arith, nat_tests, is)))
            by_test false is = refl

    by : (o : Option Pair) → IsLeastOf (λ p. matches nat_eq cell p.0) pairs o → HasLeads cell pairs
    by None none = (None, None, none)
    by (Some first) least = second first least (least_of (is_other cell first.0) pairs).0 (least_of (is_other cell first.0) pairs).1

-- ---- which pairs are listed

module _ (cell : Pattern ℕ) (pairs : List Pair) (first : Option Pair) (second : Option ℕ) (leads : AreLeads cell (IsAmong pairs) first second) where
  -- one that doesn't match
  listed_alone : (p : Pair) → matches nat_eq cell p.0 ≡ false → is_some (listed_by cell first second p) ≡ true
  listed_alone p isnt = rw isnt refl

  -- one with another that matches
  listed_beside : (p other : Pair) → matches nat_eq cell p.0 ≡ true → Contains pairs other → matches nat_eq cell other.0 ≡ true → other.0 ≢ p.0 → is_some (listed_by cell first second p) ≡ true
  listed_beside p other does inside also apart = rw does (of (partner_by first second p.0) (partner_of_leads cell (IsAmong pairs) first second p.0 leads))
    where
      of : (o : Option ℕ) → IsLeastOther cell (IsAmong pairs) p.0 o → is_some (option_map (with_partner p) o) ≡ true
      of None only = absurd (apart (only other inside also))
      of (Some row) least = refl

  -- one without
  unlisted : (p : Pair) → matches nat_eq cell p.0 ≡ true → ((q : Pair) → Contains pairs q → matches nat_eq cell q.0 ≡ true → q.0 ≡ p.0) → is_some (listed_by cell first second p) ≡ false
  unlisted p does alike = rw does (of (partner_by first second p.0) (partner_of_leads cell (IsAmong pairs) first second p.0 leads))
    where
      of : (o : Option ℕ) → IsLeastOther cell (IsAmong pairs) p.0 o → is_some (option_map (with_partner p) o) ≡ false
      of None only = refl
      of (Some row) least = absurd (least.0.3 (alike (least.0.0, row) least.0.1 least.0.2))

two_differ : (pairs : List Pair) (p q : Pair) → Contains pairs p → Contains pairs q → nat_eq p.0 q.0 ≡ false → is_mixed pairs ≡ true
two_differ pairs p q has_p has_q apart = any_from_found (λ p. list_any (λ q. not (nat_eq p.0 q.0)) pairs) pairs p has_p (any_from_found (λ r. not (nat_eq p.0 r.0)) pairs q has_q (ap not apart))

-- how the A ids spread tells whether two differ
pub none_mixed : (spread : Spread) → spread ≡ Nothing → (pairs : List Pair) → IsSpread pairs spread → is_mixed pairs ≡ false
none_mixed spread is pairs told = none_there (subst (IsSpread pairs) is told)
  where
    none_there : IsSpread pairs Nothing → is_mixed pairs ≡ false
    none_there none = none_pass (λ p. list_any (λ q. not (nat_eq p.0 q.0)) pairs) pairs (λ p inside. absurd (none p inside))

pub alike_unmixed : (spread : Spread) (a : ℕ) → spread ≡ Alike a → (pairs : List Pair) → IsSpread pairs spread → is_mixed pairs ≡ false
alike_unmixed spread a is pairs told = same (subst (IsSpread pairs) is told)
  where
    same : IsSpread pairs (Alike a) → is_mixed pairs ≡ false
    same alike = unmixed pairs a alike.1

pub several_mixed : (spread : Spread) → spread ≡ Mixed → (pairs : List Pair) → IsSpread pairs spread → is_mixed pairs ≡ true
several_mixed spread is pairs told = two (subst (IsSpread pairs) is told)
  where
    differ : (m n : ℕ) → m ≢ n → (b : Bool) → nat_eq m n ≡ b → nat_eq m n ≡ false
    differ m n apart true same = absurd (apart (grind (arith, nat_tests, same)))
    differ m n apart false other = other

    two : IsSpread pairs Mixed → is_mixed pairs ≡ true
    two (p, q, has_p, has_q, apart) = two_differ pairs p q has_p has_q (differ p.0 q.0 apart (nat_eq p.0 q.0) refl)

pub both_mixed : (spread : Spread) → spread ≡ Both → (pairs : List Pair) → IsSpread pairs spread → is_mixed pairs ≡ true
both_mixed spread is pairs told = several_mixed Mixed refl pairs (subst (IsSpread pairs) is told)

-- Where the cell is `_`: all, or none.
pub counts_mixed : (cell : Pattern ℕ) (pairs : List Pair) (count : ℕ) → cell ≡ Any → count ≡ cond (is_mixed pairs) (length pairs) 0 → CountsListed cell pairs count
counts_mixed cell pairs count any is = subst (λ (c : Pattern ℕ). CountsListed c pairs count) (sym any) (record { first = first; second = second; leads = leads; is = is ∙ by (is_mixed pairs) refl })
  where
    first : Option Pair
    first = (leads_of Any pairs).0

    second : Option ℕ
    second = (leads_of Any pairs).1

    leads : AreLeads Any (IsAmong pairs) first second
    leads = (leads_of Any pairs).2

    all : is_mixed pairs ≡ true → (p : Pair) → Contains pairs p → is_some (listed_by Any first second p) ≡ true
    all mixed p inside =
        let one = found_by_any (λ p. list_any (λ q. not (nat_eq p.0 q.0)) pairs) pairs mixed in
        let other = found_by_any (λ q. not (nat_eq one.0.0 q.0)) pairs one.2 in
        apart one.0 other.0 one.1 other.1 other.2 (nat_eq one.0.0 p.0) refl
      where
        apart : (q r : Pair) → Contains pairs q → Contains pairs r → not (nat_eq q.0 r.0) ≡ true → (b : Bool) → nat_eq q.0 p.0 ≡ b → is_some (listed_by Any first second p) ≡ true
        apart q r has_q has_r differ true same = listed_beside Any pairs first second leads p r refl has_r refl (λ level. absurd (grind (arith, nat_tests, differ, same, level)))
        apart q r has_q has_r differ false other = listed_beside Any pairs first second leads p q refl has_q refl (λ level. absurd (grind (arith, nat_tests, other, level)))

    none : is_mixed pairs ≡ false → (p : Pair) → Contains pairs p → is_some (listed_by Any first second p) ≡ false
    none unmixed p inside = unlisted Any pairs first second leads p refl (λ q beside does. level q beside (nat_eq q.0 p.0) refl)
      where
        level : (q : Pair) → Contains pairs q → (b : Bool) → nat_eq q.0 p.0 ≡ b → q.0 ≡ p.0
        level q beside true same = grind (arith, nat_tests, same)
        level q beside false differ = absurd (clash (is_mixed pairs) (two_differ pairs q p beside inside differ) unmixed)

    by : (b : Bool) → is_mixed pairs ≡ b → cond b (length pairs) 0 ≡ count_by (λ p. is_some (listed_by Any first second p)) pairs
    by true mixed = sym (counted_same (λ p. is_some (listed_by Any first second p)) (λ p. true) pairs (all mixed) ∙ counted_all pairs)
    by false unmixed = sym (counted_same (λ p. is_some (listed_by Any first second p)) (λ p. false) pairs (none unmixed) ∙ counted_none pairs)

-- Where it is a constant: those with another A id.
pub counts_others : (cell : Pattern ℕ) (constant : ℕ) (pairs : List Pair) (count : ℕ) → cell ≡ Is constant → count ≡ count_by (λ p. not (nat_eq constant p.0)) pairs → CountsListed cell pairs count
counts_others cell constant pairs count own is =
    subst (λ (c : Pattern ℕ). CountsListed c pairs count) (sym own)
    (record { first = first; second = second; leads = leads; is = is ∙ sym (counted_same (λ p. is_some (listed_by (Is constant) first second p)) (λ p. not (nat_eq constant p.0)) pairs (λ p inside. by p (nat_eq constant p.0) refl)) })
  where
    first : Option Pair
    first = (leads_of (Is constant) pairs).0

    second : Option ℕ
    second = (leads_of (Is constant) pairs).1

    leads : AreLeads (Is constant) (IsAmong pairs) first second
    leads = (leads_of (Is constant) pairs).2

    by : (p : Pair) (b : Bool) → nat_eq constant p.0 ≡ b → is_some (listed_by (Is constant) first second p) ≡ not (nat_eq constant p.0)
    by p true same = unlisted (Is constant) pairs first second leads p same (λ q beside also. grind (arith, nat_tests, same, also)) ∙ sym (ap not same)
    by p false differ = listed_alone (Is constant) pairs first second leads p differ ∙ sym (ap not differ)

-- Where each was looked at.
pub counts_each : (cell : Pattern ℕ) (pairs : List Pair) (first : Option Pair) (second : Option ℕ) (count : ℕ) → AreLeads cell (IsAmong pairs) first second → count ≡ count_by (λ p. is_some (listed_by cell first second p)) pairs → CountsListed cell pairs count
counts_each cell pairs first second count leads is = record { first = first; second = second; leads = leads; is = is }

-- ---- group by group

-- the violations of the first groups are so many
pub record CountedSoFar (groups : KeyedGroups) (t : TableauRow ℕ) (place count : ℕ) : Type 0 where
  pub found : List Violation
  pub listed : ListedSoFar groups t place found
  pub as_many : count ≡ length found

pub none_counted : (groups : KeyedGroups) (t : TableauRow ℕ) → CountedSoFar groups t 0 0
none_counted groups t = record { found = []; listed = nothing_listed groups t; as_many = refl }

pub counted_more : (groups : KeyedGroups) (distinct : HaveDistinctKeys same_key groups) (t : TableauRow ℕ) (settled : HasOneARow (λ (e : Entry ℕ). e.row) (is_in groups.pairs)) (place : ℕ) (key : SmallVec ℕ) (v : Group) (at : slice_get groups.pairs place ≡ Some (key, v))
    (count more : ℕ) → CountedSoFar groups t place count → CountsMatching t key.items (pairs_of v) more → CountedSoFar groups t (place + 1) (count + more)
counted_more groups distinct t settled place key v at count more so_far (inl (matched, once, counts)) = record {
  found = so_far.found ++ filter_map (listed_by t.a counts.first counts.second) (pairs_of v);
  listed = listed_more groups distinct t settled place key v at so_far.found (so_far.found ++ filter_map (listed_by t.a counts.first counts.second) (pairs_of v)) so_far.listed
      (inl (matched, record { first = counts.first; second = counts.second; leads = counts.leads; once = once; is = refl }));
  as_many =
      let added = length-given (listed_by t.a counts.first counts.second) (pairs_of v) in
      let joined = length-append so_far.found (filter_map (listed_by t.a counts.first counts.second) (pairs_of v)) in
      let before = so_far.as_many in
      let own = counts.is in
      omega (arith, added, joined, before, own);
}
counted_more groups distinct t settled place key v at count more so_far (inr (unmatched, none)) = record {
  found = so_far.found;
  listed = listed_more groups distinct t settled place key v at so_far.found so_far.found so_far.listed (inr (unmatched, refl));
  as_many = let before = so_far.as_many in omega (arith, before, none);
}

pub counted : (groups : KeyedGroups) (distinct : HaveDistinctKeys same_key groups) (t : TableauRow ℕ) (settled : HasOneARow (λ (e : Entry ℕ). e.row) (is_in groups.pairs)) (rows : List (TableauRow ℕ)) (last count : ℕ)
    → Contains rows t → DirtyStandBelow rows groups last → CountedSoFar groups t last count → AreSoMany t groups count
counted groups distinct t settled rows last count inside dirty_below so_far = record {
  found = so_far.found;
  collected = collected groups distinct t settled rows last so_far.found inside dirty_below so_far.listed;
  as_many = so_far.as_many;
}

-- ---- the list is as long

rows_apart : (vs : List Violation) → IsRising (λ (v : Violation). v.row) vs → IsDistinct nat_eq (map (λ (v : Violation). v.row) vs)
rows_apart vs rising = IsDistinct-from_apart nat_eq (map (λ (v : Violation). v.row) vs) (λ i j d before within.
    let less = rising i j (record { row = d; partner = None }) before (omega (arith, within, as_many_rows vs)) in
    let one = get_row vs i (record { row = d; partner = None }) in
    let other = get_row vs j (record { row = d; partner = None }) in
    below (get_or (map (λ (v : Violation). v.row) vs) i d) (get_or (map (λ (v : Violation). v.row) vs) j d) (omega (arith, less, one, other)))
  where
    below : (m n : ℕ) → m < n → nat_eq m n ≡ false
    below m n less = grind (arith, nat_tests, less)

rows_among : (vs ws : List Violation) → ((v : Violation) → Contains vs v → Contains ws v) → (row : ℕ) → list_any (nat_eq row) (map (λ (v : Violation). v.row) vs) ≡ true → list_any (nat_eq row) (map (λ (v : Violation). v.row) ws) ≡ true
rows_among vs ws all row is =
    let found = found_by_any (nat_eq row) (map (λ (v : Violation). v.row) vs) is in
    let from = contains_from_map (λ (v : Violation). v.row) vs found.0 found.1 in
    any_from_found (nat_eq row) (map (λ (v : Violation). v.row) ws) from.0.row (contains-map (λ (v : Violation). v.row) ws from.0 (all from.0 from.1)) (ap (nat_eq row) from.2 ∙ found.2)

same_test : (a b : Bool) → (a ≡ true → b ≡ true) → (b ≡ true → a ≡ true) → a ≡ b
same_test true b one other = sym (one refl)
same_test false true one other = other refl
same_test false false one other = refl

pub count_of_the_list : (groups : KeyedGroups) (t : TableauRow ℕ) (count : ℕ) → AreSoMany t groups count → (all : List (Entry ℕ)) → IsEntryList (is_in groups.pairs) all → count ≡ length (violating nat_eq t all)
count_of_the_list groups t count many all list =
    let listed = violations_of_set nat_eq t (is_in groups.pairs) all list in
    let same = length-from_same_keys nat_eq_equiv (map (λ (v : Violation). v.row) many.found) (map (λ (v : Violation). v.row) (violating nat_eq t all)) many.collected.once (rows_apart (violating nat_eq t all) (violating_rise nat_eq t (is_in groups.pairs) all list))
    (λ row. same_test (list_any (nat_eq row) (map (λ (v : Violation). v.row) many.found)) (list_any (nat_eq row) (map (λ (v : Violation). v.row) (violating nat_eq t all)))
    (rows_among many.found (violating nat_eq t all) (λ v inside. (listed v).1 ((many.collected.exactly v).0 inside)) row)
    (rows_among (violating nat_eq t all) many.found (λ v inside. (many.collected.exactly v).1 ((listed v).0 inside)) row)) in
    many.as_many ∙ sym (as_many_rows many.found) ∙ same ∙ as_many_rows (violating nat_eq t all)
