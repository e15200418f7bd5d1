-- The violations and orphans of a set of entries are those of its list.
use Rattle.std.proofs.Common.{◌≡◌, ℕ, ◌<◌, ◌≤◌, ◌↔◌, ◌⊎◌, Bool, true, false, cond, min, not, ◌&&◌, List, [], ◌∷◌, map, filter, Option, None, Some, refl, sym, ap, ◌∙◌, subst, inl, inr, arith}
use Rattle.std.specs.Option.{option_map, option_map_or}
use Rattle.std.specs.List.{Contains, filter_map, cons_option, list_any}
use Rattle.std.proofs.lemmas.List.Elements.{All-contains, All-weaker, All-contains_itself}
use Rattle.std.proofs.lemmas.List.Kept.{AllPairs-filter}
use Rattle.cfd_semantics.specs.declared.dependency.TableauRow.{TableauRow}
use Rattle.cfd_semantics.specs.declared.inclusion.InclusionRow.{InclusionRow}
use Rattle.cfd_semantics.specs.declared.violation.Violation.{Violation}
use Rattle.cfd_semantics.specs.Pattern.{matches, all_match}
use Rattle.cfd_semantics.specs.Tuple.{same_values}
use Rattle.cfd_semantics.specs.Violation.{Entry, is_single, is_pair, least, partners, least_partner, violation_of, violating}
use Rattle.cfd_semantics.specs.Orphan.{SideEntry, answers, is_orphan, orphaned}
use Rattle.cfd_semantics.specs.EntrySets.{IsRising, IsEntryList, IsSideList, IsPartner, IsLeastPartner, IsListedWith, IsViolation, IsUnanswered, IsOrphan}
use Rattle.cfd_semantics.proofs.Members.{contains-here, contains-there, contains_nothing, contains_cases, contains-map, contains_from_map, contains-filter_map, contains_from_filter_map}
use Rattle.cfd_semantics.proofs.Parts.{pair_parts}
use Rattle.cfd_semantics.proofs.InclusionLaw.{found_by_any, any_from_found, both_true}
use Rattle.cfd_semantics.proofs.Sets.{rising-nil, rising-head, rising-tail, rising-cons, same_rising}

-- ---- filters

pub contains-filter : {X : Type 0} (p : X → Bool) (xs : List X) (x : X) → Contains xs x → p x ≡ true → Contains (filter p xs) x
contains-filter p [] x inside passes = absurd (contains_nothing x inside)
contains-filter p (y ∷ ys) x inside passes = elim (contains_cases x y ys inside) [
  | inl is ↦ here (p y) (ap p is ∙ passes) is
  | inr later ↦ kept (p y) (contains-filter p ys x later passes)
]
  where
    here : (b : Bool) → b ≡ true → y ≡ x → Contains (cond b (y ∷ filter p ys) (filter p ys)) x
    here true e is = subst (Contains (y ∷ filter p ys)) is (contains-here y (filter p ys))
    here false e is = absurd (cc)

    kept : (b : Bool) → Contains (filter p ys) x → Contains (cond b (y ∷ filter p ys) (filter p ys)) x
    kept true inside = contains-there x y (filter p ys) inside
    kept false inside = inside

pub contains_from_filter : {X : Type 0} (p : X → Bool) (xs : List X) (x : X) → Contains (filter p xs) x → Contains xs x × (p x ≡ true)
contains_from_filter p [] x inside = absurd (contains_nothing x inside)
contains_from_filter {X} p (y ∷ ys) x inside = found (λ rest. contains_from_filter p ys x rest) (p y) refl inside
  where
    later : Contains ys x × (p x ≡ true) → Contains (y ∷ ys) x × (p x ≡ true)
    later both = (contains-there x y ys both.0, both.1)

    found : (Contains (filter p ys) x → Contains ys x × (p x ≡ true)) → (b : Bool) → p y ≡ b → Contains (cond b (y ∷ filter p ys) (filter p ys)) x → Contains (y ∷ ys) x × (p x ≡ true)
    found further false is rest = later (further rest)
    found further true is rest = elim (contains_cases x y (filter p ys) rest) [
      | inl same ↦ (subst (Contains (y ∷ ys)) same (contains-here y ys), ap p (sym same) ∙ is)
      | inr more ↦ later (further more)
    ]

-- ---- what is given of rising rows is rising

module _ {E F : Type 0} (row_of : E → ℕ) (other_of : F → ℕ) (h : E → Option F) (same : (e : E) (f : F) → h e ≡ Some f → other_of f ≡ row_of e) where
  pub rising-given : (es : List E) → IsRising row_of es → IsRising other_of (filter_map h es)
  rising-given [] rising = rising-nil other_of
  rising-given (e ∷ es) rising = one (h e) refl (rising-given es (rising-tail row_of e es rising))
    where
      above : (f : F) → h e ≡ Some f → (g : F) → Contains (filter_map h es) g → other_of f < other_of g
      above f is g inside =
          let from = contains_from_filter_map h es g inside in
          let low : row_of e < row_of from.0 = All-contains (λ k. row_of e < row_of k) es from.0 (rising-head row_of e es rising) from.1 in
          let one = same e f is in
          let other = same from.0 g from.2 in
          omega arith

      one : (o : Option F) → h e ≡ o → IsRising other_of (filter_map h es) → IsRising other_of (cons_option o (filter_map h es))
      one None is rest = rest
      one (Some f) is rest = rising-cons other_of f (filter_map h es) (All-weaker (Contains (filter_map h es)) (λ g. other_of f < other_of g) (above f is) (filter_map h es) (All-contains_itself (filter_map h es))) rest

-- ---- the least of some numbers

least-none : (ns : List ℕ) → least ns ≡ None → (n : ℕ) → Contains ns n → ⊥
least-none [] is n inside = contains_nothing n inside
least-none (m ∷ ms) is n inside = absurd (cc)

pub least-is : (ns : List ℕ) (m : ℕ) → least ns ≡ Some m → Contains ns m × ((n : ℕ) → Contains ns n → m ≤ n)
least-is [] m is = absurd (cc)
least-is (k ∷ ks) m is = of_rest (least ks) refl is (λ n rest. least-is ks n rest)
  where
    of_rest : (o : Option ℕ) → least ks ≡ o → Some (option_map_or (min k) o k) ≡ Some m → ((n : ℕ) → least ks ≡ Some n → Contains ks n × ((j : ℕ) → Contains ks j → n ≤ j)) → Contains (k ∷ ks) m × ((n : ℕ) → Contains (k ∷ ks) n → m ≤ n)
    of_rest None none is further =
        let same : k ≡ m = cc in
        (subst (Contains (k ∷ ks)) same (contains-here k ks), λ n inside. elim (contains_cases n k ks inside) [ inl at ↦ omega arith | inr later ↦ absurd (least-none ks none n later) ])
    of_rest (Some r) some is further =
        let rest = further r some in
        let same : min k r ≡ m = cc in
        elim (either k r) [
          | inl low ↦
              let at : k ≡ m = omega arith in
              (subst (Contains (k ∷ ks)) at (contains-here k ks), λ n inside. elim (contains_cases n k ks inside) [ inl is ↦ omega arith | inr later ↦ let least = rest.1 n later in omega arith ])
          | inr high ↦
              let at : r ≡ m = omega arith in
              (contains-there m k ks (subst (Contains ks) at rest.0), λ n inside. elim (contains_cases n k ks inside) [ inl is ↦ omega arith | inr later ↦ let least = rest.1 n later in omega arith ])
        ]
      where
        either : (a b : ℕ) → (a ≤ b) ⊎ (b ≤ a)
        either a b = grind arith

pub least-from : (ns : List ℕ) (m : ℕ) → Contains ns m → ((n : ℕ) → Contains ns n → m ≤ n) → least ns ≡ Some m
least-from ns m inside low = of (least ns) refl
  where
    of : (o : Option ℕ) → least ns ≡ o → o ≡ Some m
    of None none = absurd (least-none ns none m inside)
    of (Some k) some =
        let is = least-is ns k some in
        let below : m ≤ k = low k is.0 in
        let above : k ≤ m = is.1 m inside in
        let same : k ≡ m = omega arith in
        ap (λ n. Some n) same

-- ---- violations

-- a partner's A value matches, so a row with a partner is no single violation
single_or_pair : {V : Type 0} (eq : V → V → Bool) (t : TableauRow V) (e other : Entry V) → is_pair eq t e other ≡ true → is_single eq t e ≡ false
single_or_pair eq t e other pair = apart (all_match eq t.x e.x) (matches eq t.a e.a) (pair_parts eq t e other pair).a
  where
    apart : (m a : Bool) → a ≡ true → (m && not a) ≡ false
    apart true true is = refl
    apart true false is = absurd (cc)
    apart false a is = refl

module _ {V : Type 0} (eq : V → V → Bool) (t : TableauRow V) (holds : Entry V → Bool) (all : List (Entry V)) (list : IsEntryList holds all) where
  partner_in : (e other : Entry V) → IsPartner eq t holds e other → Contains (partners eq t all e) other.row
  partner_in e other is = contains-map (λ (o : Entry V). o.row) (filter (is_pair eq t e) all) other (contains-filter (is_pair eq t e) all other ((list.members other).0 is.held) is.pair)

  partner_from : (e : Entry V) (row : ℕ) → Contains (partners eq t all e) row → (other : Entry V) × IsPartner eq t holds e other × (other.row ≡ row)
  partner_from e row inside =
      let other = contains_from_map (λ (o : Entry V). o.row) (filter (is_pair eq t e) all) row inside in
      let both = contains_from_filter (is_pair eq t e) all other.0 other.1 in
      (other.0, record { held = (list.members other.0).1 both.0; pair = both.1 }, other.2)

  -- the least partner in the list is the least one in the set
  pub least_partner_of_set : (e : Entry V) (row : ℕ) → (least_partner eq t all e ≡ Some row) ↔ IsLeastPartner eq t holds e row
  least_partner_of_set e row = (
    (λ is. let low = least-is (partners eq t all e) row is in
        record { partner = partner_from e row low.0; least = λ other partner. low.1 other.row (partner_in e other partner) }),
    (λ is. least-from (partners eq t all e) row (subst (Contains (partners eq t all e)) is.partner.2 (partner_in e is.partner.0 is.partner.1))
        (λ n inside. let other = partner_from e n inside in subst (λ k. row ≤ k) other.2 (is.least other.0 other.1))),
  )

  -- and there is none exactly where the set has no partner
  pub no_partner_of_set : (e : Entry V) → (least_partner eq t all e ≡ None) ↔ ((other : Entry V) → IsPartner eq t holds e other → ⊥)
  no_partner_of_set e = (
    (λ none other partner. least-none (partners eq t all e) none other.row (partner_in e other partner)),
    (λ none. of (least_partner eq t all e) refl none),
  )
    where
      of : (o : Option ℕ) → least_partner eq t all e ≡ o → ((other : Entry V) → IsPartner eq t holds e other → ⊥) → o ≡ None
      of None is none = refl
      of (Some row) is none = let other = partner_from e row (least-is (partners eq t all e) row is).0 in absurd (none other.0 other.1)

  -- what is listed of an entry
  listed_from : (e : Entry V) (v : Violation) → violation_of eq t all e ≡ Some v → (v.row ≡ e.row) × IsListedWith eq t holds e v.partner
  listed_from e v is = of (is_single eq t e) (least_partner eq t all e) refl refl is
    where
      of : (b : Bool) (o : Option ℕ) → is_single eq t e ≡ b → least_partner eq t all e ≡ o → cond b (Some (record { row = e.row; partner = None })) (option_map (λ partner. record { row = e.row; partner = Some partner }) o) ≡ Some v → (v.row ≡ e.row) × IsListedWith eq t holds e v.partner
      of true o single partner is =
          let same : record { row = e.row; partner = None } ≡ v = cc in
          subst (λ (w : Violation). (w.row ≡ e.row) × IsListedWith eq t holds e w.partner) same (refl, single)
      of false None single partner is = absurd (cc)
      of false (Some row) single partner is =
          let same : record { row = e.row; partner = Some row } ≡ v = cc in
          subst (λ (w : Violation). (w.row ≡ e.row) × IsListedWith eq t holds e w.partner) same (refl, (least_partner_of_set e row).0 partner)

  listed_with : (e : Entry V) (partner : Option ℕ) → IsListedWith eq t holds e partner → violation_of eq t all e ≡ Some (record { row = e.row; partner = partner })
  listed_with e None single = rw single refl
  listed_with e (Some row) least =
      let pair = least.partner in
      rw (single_or_pair eq t e pair.0 pair.1.pair, (least_partner_of_set e row).1 least) refl

  -- the violations in the list are those of the set
  pub violations_of_set : (v : Violation) → Contains (violating eq t all) v ↔ IsViolation eq t holds v
  violations_of_set v = (
    (λ inside.
        let from = contains_from_filter_map (violation_of eq t all) all v inside in
        let parts = listed_from from.0 v from.2 in
        (from.0, (list.members from.0).1 from.1, sym parts.0, parts.1)),
    (λ (e, held, row, listed).
        let same : ◌≡◌ {A = Violation} (record { row = e.row; partner = v.partner }) v = λ i. record { row = row i; partner = v.partner } in
        subst (Contains (violating eq t all)) same (contains-filter_map (violation_of eq t all) all e (record { row = e.row; partner = v.partner }) ((list.members e).0 held) (listed_with e v.partner listed))),
  )

  -- they stand by rising rows
  pub violating_rise : IsRising (λ (v : Violation). v.row) (violating eq t all)
  violating_rise = rising-given (λ (e : Entry V). e.row) (λ (v : Violation). v.row) (violation_of eq t all) (λ e v is. (listed_from e v is).0) all list.rising

  -- so a rising list of the set's violations is what is listed
  pub violating_is : (found : List Violation) → IsRising (λ (v : Violation). v.row) found → ((v : Violation) → Contains found v ↔ IsViolation eq t holds v) → found ≡ violating eq t all
  violating_is found rising members =
      same_rising (λ (v : Violation). v.row) found (violating eq t all) rising violating_rise
      (λ v. ((λ inside. (violations_of_set v).1 ((members v).0 inside)), (λ inside. (members v).1 ((violations_of_set v).0 inside))))

-- ---- orphans

rows_rise : {V : Type 0} (es : List (SideEntry V)) → IsRising (λ (e : SideEntry V). e.row) es → IsRising (λ (n : ℕ). n) (map (λ (e : SideEntry V). e.row) es)
rows_rise [] rising = rising-nil (λ (n : ℕ). n)
rows_rise {V} (e ∷ es) rising =
    rising-cons (λ (n : ℕ). n) e.row (map (λ (e : SideEntry V). e.row) es)
    (All-weaker (Contains (map (λ (e : SideEntry V). e.row) es)) (λ n. e.row < n) (λ n inside.
    let from = contains_from_map (λ (e : SideEntry V). e.row) es n inside in
    subst (λ m. e.row < m) from.2 (All-contains (λ (f : SideEntry V). e.row < f.row) es from.0 (rising-head (λ (e : SideEntry V). e.row) e es rising) from.1))
    (map (λ (e : SideEntry V). e.row) es) (All-contains_itself (map (λ (e : SideEntry V). e.row) es)))
    (rows_rise es (rising-tail (λ (e : SideEntry V). e.row) e es rising))

filter_rises : {E : Type 0} (row_of : E → ℕ) (p : E → Bool) (es : List E) → IsRising row_of es → IsRising row_of (filter p es)
filter_rises {E} row_of p es rising = AllPairs-filter (λ e f. row_of e < row_of f) p es rising

module _ {V : Type 0} (eq : V → V → Bool) (t : InclusionRow V) (lefts rights : SideEntry V → Bool) (left_list right_list : List (SideEntry V)) (is_left : IsSideList lefts left_list) (is_right : IsSideList rights right_list) where
  -- an entry is an orphan in the lists where nothing in the set answers it
  pub orphan_of_sets : (left : SideEntry V) → (is_orphan eq t right_list left ≡ true) ↔ IsUnanswered eq t rights left
  orphan_of_sets left = (
    (λ is.
        let both = both_true (same_values eq t.xp left.pattern) (not (list_any (answers eq t left) right_list)) is in
        record { constants = both.0; alone = λ right held. none (answers eq t left right) (λ answer. any_from_found (answers eq t left) right_list right ((is_right.members right).0 held) answer) (not_true (list_any (answers eq t left) right_list) both.1) }),
    (λ is. rw (is.constants, unanswered (list_any (answers eq t left) right_list) (λ some. let found = found_by_any (answers eq t left) right_list some in clash (answers eq t left found.0) found.2 (is.alone found.0 ((is_right.members found.0).1 found.1)))) refl),
  )
    where
      not_true : (b : Bool) → not b ≡ true → b ≡ false
      not_true true h = absurd (cc)
      not_true false h = refl

      clash : (b : Bool) → b ≡ true → b ≡ false → ⊥
      clash b one other = cc

      none : (b : Bool) → (b ≡ true → list_any (answers eq t left) right_list ≡ true) → list_any (answers eq t left) right_list ≡ false → b ≡ false
      none true some nothing = absurd (clash (list_any (answers eq t left) right_list) (some refl) nothing)
      none false some nothing = refl

      unanswered : (b : Bool) → (b ≡ true → ⊥) → b ≡ false
      unanswered true never = absurd (never refl)
      unanswered false never = refl

  -- the orphans in the lists are those of the sets
  pub orphans_of_sets : (row : ℕ) → Contains (orphaned eq t left_list right_list) row ↔ IsOrphan eq t lefts rights row
  orphans_of_sets row = (
    (λ inside.
        let from = contains_from_map (λ (left : SideEntry V). left.row) (filter (is_orphan eq t right_list) left_list) row inside in
        let both = contains_from_filter (is_orphan eq t right_list) left_list from.0 from.1 in
        (from.0, (is_left.members from.0).1 both.0, from.2, (orphan_of_sets from.0).0 both.1)),
    (λ (left, held, is, unanswered).
        subst (Contains (orphaned eq t left_list right_list)) is
        (contains-map (λ (left : SideEntry V). left.row) (filter (is_orphan eq t right_list) left_list) left (contains-filter (is_orphan eq t right_list) left_list left ((is_left.members left).0 held) ((orphan_of_sets left).1 unanswered)))),
  )

  -- they rise
  pub orphaned_rise : IsRising (λ (n : ℕ). n) (orphaned eq t left_list right_list)
  orphaned_rise = rows_rise (filter (is_orphan eq t right_list) left_list) (filter_rises (λ (e : SideEntry V). e.row) (is_orphan eq t right_list) left_list is_left.rising)

  -- so a rising list of the sets' orphans is what is listed
  pub orphaned_is : (found : List ℕ) → IsRising (λ (n : ℕ). n) found → ((row : ℕ) → Contains found row ↔ IsOrphan eq t lefts rights row) → found ≡ orphaned eq t left_list right_list
  orphaned_is found rising members =
      same_rising (λ (n : ℕ). n) found (orphaned eq t left_list right_list) rising orphaned_rise
      (λ row. ((λ inside. (orphans_of_sets row).1 ((members row).0 inside)), (λ inside. (members row).1 ((orphans_of_sets row).0 inside))))
