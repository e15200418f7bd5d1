-- A set that holds exactly what rows give: its list is what the rows give by rising ids.
use Rattle.std.proofs.Common.{◌≡◌, ℕ, ◌<◌, ◌↔◌, Bool, true, false, ◌&&◌, List, [], ◌∷◌, Option, None, Some, refl, sym, ap, ◌∙◌, subst, inl, inr, arith}
use Rattle.std.specs.Prelude.{◌==◌, cond, T}
use Rattle.std.specs.Bool.{Decides}
use Rattle.std.specs.Option.{option_map_or}
use Rattle.std.specs.Ordering.{nat_cmp, eq_by_cmp, is_lt}
use Rattle.std.specs.FinMap.Entries.{below_all}
use Rattle.std.specs.List.{All, Contains, filter_map}
use Rattle.std.specs.Cmp.Lexicographic.{pointwise_decides}
use Rattle.std.specs.FinMap as map
use Rattle.std.proofs.lemmas.Bool.Decides.{nat_tests}
use Rattle.std.proofs.lemmas.List.Elements.{All-nil, All-cons, All-contains}
use Rattle.cfd_semantics.specs.declared.dependency.Dependency.{Dependency}
use Rattle.cfd_semantics.specs.Tuple.{same_values}
use Rattle.cfd_semantics.specs.Violation.{Entry, entry_of, entries}
use Rattle.cfd_semantics.specs.Orphan.{SideEntry, side_entry_of}
use Rattle.cfd_semantics.specs.EntrySets.{IsRising, IsListOf, IsGivenBy, IsEntryList, IsSideList, gives, gives_side}
use Rattle.cfd_semantics.proofs.EntryFacts.{entry_parts}
use Rattle.cfd_semantics.proofs.SideLists.{side_parts}
use Rattle.cfd_semantics.proofs.Members.{contains-here, contains-there, contains_nothing, contains_cases, contains-filter_map, contains_from_filter_map}
use Rattle.cfd_semantics.proofs.Sets.{rising-nil, rising-head, rising-tail, rising-cons}
use Rattle.cfd_semantics.proofs.SetFacts.{rising-given}

-- the rows of a list, each found by its id
pub record AreRowsOf {T : Type 0} (rows : List (ℕ × T)) (tuple_at : ℕ → Option T) : Type 0 where
  pub rising : IsRising (λ (row : ℕ × T). row.0) rows
  pub found : (row : ℕ) (tuple : T) → (tuple_at row ≡ Some tuple) ↔ Contains rows (row, tuple)

module _ {E T : Type 0} (row_of : E → ℕ) (gives : ℕ → T → E → Bool) (h : ℕ × T → Option E)
    (decides : (row : ℕ) (tuple : T) (e : E) → Decides (gives row tuple e) (h (row, tuple) ≡ Some e)) (named : (row : ℕ × T) (e : E) → h row ≡ Some e → row_of e ≡ row.0) where
  -- the list of the set is what the rows give
  pub given_list : (rows : List (ℕ × T)) (tuple_at : ℕ → Option T) (holds : E → Bool) → AreRowsOf rows tuple_at → IsGivenBy row_of gives tuple_at holds → IsListOf row_of holds (filter_map h rows)
  given_list rows tuple_at holds are given = record {
    rising = rising-given (λ (row : ℕ × T). row.0) row_of h named rows are.rising;
    members = λ e. (
      (λ held. of e (tuple_at (row_of e)) refl (sym (given e) ∙ held)),
      (λ inside.
          let from = contains_from_filter_map h rows e inside in
          let row = named from.0 e from.2 in
          let at : tuple_at (row_of e) ≡ Some from.0.1 = (are.found (row_of e) from.0.1).1 (subst (λ n. Contains rows (n, from.0.1)) (sym row) from.1) in
          given e ∙ ap (λ o. option_map_or (λ tuple. gives (row_of e) tuple e) o false) at ∙ (decides (row_of e) from.0.1 e).1 (ap (λ n. h (n, from.0.1)) row ∙ from.2)),
    );
  }
    where
      of : (e : E) (o : Option T) → tuple_at (row_of e) ≡ o → option_map_or (λ tuple. gives (row_of e) tuple e) o false ≡ true → Contains (filter_map h rows) e
      of e None at is = absurd (cc)
      of e (Some tuple) at is = contains-filter_map h rows (row_of e, tuple) e ((are.found (row_of e) tuple).0 at) ((decides (row_of e) tuple e).0 is)

-- ---- the entries of a dependency, and of one side of an inclusion, where equality of values is exact

three : (a b c : Bool) → (a && b && c) ≡ true → (a ≡ true) × (b ≡ true) × (c ≡ true)
three true true true h = (refl, refl, refl)
three true true false h = absurd (cc)
three true false c h = absurd (cc)
three false b c h = absurd (cc)

same_number : (m n : ℕ) → Decides (m == n) (m ≡ n)
same_number m n = ((λ is. grind (arith, nat_tests)), (λ is. grind (arith, nat_tests)))

module _ {V : Type 0} (eq : V → V → Bool) (exact : (v w : V) → Decides (eq v w) (v ≡ w)) where
  same_entry : (own e : Entry V) → Decides (same_values eq own.x e.x && eq own.a e.a && (own.row == e.row)) (own ≡ e)
  same_entry own e = (
    (λ is.
        let parts = three (same_values eq own.x e.x) (eq own.a e.a) (own.row == e.row) is in
        let x = (pointwise_decides exact own.x e.x).0 parts.0 in
        let a = (exact own.a e.a).0 parts.1 in
        let row = (same_number own.row e.row).0 parts.2 in
        λ i. record { x = x i; a = a i; row = row i }),
    (λ is.
        let x = (pointwise_decides exact own.x e.x).1 (ap (λ (f : Entry V). f.x) is) in
        let a = (exact own.a e.a).1 (ap (λ (f : Entry V). f.a) is) in
        let row = (same_number own.row e.row).1 (ap (λ (f : Entry V). f.row) is) in
        rw (x, a, row) refl),
  )

  pub gives_decides : (d : Dependency V) (row : ℕ) (tuple : List V) (e : Entry V) → Decides (gives eq d row tuple e) (entry_of d (row, tuple) ≡ Some e)
  gives_decides d row tuple e = of (entry_of d (row, tuple))
    where
      of : (o : Option (Entry V)) → Decides (option_map_or (λ own. same_values eq own.x e.x && eq own.a e.a && (own.row == e.row)) o false) (o ≡ Some e)
      of None = ((λ is. absurd (cc)), (λ is. absurd (cc)))
      of (Some own) = ((λ is. ap (λ f. Some f) ((same_entry own e).0 is)), (λ is. (same_entry own e).1 cc))

  -- an index that holds what each row gives holds the entries of the rows
  pub entries_of_rows : (d : Dependency V) (rows : List (ℕ × List V)) (tuple_at : ℕ → Option (List V)) (holds : Entry V → Bool) → AreRowsOf rows tuple_at → IsGivenBy (λ (e : Entry V). e.row) (gives eq d) tuple_at holds → IsEntryList holds (entries d rows)
  entries_of_rows d rows tuple_at holds are given =
      given_list (λ (e : Entry V). e.row) (gives eq d) (entry_of d) (gives_decides d) (λ row e is. (entry_parts d row e is).is_row) rows tuple_at holds are given

  same_side : (own e : SideEntry V) → Decides (same_values eq own.key e.key && same_values eq own.pattern e.pattern && (own.row == e.row)) (own ≡ e)
  same_side own e = (
    (λ is.
        let parts = three (same_values eq own.key e.key) (same_values eq own.pattern e.pattern) (own.row == e.row) is in
        let key = (pointwise_decides exact own.key e.key).0 parts.0 in
        let pattern = (pointwise_decides exact own.pattern e.pattern).0 parts.1 in
        let row = (same_number own.row e.row).0 parts.2 in
        λ i. record { key = key i; pattern = pattern i; row = row i }),
    (λ is.
        let key = (pointwise_decides exact own.key e.key).1 (ap (λ (f : SideEntry V). f.key) is) in
        let pattern = (pointwise_decides exact own.pattern e.pattern).1 (ap (λ (f : SideEntry V). f.pattern) is) in
        let row = (same_number own.row e.row).1 (ap (λ (f : SideEntry V). f.row) is) in
        rw (key, pattern, row) refl),
  )

  pub gives_side_decides : (x xp : List ℕ) (row : ℕ) (tuple : List V) (e : SideEntry V) → Decides (gives_side eq x xp row tuple e) (side_entry_of x xp (row, tuple) ≡ Some e)
  gives_side_decides x xp row tuple e = of (side_entry_of x xp (row, tuple))
    where
      of : (o : Option (SideEntry V)) → Decides (option_map_or (λ own. same_values eq own.key e.key && same_values eq own.pattern e.pattern && (own.row == e.row)) o false) (o ≡ Some e)
      of None = ((λ is. absurd (cc)), (λ is. absurd (cc)))
      of (Some own) = ((λ is. ap (λ f. Some f) ((same_side own e).0 is)), (λ is. (same_side own e).1 cc))

  -- the same for one side of an inclusion
  pub side_entries_of_rows : (x xp : List ℕ) (rows : List (ℕ × List V)) (tuple_at : ℕ → Option (List V)) (holds : SideEntry V → Bool) → AreRowsOf rows tuple_at → IsGivenBy (λ (e : SideEntry V). e.row) (gives_side eq x xp) tuple_at holds → IsSideList holds (filter_map (side_entry_of x xp) rows)
  side_entries_of_rows x xp rows tuple_at holds are given =
      given_list (λ (e : SideEntry V). e.row) (gives_side eq x xp) (side_entry_of x xp) (gives_side_decides x xp) (λ row e is. (side_parts x xp row e is).is_row) rows tuple_at holds are given

-- ---- the rows of a map by their ids

ties : (m n : ℕ) → eq_by_cmp nat_cmp m n ≡ true → m ≡ n
ties m n is = grind (arith, nat_tests)

tied : (m n : ℕ) → m ≡ n → eq_by_cmp nat_cmp m n ≡ true
tied m n is = grind (arith, nat_tests)

below : (m n : ℕ) → T (is_lt (nat_cmp m n)) → m < n
below m n is = grind (arith, nat_tests)

both_so : (a b : Bool) → T (a && b) → T a × T b
both_so true b h = (tt, h)
both_so false b h = absurd h

module _ {X : Type 0} where
  all_above : (low : ℕ) (rows : List (ℕ × X)) → T (below_all nat_cmp low rows) → All (λ (row : ℕ × X). low < row.0) rows
  all_above low [] h = All-nil _
  all_above low (row ∷ rows) h =
      let both = both_so (is_lt (nat_cmp low row.0)) (below_all nat_cmp low rows) h in
      All-cons (λ (row : ℕ × X). low < row.0) row rows (below low row.0 both.0) (all_above low rows both.1)

  sorted_rise : (rows : List (ℕ × X)) → T (map.is_sorted nat_cmp rows) → IsRising (λ (row : ℕ × X). row.0) rows
  sorted_rise [] h = rising-nil (λ (row : ℕ × X). row.0)
  sorted_rise (row ∷ rows) h =
      let both = both_so (below_all nat_cmp row.0 rows) (map.is_sorted nat_cmp rows) h in
      rising-cons (λ (row : ℕ × X). row.0) row rows (all_above row.0 rows both.0) (sorted_rise rows both.1)

  found_in : (id : ℕ) (x : X) (rows : List (ℕ × X)) → map.find nat_cmp id rows ≡ Some x → Contains rows (id, x)
  found_in id x [] is = absurd (cc)
  found_in id x (row ∷ rows) is = of (eq_by_cmp nat_cmp id row.0) refl is (λ rest. found_in id x rows rest)
    where
      of : (b : Bool) → eq_by_cmp nat_cmp id row.0 ≡ b → cond b (Some row.1) (map.find nat_cmp id rows) ≡ Some x → (map.find nat_cmp id rows ≡ Some x → Contains rows (id, x)) → Contains (row ∷ rows) (id, x)
      of true tie is later =
          let one = ties id row.0 tie in
          let value : row.1 ≡ x = cc in
          let same : ◌≡◌ {A = ℕ × X} row (id, x) = λ i. (sym one i, value i) in
          subst (Contains (row ∷ rows)) same (contains-here row rows)
      of false tie is later = contains-there (id, x) row rows (later is)

  finds : (id : ℕ) (x : X) (rows : List (ℕ × X)) → IsRising (λ (row : ℕ × X). row.0) rows → Contains rows (id, x) → map.find nat_cmp id rows ≡ Some x
  finds id x [] rising inside = absurd (contains_nothing (id, x) inside)
  finds id x (row ∷ rows) rising inside = elim (contains_cases (id, x) row rows inside) [
    | inl is ↦
        let at : row.0 ≡ id = ap (λ (r : ℕ × X). r.0) is in
        let value : row.1 ≡ x = ap (λ (r : ℕ × X). r.1) is in
        rw (tied id row.0 (sym at)) (ap (λ v. Some v) value)
    | inr later ↦
        let low : row.0 < id = All-contains (λ (r : ℕ × X). row.0 < r.0) rows (id, x) (rising-head (λ (row : ℕ × X). row.0) row rows rising) later in
        rw (not_tied id row.0 low) (finds id x rows (rising-tail (λ (row : ℕ × X). row.0) row rows rising) later)
  ]
    where
      not_tied : (m n : ℕ) → n < m → eq_by_cmp nat_cmp m n ≡ false
      not_tied m n less = grind (arith, nat_tests)

  -- a map's entries are its rows
  pub rows_of_map : (m : map.FinMap nat_cmp X) → AreRowsOf (map.entries m) (map.get m)
  rows_of_map m =
      let rising = sorted_rise (map.entries m) (map.entries_sorted m) in record {
        rising = rising;
        found = λ row tuple. (
          (λ is. found_in row tuple (map.entries m) (sym (map.get-entries m row) ∙ is)),
          (λ inside. map.get-entries m row ∙ finds row tuple (map.entries m) rising inside),
        );
      }
