-- Orphans and dirty keys of the two sets are those that the rows under each key tell.
use Rattle.std.proofs.Common.{◌≡◌, ◌≢◌, ℕ, zero, suc, ◌+◌, ◌<◌, ◌≤◌, ◌↔◌, ◌⊎◌, Bool, true, false, not, ◌&&◌, List, [], ◌∷◌, ◌++◌, length, get_or, slice_get, Some, refl, sym, ap, ◌∙◌, subst, inl, inr, arith}
use Rattle.std.specs.Prelude.{IsTrue, nat_eq, AllPairs}
use Rattle.std.specs.List.{Contains}
use Rattle.std.specs.Map.{values_of}
use Rattle.std.specs.Str.{bytes_eq}
use Rattle.std.proofs.lemmas.Bool.{cases_lt}
use Rattle.std.proofs.lemmas.Option.{none-some, same_Some, slice_get-get_or}
use Rattle.std.proofs.lemmas.List.Elements.{All-weaker, All-contains_itself}
use Rattle.std.specs.List.{dedup}
use Rattle.std.specs.List.Sorted.{IsPermutation, IsSorted}
use Rattle.std.specs.List.Retain.{IsFiltered, DiffersFromLast}
use Rattle.std.specs.Ordering.{nat_cmp}
use Rattle.std.proofs.lemmas.List.Filters.{dedup_is}
use Rattle.std.proofs.lemmas.List.Sorted.{Contains-permutation}
use Rattle.std.proofs.lemmas.Map.Keys.{IsStrictlyIncreasing-dedup}
use Rattle.std.proofs.lemmas.List.Kept.{AllPairs-cons, AllPairs-from_increasing, Contains-dedup_nat, Contains-from_dedup}
use Rattle.marked_map.specs.MarkedMap.{HaveDistinctKeys, HasKey, IsAbsent}
use Rattle.cfd_semantics.specs.declared.inclusion.InclusionRow.{InclusionRow}
use Rattle.cfd_semantics.specs.declared.inclusion.Inclusion.{Inclusion}
use Rattle.cfd_semantics.specs.Orphan.{SideEntry, left_entry_of, answers}
use Rattle.cfd_semantics.specs.EntrySets.{IsUnanswered, IsOrphan}
use Rattle.cfd_semantics.proofs.SideLists.{side_parts}
use Rattle.cfd_semantics.proofs.Members.{contains-here, contains-there, contains_nothing, contains_cases}
use Rattle.cfd_semantics.proofs.InclusionLaw.{found_by_any, any_from_found, both_true}
use Rattle.row_store.specs.Tuple.{ids_at}
use Rattle.cind_index.specs.declared.side.Side.TheVariants.{Left, Right}
use Rattle.cind_index.specs.declared.key_rows.KeyRows.{KeyRows}
use Rattle.cind_index.specs.RowsHeld.{has, has_some, rows_on, lacks_answer, is_dirty}
use Rattle.cind_index.specs.KeysHeld.{Ids, KeyedRows, is_under, lefts, rights, AreMarkedRight}
use Rattle.cind_index.specs.Orphans.{AreOrphans, IsDirtyCount}
use Rattle.row_store.specs.Watch.{IsWide}
use Rattle.cind_index.proofs.OwnEntries.{values_there}
use Rattle.cind_index.proofs.SideFacts.{wide_front, wide_back}
use Rattle.cind_index.proofs.MapFacts.{equal_lists, same_list}
use Rattle.cind_index.proofs.PairFacts.{never, clash, any_at, found_at}
use Rattle.cind_index.proofs.RowFacts.{some_row}
use Rattle.cind_index.proofs.KeyFacts.{Pair, same_key, key_there, value_there, pair_there, with_key}

not_true : (b : Bool) → not b ≡ true → b ≡ false
not_true true is = absurd (cc)
not_true false is = refl

not_false : (b : Bool) → b ≡ false → not b ≡ true
not_false b is = ap not is

module _ (m : KeyedRows) where
  -- a left row with the constants of Xp, under a key without a right row with those of Yp
  pub record OrphanAt (t : InclusionRow ℕ) (row i : ℕ) (x : Pair) : Type 0 where
    pub at : slice_get m.pairs i ≡ Some x
    pub left : has (rows_on x.1 Left) t.xp row ≡ true
    pub none : has_some (rows_on x.1 Right) t.yp ≡ false

  -- under one of the first keys
  abbrev pub FoundBelow : InclusionRow ℕ → ℕ → ℕ → Type 0
  FoundBelow t n row = (i : ℕ) × (i < n) × (x : Pair) × OrphanAt t row i x

  pub found_none : (t : InclusionRow ℕ) (row : ℕ) → FoundBelow t 0 row → ⊥
  found_none t row (i, low, x, it) = omega (arith, low)

  -- one key more
  pub found_more : (t : InclusionRow ℕ) (n row : ℕ) (v : KeyRows) (old new : List ℕ) → slice_get (values_of m.pairs) n ≡ Some v → Contains old row ↔ FoundBelow t n row
      → Contains new row ↔ (Contains old row ⊎ (IsTrue (has (rows_on v Left) t.xp row) × (has_some (rows_on v Right) t.yp ≡ false))) → Contains new row ↔ FoundBelow t (n + 1) row
  found_more t n row v old new value before step = (
    (λ inside. elim (step.0 inside) [
      | inl was ↦ let found = before.0 was in (found.0, (let low = found.1 in omega (arith, low)), found.2, found.3)
      | inr both ↦ let it = with_key m.pairs n v value in (n, omega arith, (it.0, v), record { at = it.1; left = both.0; none = both.1 })
    ]),
    (λ (i, low, x, it). elim (cases_lt i n) [
      | inl earlier ↦ step.1 (inl (before.1 (i, earlier, x, it)))
      | inr late ↦
          let here : i ≡ n = omega (arith, low, late) in
          let same : x.1 ≡ v = same_Some x.1 v (sym (value_there m.pairs i x it.at) ∙ ap (slice_get (values_of m.pairs)) here ∙ value) in
          step.1 (inr (ap (λ (w : KeyRows). has (rows_on w Left) t.xp row) (sym same) ∙ it.left, ap (λ (w : KeyRows). has_some (rows_on w Right) t.yp) (sym same) ∙ it.none))
    ]),
  )

-- a list of them that was sorted and rid of what stands twice
pub orphans_listed : (m : KeyedRows) (t : InclusionRow ℕ) (found sorted final : List ℕ) → ((row : ℕ) → Contains found row ↔ IsOrphan nat_eq t (lefts m) (rights m) row) → IsPermutation found sorted → IsPermutation sorted found → IsSorted nat_cmp sorted
    → IsFiltered (DiffersFromLast nat_eq) [] sorted final → AreOrphans (lefts m) (rights m) final t
orphans_listed m t found sorted final members to from order filtered =
    let same : final ≡ dedup nat_eq sorted = dedup_is nat_eq sorted final filtered in
    record {
      rising = subst (λ xs. AllPairs (λ row other. row < other) xs) (sym same) (AllPairs-from_increasing (dedup nat_eq sorted) (IsStrictlyIncreasing-dedup sorted order));
      exactly = λ row. (
        (λ there.
            let kept = Contains-from_dedup nat_eq sorted row (subst (λ xs. Contains xs row) same there) in
            (members row).0 (Contains-permutation sorted found row from kept)),
        (λ orphan. subst (λ xs. Contains xs row) (sym same) (Contains-dedup_nat sorted row (Contains-permutation found sorted row to ((members row).1 orphan)))),
      );
    }

module _ (m : KeyedRows) (distinct : HaveDistinctKeys same_key m) where
  -- ---- the answers to a left entry stand under its key

  same_pair : (i j : ℕ) (x y : Pair) → slice_get m.pairs i ≡ Some x → slice_get m.pairs j ≡ Some y → x.0.items ≡ y.0.items → x ≡ y
  same_pair i j x y at also same =
      let one : i ≡ j = distinct i j x.0 y.0 (key_there m.pairs i x at) (key_there m.pairs j y also) (ap (bytes_eq x.0.items) (sym same) ∙ same_list x.0.items) in
      same_Some x y (sym at ∙ ap (slice_get m.pairs) one ∙ also)

  pub alone_at : (t : InclusionRow ℕ) (left : SideEntry ℕ) (i : ℕ) (x : Pair) → slice_get m.pairs i ≡ Some x → x.0.items ≡ left.key → has_some (rows_on x.1 Right) t.yp ≡ false
      → (right : SideEntry ℕ) → IsTrue (rights m right) → answers nat_eq t left right ≡ false
  alone_at t left i x at key none right there = never (answers nat_eq t left right) (λ answer.
      let parts = both_true (bytes_eq left.key right.key) (bytes_eq t.yp right.pattern) answer in
      let found = found_at (is_under Right right) m.pairs there in
      let under = both_true (bytes_eq right.key found.0.0.items) (has (rows_on found.0.1 Right) right.pattern right.row) found.3 in
      let same : x ≡ found.0 = same_pair i found.1 x found.0 at found.2 (key ∙ equal_lists left.key right.key parts.0 ∙ equal_lists right.key found.0.0.items under.0) in
      let has_row : has (rows_on x.1 Right) t.yp right.row ≡ true = ap (λ (p : Pair). has (rows_on p.1 Right) t.yp right.row) same ∙ ap (λ p. has (rows_on found.0.1 Right) p right.row) (equal_lists t.yp right.pattern parts.1) ∙ under.1 in
      clash (has_some (rows_on x.1 Right) t.yp) ((some_row (rows_on x.1 Right) t.yp).1 (right.row, has_row)) none)

  pub none_answers : (t : InclusionRow ℕ) (left : SideEntry ℕ) (i : ℕ) (x : Pair) → slice_get m.pairs i ≡ Some x → x.0.items ≡ left.key
      → ((right : SideEntry ℕ) → IsTrue (rights m right) → answers nat_eq t left right ≡ false) → has_some (rows_on x.1 Right) t.yp ≡ false
  none_answers t left i x at key alone = never (has_some (rows_on x.1 Right) t.yp) (λ some.
      let one = (some_row (rows_on x.1 Right) t.yp).0 some in
      let right : SideEntry ℕ = record { key = x.0.items; pattern = t.yp; row = one.0 } in
      let there = any_at (is_under Right right) m.pairs x i at (ap (λ b. b && has (rows_on x.1 Right) t.yp one.0) (same_list x.0.items) ∙ one.1) in
      clash (answers nat_eq t left right) (ap (λ b. b && bytes_eq t.yp t.yp) (ap (bytes_eq left.key) key ∙ same_list left.key) ∙ same_list t.yp) (alone right there))

  -- ---- orphans stand under marked keys

  pub entry_at : (t : InclusionRow ℕ) (row i : ℕ) (x : Pair) → OrphanAt m t row i x → (left : SideEntry ℕ) × IsTrue (lefts m left) × (left.row ≡ row) × (left.key ≡ x.0.items) × IsUnanswered nat_eq t (rights m) left
  entry_at t row i x it = (
    record { key = x.0.items; pattern = t.xp; row = row },
    any_at (is_under Left (record { key = x.0.items; pattern = t.xp; row = row })) m.pairs x i it.at (ap (λ b. b && has (rows_on x.1 Left) t.xp row) (same_list x.0.items) ∙ it.left),
    refl,
    refl,
    record { constants = same_list t.xp; alone = alone_at t (record { key = x.0.items; pattern = t.xp; row = row }) i x it.at refl it.none },
  )

  at_entry : (t : InclusionRow ℕ) (left : SideEntry ℕ) → IsTrue (lefts m left) → IsUnanswered nat_eq t (rights m) left → (i : ℕ) × (x : Pair) × (left.key ≡ x.0.items) × OrphanAt m t left.row i x
  at_entry t left there unanswered =
      let found = found_at (is_under Left left) m.pairs there in
      let under = both_true (bytes_eq left.key found.0.0.items) (has (rows_on found.0.1 Left) left.pattern left.row) found.3 in
      let key = equal_lists left.key found.0.0.items under.0 in (
        found.1,
        found.0,
        key,
        record {
          at = found.2;
          left = ap (λ p. has (rows_on found.0.1 Left) p left.row) (equal_lists t.xp left.pattern unanswered.constants) ∙ under.1;
          none = none_answers t left found.1 found.0 found.2 (sym key) unanswered.alone;
        },
      )

  module _ (tableau : List (InclusionRow ℕ)) (right : AreMarkedRight tableau m) where
    is_marked : (t : InclusionRow ℕ) (row i : ℕ) (x : Pair) → Contains tableau t → OrphanAt m t row i x → i < m.marked
    is_marked t row i x inside it =
        let lacks : lacks_answer x.1 t ≡ true = ap (λ b. b && not (has_some (rows_on x.1 Right) t.yp)) ((some_row (rows_on x.1 Left) t.xp).1 (row, it.left)) ∙ not_false (has_some (rows_on x.1 Right) t.yp) it.none in
        let dirty = any_from_found (lacks_answer x.1) tableau t inside lacks in
        elim (cases_lt i m.marked) [ inl low ↦ low | inr high ↦ absurd (clash (is_dirty tableau x.1) dirty (right.unmarked x (i, high, it.at))) ]

    pub orphans_below : (t : InclusionRow ℕ) (row : ℕ) → Contains tableau t → FoundBelow m t m.marked row ↔ IsOrphan nat_eq t (lefts m) (rights m) row
    orphans_below t row inside = (
      (λ (i, low, x, it). let e = entry_at t row i x it in (e.0, e.1, e.2, e.4)),
      (λ (left, there, is, unanswered).
          let it = at_entry t left there unanswered in
          let moved = subst (λ r. OrphanAt m t r it.0 it.1) is it.3 in
          (it.0, is_marked t row it.0 it.1 inside moved, it.1, moved)),
    )

    -- those under the marked keys
    pub orphans_collected : (k n : ℕ) (t x : InclusionRow ℕ) (found : List ℕ) → k < length tableau → t ≡ get_or tableau k t → slice_get tableau k ≡ Some x → n ≡ m.marked
        → ((row : ℕ) → Contains found row ↔ FoundBelow m t n row) → (row : ℕ) → Contains found row ↔ IsOrphan nat_eq x (lefts m) (rights m) row
    orphans_collected k n t x found within is at all members row =
        let inside : Contains tableau t = (k, within, sym is ∙ refl) in
        let one : t ≡ x = same_Some t x (ap (λ (r : InclusionRow ℕ). Some r) is ∙ sym (slice_get-get_or tableau k t within) ∙ at) in
        subst (λ (r : InclusionRow ℕ). Contains found row ↔ IsOrphan nat_eq r (lefts m) (rights m) row) one (
          (λ there. (orphans_below t row inside).0 (subst (λ b. FoundBelow m t b row) all ((members row).0 there))),
          (λ orphan. (members row).1 (subst (λ b. FoundBelow m t b row) (sym all) ((orphans_below t row inside).1 orphan))),
        )

    -- ---- dirty keys

    first_keys : ℕ → List Pair → List (List ℕ)
    first_keys zero es = []
    first_keys (suc n) [] = []
    first_keys (suc n) (e ∷ es) = e.0.items ∷ first_keys n es

    keys_long : (n : ℕ) (es : List Pair) → n ≤ length es → length (first_keys n es) ≡ n
    unfolding first_keys
    keys_long zero es few = refl
    keys_long (suc n) [] few = absurd (omega arith)
    keys_long (suc n) (e ∷ es) few = ap (λ k. suc k) (keys_long n es (omega arith))

    key_from : (n : ℕ) (es : List Pair) (key : List ℕ) → Contains (first_keys n es) key → (i : ℕ) × (i < n) × (x : Pair) × (slice_get es i ≡ Some x) × (x.0.items ≡ key)
    unfolding first_keys
    key_from zero es key inside = absurd (contains_nothing key inside)
    key_from (suc n) [] key inside = absurd (contains_nothing key inside)
    key_from (suc n) (e ∷ es) key inside = elim (contains_cases key e.0.items (first_keys n es) inside) [
      | inl is ↦ (0, omega arith, e, refl, is)
      | inr later ↦ let found = key_from n es key later in (suc found.0, (let low = found.1 in omega arith), found.2, found.3, found.4)
    ]

    key_to : (n : ℕ) (es : List Pair) (key : List ℕ) (i : ℕ) (x : Pair) → i < n → slice_get es i ≡ Some x → x.0.items ≡ key → Contains (first_keys n es) key
    unfolding first_keys
    key_to zero es key i x low at is = absurd (omega arith)
    key_to (suc n) [] key i x low at is = absurd (none-some x at)
    key_to (suc n) (e ∷ es) key zero x low at is = subst (Contains (e.0.items ∷ first_keys n es)) (ap (λ (p : Pair). p.0.items) (same_Some e x at) ∙ is) (contains-here e.0.items (first_keys n es))
    key_to (suc n) (e ∷ es) key (suc i) x low at is = contains-there key e.0.items (first_keys n es) (key_to n es key i x (omega arith) at is)

    keys_apart : (n : ℕ) (es : List Pair) → ((i j : ℕ) (x y : Pair) → slice_get es i ≡ Some x → slice_get es j ≡ Some y → x.0.items ≡ y.0.items → i ≡ j) → AllPairs (λ key other. key ≢ other) (first_keys n es)
    unfolding first_keys
    keys_apart zero es once = λ i j d before within. absurd (omega arith)
    keys_apart (suc n) [] once = λ i j d before within. absurd (omega arith)
    keys_apart (suc n) (e ∷ es) once =
        AllPairs-cons (λ key other. key ≢ other) e.0.items (first_keys n es)
        (All-weaker (Contains (first_keys n es)) (λ other. e.0.items ≢ other) (λ other inside same.
        let found = key_from n es other inside in
        let no = once 0 (suc found.0) e found.2 refl found.3 (same ∙ sym found.4) in omega (arith, no)) (first_keys n es) (All-contains_itself (first_keys n es)))
        (keys_apart n es (λ i j x y at also same. let is = once (suc i) (suc j) x y at also same in omega (arith, is)))

    pub dirty_keys : (rule : Inclusion ℕ) → rule.rows ≡ tableau → m.marked ≤ length m.pairs → IsDirtyCount rule (lefts m) (rights m) m.marked
    dirty_keys rule rows few = (
      first_keys m.marked m.pairs,
      record {
        distinct = keys_apart m.marked m.pairs (λ i j x y at also same. distinct i j x.0 y.0 (key_there m.pairs i x at) (key_there m.pairs j y also) (ap (bytes_eq x.0.items) (sym same) ∙ same_list x.0.items));
        exactly = λ key. (
          (λ inside.
              let it = key_from m.marked m.pairs key inside in
              let dirty = found_by_any (lacks_answer it.2.1) tableau (right.marked it.2 (it.0, it.1, it.3)) in
              let parts = both_true (has_some (rows_on it.2.1 Left) dirty.0.xp) (not (has_some (rows_on it.2.1 Right) dirty.0.yp)) dirty.2 in
              let row = (some_row (rows_on it.2.1 Left) dirty.0.xp).0 parts.0 in
              let e = entry_at dirty.0 row.0 it.0 it.2 (record { at = it.3; left = row.1; none = not_true (has_some (rows_on it.2.1 Right) dirty.0.yp) parts.1 }) in
              (dirty.0, subst (λ ts. Contains ts dirty.0) (sym rows) dirty.1, e.0, e.1, ap (bytes_eq key) (e.3 ∙ it.4) ∙ same_list key, e.4)),
          (λ (t, inside, left, there, same, unanswered).
              let it = at_entry t left there unanswered in
              let low = is_marked t left.row it.0 it.1 (subst (λ ts. Contains ts t) rows inside) it.3 in
              key_to m.marked m.pairs key it.0 it.1 low it.3.at (sym it.2 ∙ sym (equal_lists key left.key same))),
        );
      },
      keys_long m.marked m.pairs few,
    )

-- ---- one left entry

pub no_key_answers : (m : KeyedRows) (k : Ids) (t : InclusionRow ℕ) (left : SideEntry ℕ) → k.items ≡ left.key → IsAbsent same_key m k
    → (right : SideEntry ℕ) → IsTrue (rights m right) → answers nat_eq t left right ≡ false
no_key_answers m k t left key absent right there = never (answers nat_eq t left right) (λ answer.
    let parts = both_true (bytes_eq left.key right.key) (bytes_eq t.yp right.pattern) answer in
    let found = found_at (is_under Right right) m.pairs there in
    let under = both_true (bytes_eq right.key found.0.0.items) (has (rows_on found.0.1 Right) right.pattern right.row) found.3 in
    let same : k.items ≡ found.0.0.items = key ∙ equal_lists left.key right.key parts.0 ∙ equal_lists right.key found.0.0.items under.0 in
    clash (bytes_eq k.items found.0.0.items) (ap (bytes_eq k.items) (sym same) ∙ same_list k.items) (absent found.1 found.0.0 (key_there m.pairs found.1 found.0 found.2)))

-- what a wide tuple gives on the left
pub own_left : (rule : Inclusion ℕ) (row : ℕ) (ids : List ℕ) (left : SideEntry ℕ) → IsWide (rule.x ++ rule.xp) ids → left_entry_of rule (row, ids) ≡ Some left → (ids_at ids rule.x ≡ left.key) × (ids_at ids rule.xp ≡ left.pattern)
own_left rule row ids left wide is =
    let parts = side_parts rule.x rule.xp (row, ids) left is in (
      same_Some (ids_at ids rule.x) left.key (sym (values_there ids rule.x (wide_front rule.x rule.xp ids wide)) ∙ parts.key),
      same_Some (ids_at ids rule.xp) left.pattern (sym (values_there ids rule.xp (wide_back rule.x rule.xp ids wide)) ∙ parts.pattern),
    )

pub row_at : (tableau : List (InclusionRow ℕ)) (k : ℕ) (t x : InclusionRow ℕ) → k < length tableau → t ≡ get_or tableau k t → slice_get tableau k ≡ Some x → t ≡ x
row_at tableau k t x within is at = same_Some t x (ap (λ (r : InclusionRow ℕ). Some r) is ∙ sym (slice_get-get_or tableau k t within) ∙ at)

-- what is answered of a left entry
abbrev pub TellsOrphan : Bool → KeyedRows → InclusionRow ℕ → SideEntry ℕ → Type 0
TellsOrphan b m t left = IsTrue b ↔ IsUnanswered nat_eq t (rights m) left

pub other_constants : (m : KeyedRows) (t : InclusionRow ℕ) (left : SideEntry ℕ) (pattern : List ℕ) → pattern ≡ left.pattern → bytes_eq t.xp pattern ≡ false → TellsOrphan false m t left
other_constants m t left pattern is differ = (
  (λ no. absurd (cc)),
  (λ unanswered. absurd (clash (bytes_eq t.xp pattern) (ap (bytes_eq t.xp) is ∙ unanswered.constants) differ)),
)

pub key_is_found : (m : KeyedRows) → HaveDistinctKeys same_key m → (k : Ids) (place : ℕ) (v : KeyRows) (t : InclusionRow ℕ) (left : SideEntry ℕ) (pattern : List ℕ) → HasKey same_key m k place → slice_get (values_of m.pairs) place ≡ Some v
    → k.items ≡ left.key → pattern ≡ left.pattern → bytes_eq t.xp pattern ≡ true → TellsOrphan (not (has_some (rows_on v Right) t.yp)) m t left
key_is_found m distinct k place v t left pattern (stored, at, same) value key is constants =
    let pair = pair_there m.pairs place stored v at value in
    let own : stored.items ≡ left.key = sym (equal_lists k.items stored.items same) ∙ key in (
      (λ yes. record { constants = sym (ap (bytes_eq t.xp) is) ∙ constants; alone = alone_at m distinct t left place (stored, v) pair own (not_true (has_some (rows_on v Right) t.yp) yes) }),
      (λ unanswered. not_false (has_some (rows_on v Right) t.yp) (none_answers m distinct t left place (stored, v) pair own unanswered.alone)),
    )

pub key_is_absent : (m : KeyedRows) (k : Ids) (t : InclusionRow ℕ) (left : SideEntry ℕ) (pattern : List ℕ) → IsAbsent same_key m k → k.items ≡ left.key → pattern ≡ left.pattern → bytes_eq t.xp pattern ≡ true → TellsOrphan true m t left
key_is_absent m k t left pattern absent key is constants = (
  (λ yes. record { constants = sym (ap (bytes_eq t.xp) is) ∙ constants; alone = no_key_answers m k t left key absent }),
  (λ unanswered. refl),
)
