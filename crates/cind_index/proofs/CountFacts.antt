-- How many orphans a row of the tableau has, told without a list of them.
use Rattle.std.proofs.Common.{◌≡◌, ◌≢◌, ℕ, suc, ◌+◌, ◌<◌, ◌↔◌, ◌⊎◌, Bool, true, false, not, ◌&&◌, List, [], ◌∷◌, ◌++◌, length, map, get_or, slice_get, Option, Some, refl, sym, ap, ◌∙◌, subst, inl, inr, arith}
use Rattle.std.specs.Prelude.{◌==◌, nat_eq, AllPairs, Contains}
use Rattle.std.specs.Option.{option_map_or}
use Rattle.std.specs.List.{list_any, IsDistinct}
use Rattle.std.specs.List.Sorted.{IsStrictlySortedBy}
use Rattle.std.specs.Ordering.{nat_cmp}
use Rattle.std.specs.Str.{bytes_eq}
use Rattle.std.specs.BTreeSet.{BTreeSet}
use Rattle.std.proofs.lemmas.Bool.{cases_lt}
use Rattle.std.proofs.lemmas.Bool.Decides.{nat_tests, Decides-eqb}
use Rattle.std.proofs.lemmas.Cmp.{nat_eq_equiv}
use Rattle.std.proofs.lemmas.List.{get_or-map, length-map, length-append}
use Rattle.std.proofs.lemmas.List.Elements.{All-weaker, All-contains_itself}
use Rattle.std.proofs.lemmas.List.Kept.{AllPairs-cons}
use Rattle.std.proofs.lemmas.Option.{same_Some, slice_get-get_or}
use Rattle.std.proofs.lemmas.Map.Keys.{IsDistinct-from_apart, below_from_sorted}
use Rattle.std.proofs.lemmas.Map.Made.{length-from_same_keys, AllPairs-from_IsDistinct, IsDistinct-from_AllPairs}
use Rattle.marked_map.specs.MarkedMap.{HaveDistinctKeys}
use Rattle.cfd_semantics.specs.declared.inclusion.InclusionRow.{InclusionRow}
use Rattle.cfd_semantics.specs.Orphan.{SideEntry, orphaned}
use Rattle.cfd_semantics.specs.EntrySets.{HasOneARow, IsOrphan}
use Rattle.cfd_semantics.proofs.Members.{contains-here, contains-there, contains_nothing, contains_cases}
use Rattle.cfd_semantics.proofs.InclusionLaw.{found_by_any, any_from_found, both_true}
use Rattle.cfd_semantics.proofs.Sets.{one_a_row}
use Rattle.cfd_semantics.proofs.SetFacts.{orphans_of_sets, orphaned_rise}
use Rattle.cind_index.specs.declared.side.Side.TheVariants.{Left, Right}
use Rattle.cind_index.specs.declared.row_set.RowSet.{RowSet}
use Rattle.cind_index.specs.declared.row_set.RowSet.TheVariants.{More}
use Rattle.cind_index.specs.declared.key_rows.KeyRows.{KeyRows}
use Rattle.cind_index.specs.RowsHeld.{is_in, has, has_some, rows_on, is_orphaned, HoldsSoMany}
use Rattle.cind_index.specs.KeysHeld.{KeyedRows, lefts, rights, AreMarkedRight}
use Rattle.cind_index.specs.Orphans.{IsOrphanCount}
use Rattle.cind_index.proofs.MapFacts.{same_list}
use Rattle.cind_index.proofs.PairFacts.{contains_from_at}
use Rattle.cind_index.proofs.RowFacts.{append_members, set_members, same_number, number_itself}
use Rattle.cind_index.proofs.KeyFacts.{Pair, same_key, key_there}
use Rattle.cind_index.proofs.OrphanFacts.{OrphanAt, FoundBelow, found_none, entry_at, orphans_below}

-- ---- how many rows a container holds

-- none
pub holds_none : (held : ℕ → Bool) (count : ℕ) → ((row : ℕ) → held row ≡ false) → count ≡ 0 → HoldsSoMany held count
unfolding IsDistinct
holds_none held count none is = record {
  rows = [];
  once = tt;
  exactly = λ row. ((λ inside. absurd (contains_nothing row inside)), (λ there. absurd (let no = none row in cc)));
  as_many = sym is;
}

-- the same rows by another test
pub holds_as : (one other : ℕ → Bool) (count : ℕ) → ((row : ℕ) → one row ≡ other row) → HoldsSoMany one count → HoldsSoMany other count
holds_as one other count same so = record {
  rows = so.rows;
  once = so.once;
  exactly = λ row. ((λ inside. sym (same row) ∙ (so.exactly row).0 inside), (λ there. (so.exactly row).1 (same row ∙ there)));
  as_many = so.as_many;
}

pub holds_one : (own : ℕ) → HoldsSoMany (λ row. row == own) 1
unfolding IsDistinct
holds_one own = record {
  rows = own ∷ [];
  once = (tt, tt);
  exactly = λ row. (
    (λ inside. elim (contains_cases row own [] inside) [ inl is ↦ subst (λ n. (n == own) ≡ true) is (number_itself own) | inr none ↦ absurd (contains_nothing row none) ]),
    (λ there. subst (Contains (own ∷ [])) (sym (same_number row own there)) (contains-here own [])),
  );
  as_many = refl;
}

-- those of an ordered set, as many as it has members
pub holds_members : (rows : RowSet) (set : BTreeSet ℕ) (count : ℕ) → rows ≡ More set → IsStrictlySortedBy nat_cmp set.keys → count ≡ length set.keys → HoldsSoMany (is_in rows) count
holds_members rows set count is ordered as_many = subst (λ (r : RowSet). HoldsSoMany (is_in r) count) (sym is) (record {
  rows = set.keys;
  once = IsDistinct-from_apart nat_eq set.keys (λ i j d before within. below (get_or set.keys i d) (get_or set.keys j d) (below_from_sorted set.keys i j d ordered before within));
  exactly = λ row. ((λ inside. (set_members set.keys row).1 inside), (λ there. (set_members set.keys row).0 there));
  as_many = sym as_many;
})
  where
    below : (m n : ℕ) → m < n → nat_eq m n ≡ false
    below m n less = grind (arith, nat_tests, less)

-- those of a set that may be missing
pub holds_some : (found : Option RowSet) (rows : RowSet) (count : ℕ) → found ≡ Some rows → HoldsSoMany (is_in rows) count → HoldsSoMany (λ row. option_map_or (λ held. is_in held row) found false) count
holds_some found rows count is so = holds_as (is_in rows) (λ row. option_map_or (λ held. is_in held row) found false) count (λ row. ap (λ (o : Option RowSet). option_map_or (λ held. is_in held row) o false) (sym is)) so

-- a lone row with these pattern values, or with others
pub holds_lone : (held pattern : List ℕ) (count : ℕ) → (bytes_eq pattern held ≡ true) × (count ≡ 1) ⊎ (bytes_eq pattern held ≡ false) × (count ≡ 0) → (own : ℕ) → HoldsSoMany (λ row. bytes_eq pattern held && row == own) count
holds_lone held pattern count (inl (same, one)) own = holds_as (λ row. row == own) (λ row. bytes_eq pattern held && row == own) count (λ row. ap (λ b. b && row == own) (sym same)) (subst (HoldsSoMany (λ row. row == own)) (sym one) (holds_one own))
holds_lone held pattern count (inr (other, none)) own = holds_none (λ row. bytes_eq pattern held && row == own) count (λ row. ap (λ b. b && row == own) other) none

-- orphans of a key: all left rows with the constants, or none
pub orphans_none : (rows : KeyRows) (t : InclusionRow ℕ) → has_some (rows_on rows Right) t.yp ≡ true → HoldsSoMany (is_orphaned rows t) 0
orphans_none rows t answered = holds_none (is_orphaned rows t) 0 (λ row. ap (λ b. has (rows_on rows Left) t.xp row && not b) answered ∙ never (has (rows_on rows Left) t.xp row)) refl
  where
    never : (b : Bool) → (b && false) ≡ false
    never true = refl
    never false = refl

pub orphans_all : (rows : KeyRows) (t : InclusionRow ℕ) (count : ℕ) → has_some (rows_on rows Right) t.yp ≡ false → HoldsSoMany (has (rows_on rows Left) t.xp) count → HoldsSoMany (is_orphaned rows t) count
orphans_all rows t count unanswered so = holds_as (has (rows_on rows Left) t.xp) (is_orphaned rows t) count (λ row. sym (ap (λ b. has (rows_on rows Left) t.xp row && not b) unanswered ∙ always (has (rows_on rows Left) t.xp row))) so
  where
    always : (b : Bool) → (b && true) ≡ b
    always true = refl
    always false = refl

-- ---- two lists of the same numbers

-- they are as long, where none stands twice
pub as_long : (xs ys : List ℕ) → IsDistinct nat_eq xs → IsDistinct nat_eq ys → ((n : ℕ) → Contains xs n ↔ Contains ys n) → length xs ≡ length ys
as_long xs ys once also same =
    length-from_same_keys nat_eq_equiv xs ys once also
    (λ row. same_test (list_any (nat_eq row) xs) (list_any (nat_eq row) ys) (among xs ys (λ n there. (same n).0 there) row) (among ys xs (λ n there. (same n).1 there) row))
  where
    among : (xs ys : List ℕ) → ((n : ℕ) → Contains xs n → Contains ys n) → (row : ℕ) → list_any (nat_eq row) xs ≡ true → list_any (nat_eq row) ys ≡ true
    among xs ys all row is = let found = found_by_any (nat_eq row) xs is in any_from_found (nat_eq row) ys found.0 (all found.0 found.1) found.2

    same_test : (a b : Bool) → (a ≡ true → b ≡ true) → (b ≡ true → a ≡ true) → a ≡ b
    same_test true b one other = sym (one refl)
    same_test false true one other = other refl
    same_test false false one other = refl

-- the list of the orphans is as long as one that has each of them once
pub orphans_as_many : (t : InclusionRow ℕ) (lefts rights : SideEntry ℕ → Bool) (found : List ℕ) → IsDistinct nat_eq found → ((row : ℕ) → Contains found row ↔ IsOrphan nat_eq t lefts rights row) → IsOrphanCount lefts rights (length found) t
orphans_as_many t lefts rights found once exactly ls rs is_left is_right =
    as_long found (orphaned nat_eq t ls rs) once
    (IsDistinct-from_apart nat_eq (orphaned nat_eq t ls rs) (λ i j d before within. differ (get_or (orphaned nat_eq t ls rs) i d) (get_or (orphaned nat_eq t ls rs) j d) (orphaned_rise nat_eq t lefts rights ls rs is_left is_right i j d before within)))
    (λ n. ((λ there. (orphans_of_sets nat_eq t lefts rights ls rs is_left is_right n).1 ((exactly n).0 there)), (λ there. (exactly n).1 ((orphans_of_sets nat_eq t lefts rights ls rs is_left is_right n).0 there))))
  where
    differ : (m n : ℕ) → m < n → nat_eq m n ≡ false
    differ m n less = grind (arith, nat_tests, less)

-- a test holds of one number of rows alone
pub same_many : (held : ℕ → Bool) (one other : ℕ) → HoldsSoMany held one → HoldsSoMany held other → one ≡ other
same_many held one other so also =
    sym so.as_many ∙ as_long so.rows also.rows so.once also.once (λ row. ((λ there. (also.exactly row).1 ((so.exactly row).0 there)), (λ there. (so.exactly row).1 ((also.exactly row).0 there)))) ∙ also.as_many

-- ---- lists in which nothing stands twice

abbrev pub AreOnce : {X : Type 0} → List X → Type 0
AreOnce xs = AllPairs (λ x y. x ≢ y) xs

pub once_append : {X : Type 0} (xs ys : List X) → AreOnce xs → AreOnce ys → ((x : X) → Contains xs x → Contains ys x → ⊥) → AreOnce (xs ++ ys)
once_append [] ys one other apart = other
once_append {X} (x ∷ xs) ys one other apart =
    AllPairs-cons (λ x y. x ≢ y) x (xs ++ ys)
    (All-weaker (Contains (xs ++ ys)) (λ y. x ≢ y) (λ y inside same. elim ((append_members xs ys y).0 inside) [
      | inl (i, low, is) ↦ one 0 (suc i) y (omega arith) (omega (arith, low)) (same ∙ sym is)
      | inr right ↦ apart x (contains-here x xs) (subst (Contains ys) (sym same) right)
    ]) (xs ++ ys) (All-contains_itself (xs ++ ys)))
    (once_append xs ys (λ i j d before within. one (suc i) (suc j) d (omega (arith, before)) (omega (arith, within))) other (λ y left right. apart y (contains-there y x xs left) right))

-- so are their pictures, where no two have the same one
pub once_map : {X Y : Type 0} (f : X → Y) (xs : List X) → ((x z : X) → Contains xs x → Contains xs z → f x ≡ f z → x ≡ z) → AreOnce xs → AreOnce (map f xs)
once_map f [] apart once = λ i j d before within. absurd (omega (arith, within))
once_map {X} {Y} f (x ∷ xs) apart once = λ i j d before within.
    let long = length-map (x ∷ xs) f in
    let here : j < length (x ∷ xs) = omega (arith, within, long) in
    let there : i < length (x ∷ xs) = omega (arith, here, before) in
    λ same. once i j x before here (apart (get_or (x ∷ xs) i x) (get_or (x ∷ xs) j x) (contains_from_at (x ∷ xs) (get_or (x ∷ xs) i x) i (slice_get-get_or (x ∷ xs) i x there)) (contains_from_at (x ∷ xs) (get_or (x ∷ xs) j x) j (slice_get-get_or (x ∷ xs) j x here))
    (sym (get_or-map f (x ∷ xs) i x d there) ∙ same ∙ get_or-map f (x ∷ xs) j x d here))

-- two lists without a common number
distinct_append : (xs ys : List ℕ) → IsDistinct nat_eq xs → IsDistinct nat_eq ys → ((n : ℕ) → Contains xs n → Contains ys n → ⊥) → IsDistinct nat_eq (xs ++ ys)
distinct_append xs ys one other apart =
    IsDistinct-from_AllPairs Decides-eqb (xs ++ ys) (once_append xs ys (AllPairs-from_IsDistinct Decides-eqb xs one) (AllPairs-from_IsDistinct Decides-eqb ys other) apart)

-- ---- key by key

-- The orphans under the first keys are so many, where no row has two entries.
pub record SoManyBelow (m : KeyedRows) (t : InclusionRow ℕ) (place count : ℕ) : Type 0 where
  pub found : List ℕ
  pub once : IsDistinct nat_eq found
  pub exactly : (row : ℕ) → Contains found row ↔ FoundBelow m t place row
  pub as_many : count ≡ length found

abbrev pub CountsBelow : KeyedRows → InclusionRow ℕ → ℕ → ℕ → Type 0
CountsBelow m t place count = HasOneARow (λ (e : SideEntry ℕ). e.row) (lefts m) → SoManyBelow m t place count

pub none_counted : (m : KeyedRows) (t : InclusionRow ℕ) → CountsBelow m t 0 0
unfolding IsDistinct
none_counted m t settled = record { found = []; once = tt; exactly = λ row. ((λ inside. absurd (contains_nothing row inside)), (λ it. absurd (found_none m t row it))); as_many = refl }

module _ (m : KeyedRows) (distinct : HaveDistinctKeys same_key m) (t : InclusionRow ℕ) where
  -- a row is an orphan under one key alone
  one_place : HasOneARow (λ (e : SideEntry ℕ). e.row) (lefts m) → (row i j : ℕ) (x y : Pair) → OrphanAt m t row i x → OrphanAt m t row j y → i ≡ j
  one_place settled row i j x y one other =
      let e = entry_at m distinct t row i x one in
      let f = entry_at m distinct t row j y other in
      let same = settled e.0 f.0 e.1 f.1 (e.2 ∙ sym f.2) in
      let key : x.0.items ≡ y.0.items = sym e.3 ∙ ap (λ (s : SideEntry ℕ). s.key) same ∙ f.3 in
      distinct i j x.0 y.0 (key_there m.pairs i x one.at) (key_there m.pairs j y other.at) (ap (bytes_eq x.0.items) (sym key) ∙ same_list x.0.items)

  pub counted_more : (place : ℕ) (x : Pair) (count more : ℕ) → slice_get m.pairs place ≡ Some x → CountsBelow m t place count → HoldsSoMany (is_orphaned x.1 t) more → CountsBelow m t (place + 1) (count + more)
  counted_more place x count more at so_far own settled = record {
    found = before.found ++ own.rows;
    once = distinct_append before.found own.rows before.once own.once apart;
    exactly = λ row. ((λ inside. below row ((append_members before.found own.rows row).0 inside)), (λ it. (append_members before.found own.rows row).1 (above row it)));
    as_many =
        let joined = length-append before.found own.rows in
        let one = before.as_many in
        let other = own.as_many in
        omega (arith, joined, one, other);
  }
    where
      before : SoManyBelow m t place count
      before = so_far settled

      parts : (row : ℕ) → is_orphaned x.1 t row ≡ true → OrphanAt m t row place x
      parts row is =
          let both = both_true (has (rows_on x.1 Left) t.xp row) (not (has_some (rows_on x.1 Right) t.yp)) is in
          record { at = at; left = both.0; none = unanswered (has_some (rows_on x.1 Right) t.yp) both.1 }
        where
          unanswered : (b : Bool) → not b ≡ true → b ≡ false
          unanswered true is = absurd (cc)
          unanswered false is = refl

      apart : (row : ℕ) → Contains before.found row → Contains own.rows row → ⊥
      apart row left right =
          let it = (before.exactly row).0 left in
          let same = one_place settled row it.0 place it.2 x it.3 (parts row ((own.exactly row).0 right)) in
          let low = it.1 in
          omega (arith, low, same)

      below : (row : ℕ) → Contains before.found row ⊎ Contains own.rows row → FoundBelow m t (place + 1) row
      below row (inl left) = let it = (before.exactly row).0 left in (it.0, (let low = it.1 in omega (arith, low)), it.2, it.3)
      below row (inr right) = (place, omega arith, x, parts row ((own.exactly row).0 right))

      above : (row : ℕ) → FoundBelow m t (place + 1) row → Contains before.found row ⊎ Contains own.rows row
      above row (i, low, y, it) = elim (cases_lt i place) [
        | inl earlier ↦ inl ((before.exactly row).1 (i, earlier, y, it))
        | inr late ↦
            let here : i ≡ place = omega (arith, low, late) in
            let same : y ≡ x = same_Some y x (sym it.at ∙ ap (slice_get m.pairs) here ∙ at) in
            inr ((own.exactly row).1 (ap (λ (w : Pair). is_orphaned w.1 t row) (sym same) ∙ ap (λ b. b && not (has_some (rows_on y.1 Right) t.yp)) it.left ∙ ap not it.none))
      ]

  module _ (tableau : List (InclusionRow ℕ)) (right : AreMarkedRight tableau m) where
    pub count_of_orphans : (count : ℕ) → Contains tableau t → CountsBelow m t m.marked count → IsOrphanCount (lefts m) (rights m) count t
    count_of_orphans count inside so_far ls rs is_left is_right =
        so.as_many ∙ orphans_as_many t (lefts m) (rights m) so.found so.once
        (λ n. ((λ there. (orphans_below m distinct tableau right t n inside).0 ((so.exactly n).0 there)), (λ is. (so.exactly n).1 ((orphans_below m distinct tableau right t n inside).1 is)))) ls rs is_left is_right
      where
        so : SoManyBelow m t m.marked count
        so = so_far (λ e f one other same. one_a_row (λ (s : SideEntry ℕ). s.row) ls is_left.rising e f ((is_left.members e).0 one) ((is_left.members f).0 other) same)
