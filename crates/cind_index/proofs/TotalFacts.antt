-- The numbers of orphans, row by row of the tableau, and what becomes of them when the rows of a key change.
use Rattle.std.proofs.Common.{◌≡◌, ◌≢◌, ℕ, ◌+◌, ◌<◌, ◌≤◌, ◌⊎◌, Bool, true, false, not, ◌&&◌, ◌||◌, List, [], ◌∷◌, ◌++◌, length, map, filter, get_or, slice_get, Some, refl, sym, ap, ◌∙◌, subst, inl, inr, arith}
use Rattle.std.specs.Prelude.{IsTrue, nat_eq, Contains}
use Rattle.std.specs.Option.{ForSome}
use Rattle.std.specs.List.{list_any}
use Rattle.std.specs.Map.{values_of}
use Rattle.std.specs.Str.{bytes_eq}
use Rattle.std.proofs.lemmas.Bool.Decides.{Decides-eqb}
use Rattle.std.proofs.lemmas.List.{length-map, length-append}
use Rattle.std.proofs.lemmas.List.Filters.{length-filter_both}
use Rattle.std.proofs.lemmas.List.Kept.{AllPairs-filter}
use Rattle.std.proofs.lemmas.Map.Made.{AllPairs-from_IsDistinct, IsDistinct-from_AllPairs}
use Rattle.std.proofs.lemmas.Option.{same_Some, slice_get_within}
use Rattle.marked_map.specs.MarkedMap.{HaveDistinctKeys, IsAbsent}
use Rattle.cfd_semantics.specs.Orphan.{SideEntry, answers, is_orphan}
use Rattle.cfd_semantics.specs.EntrySets.{IsUnanswered}
use Rattle.cfd_semantics.specs.declared.inclusion.InclusionRow.{InclusionRow}
use Rattle.cfd_semantics.proofs.Members.{contains-here, contains-map, contains_from_map}
use Rattle.cfd_semantics.proofs.InclusionLaw.{both_true}
use Rattle.cfd_semantics.proofs.SetFacts.{contains-filter, contains_from_filter, orphan_of_sets}
use Rattle.cind_index.specs.declared.side.Side.{Side}
use Rattle.cind_index.specs.declared.side.Side.TheVariants.{Left, Right}
use Rattle.cind_index.specs.declared.key_rows.KeyRows.TheVariants.{NoRows}
use Rattle.cind_index.specs.declared.totals.Change.TheVariants.{Comes, Goes}
use Rattle.cind_index.specs.declared.totals.Totals.{Totals}
use Rattle.cind_index.specs.declared.key_rows.KeyRows.{KeyRows}
use Rattle.cind_index.specs.declared.totals.Change.{Change}
use Rattle.cind_index.specs.KeysHeld.{Ids, KeyedRows, is_under, held, lefts, rights, HoldTheSame}
use Rattle.cind_index.specs.Orphans.{IsOrphanCount}
use Rattle.cind_index.specs.RowsHeld.{has, has_some, rows_on, is_orphaned, HoldsSoMany}
use Rattle.cind_index.specs.Totals.{AreUnanswered, HaveSoMany, AreTotals, Changes, told, AreZero, IsChanged}
use Rattle.cind_index.proofs.MapFacts.{equal_lists, same_list, flip_lists}
use Rattle.cind_index.proofs.PairFacts.{never, clash, set_here, set_same, push_more, push_last}
use Rattle.cind_index.proofs.RowFacts.{append_members, some_row}
use Rattle.cind_index.proofs.KeyFacts.{same_key, value_there, written, written_distinct, entry_there, pushed, entry_new}
use Rattle.cind_index.proofs.CountFacts.{once_append, once_map, holds_none, same_many}

-- the first numbers are changed by how many orphans their rows have under a key, and the others are what they were
pub record ChangedBelow (change : Change) (tableau : List (InclusionRow ℕ)) (rows : KeyRows) (old new : List ℕ) (n : ℕ) : Type 0 where
  pub long : length new ≡ length old
  pub done : (k : ℕ) (t : InclusionRow ℕ) → k < n → slice_get tableau k ≡ Some t → (orphans : ℕ) × HoldsSoMany (is_orphaned rows t) orphans × IsChanged change (get_or old k 0) orphans (get_or new k 0)
  pub rest : (k : ℕ) → n ≤ k → get_or new k 0 ≡ get_or old k 0

-- ---- unanswered entries

not_true : (b : Bool) → not b ≡ true → b ≡ false
not_true true is = absurd (cc)
not_true false is = refl

-- so many unanswered left entries are as many orphans
pub total_of_orphans : (lefts rights : SideEntry ℕ → Bool) (t : InclusionRow ℕ) (count : ℕ) → HaveSoMany lefts rights t count → IsOrphanCount lefts rights count t
total_of_orphans lefts rights t count so ls rs is_left is_right =
    sym (so (filter (is_orphan nat_eq t rs) ls) (record {
      once = AllPairs-filter (λ e f. e ≢ f) (is_orphan nat_eq t rs) ls (λ i j d before within same.
          let rises = is_left.rising i j d before within in
          let one = ap (λ (e : SideEntry ℕ). e.row) same in
          omega (arith, rises, one));
      exactly = λ e. (
        (λ inside. let both = contains_from_filter (is_orphan nat_eq t rs) ls e inside in ((is_left.members e).1 both.0, (orphan_of_sets nat_eq t lefts rights ls rs is_left is_right e).0 both.1)),
        (λ (there, unanswered). contains-filter (is_orphan nat_eq t rs) ls e ((is_left.members e).0 there) ((orphan_of_sets nat_eq t lefts rights ls rs is_left is_right e).1 unanswered)),
      );
    })) ∙ sym (length-map (filter (is_orphan nat_eq t rs) ls) (λ e. e.row))

-- the left entry is unanswered
abbrev pub IsOrphanIn : KeyedRows → InclusionRow ℕ → SideEntry ℕ → Type 0
IsOrphanIn m t e = IsTrue (lefts m e) × IsUnanswered nat_eq t (rights m) e

-- that depends on the entries with its key alone
same_orphan : (old new : KeyedRows) (t : InclusionRow ℕ) (e : SideEntry ℕ) → ((side : Side) (f : SideEntry ℕ) → e.key ≡ f.key → held new side f ≡ held old side f) → IsOrphanIn old t e → IsOrphanIn new t e
same_orphan old new t e same (there, unanswered) = (
  same Left e refl ∙ there,
  record {
    constants = unanswered.constants;
    alone = λ right held_new. never (answers nat_eq t e right) (λ answer.
        let key = equal_lists e.key right.key (both_true (bytes_eq e.key right.key) (bytes_eq t.yp right.pattern) answer).0 in
        clash (answers nat_eq t e right) answer (unanswered.alone right (sym (same Right right key) ∙ held_new)));
  },
)

-- the entries with the key are the rows of the value
abbrev pub AreUnder : KeyedRows → List ℕ → KeyRows → Type 0
AreUnder m key v = (side : Side) (pattern : List ℕ) (row : ℕ) → held m side (record { key = key; pattern = pattern; row = row }) ≡ has (rows_on v side) pattern row

module _ (m : KeyedRows) (key : List ℕ) (v : KeyRows) (under : AreUnder m key v) (t : InclusionRow ℕ) (row : ℕ) where
  orphan_from : is_orphaned v t row ≡ true → IsOrphanIn m t (record { key = key; pattern = t.xp; row = row })
  orphan_from is =
      let both = both_true (has (rows_on v Left) t.xp row) (not (has_some (rows_on v Right) t.yp)) is in (
        under Left t.xp row ∙ both.0,
        record {
          constants = same_list t.xp;
          alone = λ right there. never (answers nat_eq t (record { key = key; pattern = t.xp; row = row }) right) (λ answer.
              let parts = both_true (bytes_eq key right.key) (bytes_eq t.yp right.pattern) answer in
              let k = equal_lists key right.key parts.0 in
              let p = equal_lists t.yp right.pattern parts.1 in
              let one : record { key = key; pattern = t.yp; row = right.row } ≡ right = λ i. record { key = k i; pattern = p i; row = right.row } in
              clash (has_some (rows_on v Right) t.yp) ((some_row (rows_on v Right) t.yp).1 (right.row, sym (under Right t.yp right.row) ∙ ap (held m Right) one ∙ there)) (not_true (has_some (rows_on v Right) t.yp) both.1));
        },
      )

  orphan_to : IsOrphanIn m t (record { key = key; pattern = t.xp; row = row }) → is_orphaned v t row ≡ true
  orphan_to (there, unanswered) =
      ap (λ b. b && not (has_some (rows_on v Right) t.yp)) (sym (under Left t.xp row) ∙ there)
      ∙ ap not (never (has_some (rows_on v Right) t.yp) (λ some.
      let one = (some_row (rows_on v Right) t.yp).0 some in
      let right : SideEntry ℕ = record { key = key; pattern = t.yp; row = one.0 } in
      clash (answers nat_eq t (record { key = key; pattern = t.xp; row = row }) right) (ap (λ b. b && bytes_eq t.yp t.yp) (same_list key) ∙ same_list t.yp) (unanswered.alone right (under Right t.yp one.0 ∙ one.1))))

-- the rows under a key changed, and nothing else
module _ (old new : KeyedRows) (key : List ℕ) (v w : KeyRows) (before : AreUnder old key v) (after : AreUnder new key w) (beside : (side : Side) (e : SideEntry ℕ) → bytes_eq key e.key ≡ false → held new side e ≡ held old side e) where
  exchanged : (t : InclusionRow ℕ) (n gone come : ℕ) → HoldsSoMany (is_orphaned v t) gone → HoldsSoMany (is_orphaned w t) come → HaveSoMany (lefts old) (rights old) t (n + gone) → HaveSoMany (lefts new) (rights new) t (n + come)
  exchanged t n gone come from to so entries are =
      let joined = length-append others (map own from.rows) in
      let mapped = length-map from.rows own in
      let both = length-filter_both here away (λ e. refl) entries in
      let as_come = same_many (is_orphaned w t) (length own_now) come came to in
      let is = from.as_many in
      let all = so (others ++ map own from.rows) was in
      omega (arith, joined, mapped, both, as_come, is, all)
    where
      own : ℕ → SideEntry ℕ
      own row = record { key = key; pattern = t.xp; row = row }

      here : SideEntry ℕ → Bool
      here e = bytes_eq key e.key

      away : SideEntry ℕ → Bool
      away e = not (bytes_eq key e.key)

      own_now : List (SideEntry ℕ)
      own_now = filter here entries

      others : List (SideEntry ℕ)
      others = filter away entries

      own_is : (m : KeyedRows) (e : SideEntry ℕ) → here e ≡ true → IsOrphanIn m t e → own e.row ≡ e
      own_is m e same is =
          let k = equal_lists key e.key same in
          let p = equal_lists t.xp e.pattern is.1.constants in
          λ i. record { key = k i; pattern = p i; row = e.row }

      is_here : (e : SideEntry ℕ) → Contains own_now e → IsOrphanIn new t e × (own e.row ≡ e)
      is_here e inside =
          let both = contains_from_filter here entries e inside in
          let is = (are.exactly e).0 both.0 in
          (is, own_is new e both.1 is)

      came : HoldsSoMany (is_orphaned w t) (length own_now)
      came = record {
        rows = map (λ (e : SideEntry ℕ). e.row) own_now;
        once = IsDistinct-from_AllPairs Decides-eqb (map (λ (e : SideEntry ℕ). e.row) own_now)
            (once_map (λ (e : SideEntry ℕ). e.row) own_now (λ e f inside also same. sym (is_here e inside).1 ∙ ap own same ∙ (is_here f also).1) (AllPairs-filter (λ e f. e ≢ f) here entries are.once));
        exactly = λ row. (
          (λ inside.
              let e = contains_from_map (λ (e : SideEntry ℕ). e.row) own_now row inside in
              let is = is_here e.0 e.1 in
              subst (λ r. is_orphaned w t r ≡ true) e.2 (orphan_to new key w after t e.0.row (subst (IsOrphanIn new t) (sym is.1) is.0))),
          (λ is. contains-map (λ (e : SideEntry ℕ). e.row) own_now (own row) (contains-filter here entries (own row) ((are.exactly (own row)).1 (orphan_from new key w after t row is)) (same_list key))),
        );
        as_many = length-map own_now (λ (e : SideEntry ℕ). e.row);
      }

      is_away : (e : SideEntry ℕ) → Contains others e → Contains entries e × (here e ≡ false)
      is_away e inside = let both = contains_from_filter away entries e inside in (both.0, not_true (here e) both.1)

      elsewhere : (e f : SideEntry ℕ) → here e ≡ false → e.key ≡ f.key → (side : Side) → held new side f ≡ held old side f
      elsewhere e f other same side = beside side f (ap (bytes_eq key) (sym same) ∙ other)

      apart : (e : SideEntry ℕ) → Contains others e → Contains (map own from.rows) e → ⊥
      apart e left right = let it = contains_from_map own from.rows e right in clash (here e) (ap here (sym it.2) ∙ same_list key) (is_away e left).1

      kept : (e : SideEntry ℕ) → Contains others e → IsOrphanIn old t e
      kept e inside = let it = is_away e inside in same_orphan new old t e (λ side f same. sym (elsewhere e f it.1 same side)) ((are.exactly e).0 it.0)

      went : (e : SideEntry ℕ) → Contains (map own from.rows) e → IsOrphanIn old t e
      went e inside = let it = contains_from_map own from.rows e inside in subst (IsOrphanIn old t) it.2 (orphan_from old key v before t it.0 ((from.exactly it.0).0 it.1))

      found : (e : SideEntry ℕ) → IsOrphanIn old t e → (b : Bool) → here e ≡ b → Contains others e ⊎ Contains (map own from.rows) e
      found e is true same =
          let one = own_is old e same is in
          inr (subst (Contains (map own from.rows)) one (contains-map own from.rows e.row ((from.exactly e.row).1 (orphan_to old key v before t e.row (subst (IsOrphanIn old t) (sym one) is)))))
      found e is false other = inl (contains-filter away entries e ((are.exactly e).1 (same_orphan old new t e (λ side f same. elsewhere e f other same side) is)) (ap not other))

      was : AreUnanswered (lefts old) (rights old) t (others ++ map own from.rows)
      was = record {
        once = once_append others (map own from.rows) (AllPairs-filter (λ e f. e ≢ f) away entries are.once)
            (once_map own from.rows (λ x z inside also same. ap (λ (e : SideEntry ℕ). e.row) same) (AllPairs-from_IsDistinct Decides-eqb from.rows from.once)) apart;
        exactly = λ e. (
          (λ inside. elim ((append_members others (map own from.rows) e).0 inside) [ inl left ↦ kept e left | inr right ↦ went e right ]),
          (λ is. (append_members others (map own from.rows) e).1 (found e is (here e) refl)),
        );
      }

  -- what was taken away of the totals came in again
  pub totals_exchanged : (tableau : List (InclusionRow ℕ)) (first mid last : Totals) → AreTotals tableau old first
      → Changes Goes tableau v first mid → Changes Comes tableau w mid last → AreTotals tableau new last
  totals_exchanged tableau first mid last are goes comes counts is =
      let second = comes counts is in
      let one = goes second.0 second.1 in
      let start = are one.0 one.1 in
      record {
        long = second.2.long ∙ one.2.long ∙ start.long;
        each = λ k t at.
            let gone = one.2.each k t at in
            let come = second.2.each k t at in
            subst (HaveSoMany (lefts new) (rights new) t) (sym come.2) (exchanged t (get_or second.0 k 0) gone.0 come.0 gone.1 come.1 (subst (HaveSoMany (lefts old) (rights old) t) (sym gone.2) (start.each k t at)));
      }

  -- nothing was there before
  pub totals_entered : v ≡ NoRows → (tableau : List (InclusionRow ℕ)) (first last : Totals) → AreTotals tableau old first → Changes Comes tableau w first last → AreTotals tableau new last
  totals_entered none tableau first last are comes counts is =
      let second = comes counts is in
      let start = are second.0 second.1 in
      record {
        long = second.2.long ∙ start.long;
        each = λ k t at.
            let come = second.2.each k t at in
            subst (HaveSoMany (lefts new) (rights new) t) (sym come.2) (exchanged t (get_or second.0 k 0) 0 come.0 (holds_none (is_orphaned v t) 0 (λ row. ap (λ r. is_orphaned r t row) none) refl) come.1
            (subst (HaveSoMany (lefts old) (rights old) t) (omega arith) (start.each k t at)));
      }

-- the same entries have the same totals
pub totals_same : (tableau : List (InclusionRow ℕ)) (old new : KeyedRows) (totals : Totals) → HoldTheSame old new → AreTotals tableau old totals → AreTotals tableau new totals
totals_same tableau old new totals same are counts is =
    let was = are counts is in
    record {
      long = was.long;
      each = λ k t at entries are. was.each k t at entries (record {
        once = are.once;
        exactly = λ e. ((λ inside. same_orphan new old t e (λ side f one. sym (same side f)) ((are.exactly e).0 inside)), (λ it. (are.exactly e).1 (same_orphan old new t e (λ side f one. same side f) it)));
      });
    }

-- ---- in the map

-- a key has other rows; what stood there was counted out, and what stands there in
pub totals_written : (tableau : List (InclusionRow ℕ)) (m : KeyedRows) (place : ℕ) (k : Ids) (v w : KeyRows) (at : slice_get m.pairs place ≡ Some (k, v)) (side : Side) (first mid last : Totals) (x y : KeyRows) → HaveDistinctKeys same_key m → AreTotals tableau m first
    → slice_get (values_of m.pairs) place ≡ Some x → Changes Goes tableau x first mid
    → slice_get (values_of (written m place k v w at side).pairs) place ≡ Some y → Changes Comes tableau y mid last → AreTotals tableau (written m place k v w at side) last
totals_written tableau m place k v w at side first mid last x y distinct are stood goes stands comes =
    totals_exchanged m new k.items v w (λ s pattern row. entry_there m place k v w at s k.items pattern row distinct refl)
    (λ s pattern row. entry_there new place k w w (set_here m.pairs place k v w at) s k.items pattern row (written_distinct m place k v w at side distinct) refl)
    (λ s e other. set_same (is_under s e) m.pairs place k v w at (no_key s e w other ∙ sym (no_key s e v other))) tableau first mid last are
    (subst (λ rows. Changes Goes tableau rows first mid) (same_Some x v (sym stood ∙ value_there m.pairs place (k, v) at)) goes)
    (subst (λ rows. Changes Comes tableau rows mid last) (same_Some y w (sym stands ∙ value_there new.pairs place (k, w) (set_here m.pairs place k v w at))) comes)
  where
    new : KeyedRows
    new = written m place k v w at side

    no_key : (s : Side) (e : SideEntry ℕ) (rows : KeyRows) → bytes_eq k.items e.key ≡ false → is_under s e (k, rows) ≡ false
    no_key s e rows other = ap (λ b. b && has (rows_on rows s) e.pattern e.row) (flip_lists e.key k.items ∙ other)

-- a key came in, and was counted in
pub totals_pushed : (tableau : List (InclusionRow ℕ)) (m new : KeyedRows) (place : ℕ) (k : Ids) (fresh : KeyRows) (first last : Totals) (x : KeyRows) → IsAbsent same_key m k → place ≡ length m.pairs → new ≡ pushed m k fresh Left → AreTotals tableau m first
    → slice_get (values_of new.pairs) place ≡ Some x → Changes Comes tableau x first last → AreTotals tableau new last
totals_pushed tableau m new place k fresh first last x absent end is are stands comes =
    subst (λ n. AreTotals tableau n last) (sym is) (totals_entered m (pushed m k fresh Left) k.items NoRows fresh (λ s pattern row. no_entry s pattern row ∙ sym (nothing s pattern row))
    (λ s pattern row. push_more (is_under s (record { key = k.items; pattern = pattern; row = row })) m.pairs (k, fresh)
    ∙ ap (λ b. b || (bytes_eq k.items k.items && has (rows_on fresh s) pattern row)) (no_entry s pattern row) ∙ ap (λ b. b && has (rows_on fresh s) pattern row) (same_list k.items))
    (λ s e other. push_more (is_under s e) m.pairs (k, fresh) ∙ ap (λ b. held m s e || (b && has (rows_on fresh s) e.pattern e.row)) (flip_lists e.key k.items ∙ other) ∙ or_false (held m s e))
    refl tableau first last are
    (subst (λ rows. Changes Comes tableau rows first last)
    (same_Some x fresh (sym stands ∙ ap (λ (n : KeyedRows). slice_get (values_of n.pairs) place) is ∙ ap (slice_get (values_of (pushed m k fresh Left).pairs)) end
    ∙ value_there (pushed m k fresh Left).pairs (length m.pairs) (k, fresh) (push_last m.pairs (k, fresh)))) comes))
  where
    no_entry : (s : Side) (pattern : List ℕ) (row : ℕ) → held m s (record { key = k.items; pattern = pattern; row = row }) ≡ false
    no_entry s pattern row = entry_new m k fresh s pattern row absent

    nothing : (s : Side) (pattern : List ℕ) (row : ℕ) → has (rows_on NoRows s) pattern row ≡ false
    nothing Left pattern row = refl
    nothing Right pattern row = refl

    or_false : (b : Bool) → (b || false) ≡ b
    or_false true = refl
    or_false false = refl

-- zeros are the totals of no keys
pub totals_none : (tableau : List (InclusionRow ℕ)) (keys : KeyedRows) (totals : Totals) → keys.pairs ≡ [] → ForSome (told totals) (AreZero (length tableau)) → AreTotals tableau keys totals
totals_none tableau keys totals empty zeros counts is =
    let zero = zeros counts is in
    record {
      long = zero.long;
      each = λ k t at entries are. nothing entries are ∙ sym (zero.each k (slice_get_within tableau k t at));
    }
  where
    nothing : {t : InclusionRow ℕ} (entries : List (SideEntry ℕ)) → AreUnanswered (lefts keys) (rights keys) t entries → length entries ≡ 0
    nothing [] are = refl
    nothing (e ∷ es) are = absurd (clash (lefts keys e) ((are.exactly e).0 (contains-here e es)).0 (ap (list_any (is_under Left e)) empty))
