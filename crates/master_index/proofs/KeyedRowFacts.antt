-- What a change of one key makes of the rows under each key.
use Rattle.std.proofs.Common.{◌≡◌, ◌≢◌, ℕ, zero, suc, ◌+◌, ◌-◌, ◌<◌, ◌≤◌, Bool, true, false, cond, List, [], ◌∷◌, ◌++◌, length, get_or, set, Option, Some, None, Result, Ok, Err, refl, sym, ap, subst, ◌∙◌, true≢false, arith, OnOk, OnErr, IfSome, IfNone, slice_get, nat_lt}
use borrow.Author.Tests.{ltb-true}
use Rattle.std.specs.Prelude.{◌==◌, ◌||◌, ◌&&◌, not, All, IsSome, IsSomeAnd, swap_remove}
use Rattle.std.specs.Cmp.{IsEquivalence}
use Rattle.std.specs.FinMap as finite
use Rattle.std.specs.List.{position_or_len, position, IsDistinct, AllByRecursion}
use Rattle.std.specs.List.Sorted.{IsStrictlyIncreasing}
use Rattle.std.specs.Map.{lookup, keys_of, values_of, KeepsOthers}
use Rattle.std.specs.Option.{option_map_or}
use Rattle.std.specs.Str.{bytes_eq}
use Rattle.std.proofs.lemmas.Bool.Decides.{nat_tests}
use Rattle.std.proofs.lemmas.Cmp.{nat_list_eq_equiv, on_equiv}
use Rattle.std.proofs.lemmas.List.Elements.{All-set, All-take, All-push, All-get_or, All-cons, All-head, All-tail}
use Rattle.std.proofs.lemmas.Option.{none-some, same_Some, cond_some}
use Rattle.std.proofs.lemmas.Slice.Eq.{bytes_eq-Decides}
use Rattle.indexmap.specs.IndexMap.{IndexMap, set_value_at, IsUnique, Updates}
use Rattle.indexmap.proofs.CallerLemmas.{updates-with_value_at}
use Rattle.smallvec.specs.SmallVec.{SmallVec}
use Rattle.master_index.specs.declared.rising.RowIds.{RowIds}
use Rattle.master_index.specs.declared.rising.RowIds.TheVariants.{One}
use Rattle.master_index.specs.declared.column_set.ColumnSet.{ColumnSet}
use Rattle.master_index.specs.ColumnSets.{has_column}
use Rattle.master_index.specs.Masters.{MasterRows}
use Rattle.master_index.specs.ColumnRows.{KeyedRows, listed, noted, rows_under, is_among, is_noted, is_under, AreOrderly, IsPutUnder, IsTakenFrom, HoldAlike, HasKeyAt, IsComparedIn, NotesAlike, NotesStay}

-- the keys' own `==`
abbrev pub same_key : SmallVec ℕ → SmallVec ℕ → Bool
same_key x y = bytes_eq x.items y.items

same_key_laws : IsEquivalence same_key
same_key_laws = on_equiv (λ (key : SmallVec ℕ). key.items) nat_list_eq_equiv

abbrev rows_of : Option RowIds → List ℕ
rows_of found = option_map_or listed found []

equal_lists : (xs ys : List ℕ) → bytes_eq xs ys ≡ true → xs ≡ ys
equal_lists xs ys e = (bytes_eq-Decides xs ys).0 e

same_list : (xs : List ℕ) → bytes_eq xs xs ≡ true
same_list xs = (bytes_eq-Decides xs xs).1 refl

-- What is read of the rows under each key, once one key has other rows: their ids are read, and their notes.
module _ {X : Type 0} (read : RowIds → X) (none : X) where
  abbrev read_of : Option RowIds → X
  read_of found = option_map_or read found none

  abbrev pub read_under : List ℕ → KeyedRows → X
  read_under ids entries = read_of (lookup (λ key. bytes_eq ids key.items) entries)

  updated : (old new : KeyedRows) (key : SmallVec ℕ) (w : Option RowIds) → lookup (same_key key) new ≡ w → KeepsOthers same_key (same_key key) old new
      → (ids : List ℕ) → read_under ids new ≡ cond (bytes_eq ids key.items) (read_of w) (read_under ids old)
  unfolding KeepsOthers
  updated old new key w at others ids = by (bytes_eq ids key.items) refl
    where
      by : (b : Bool) → bytes_eq ids key.items ≡ b → read_under ids new ≡ cond b (read_of w) (read_under ids old)
      by true e = ap (λ xs. read_under xs new) (equal_lists ids key.items e) ∙ ap read_of at
      by false e = ap read_of (others (λ other. bytes_eq ids other.items)
          (λ x y is. ap (λ xs. bytes_eq xs y.items) (equal_lists ids x.items is))
          (λ other is. ap (bytes_eq ids) (sym (equal_lists key.items other.items is)) ∙ e))

-- an entry that comes in last
lookup_passing : (test : SmallVec ℕ → Bool) (es : KeyedRows) (key : SmallVec ℕ) (rows : RowIds) → lookup test es ≡ None → test key ≡ true → lookup test (es ++ (key, rows) ∷ []) ≡ Some rows
lookup_passing test [] key rows none is = ap (λ b. cond b (Some rows) None) is
lookup_passing test (e ∷ es) key rows none is = by (test e.0) refl (lookup_passing test es key rows)
  where
    by : (b : Bool) → test e.0 ≡ b → (lookup test es ≡ None → test key ≡ true → lookup test (es ++ (key, rows) ∷ []) ≡ Some rows)
        → cond (test e.0) (Some e.1) (lookup test (es ++ (key, rows) ∷ [])) ≡ Some rows
    by true h rest = absurd (none-some e.1 (sym none ∙ ap (λ b. cond b (Some e.1) (lookup test es)) h))
    by false h rest = ap (λ b. cond b (Some e.1) (lookup test (es ++ (key, rows) ∷ []))) h ∙ rest (sym (ap (λ b. cond b (Some e.1) (lookup test es)) h) ∙ none) is

lookup_failing : (test : SmallVec ℕ → Bool) (es : KeyedRows) (key : SmallVec ℕ) (rows : RowIds) → test key ≡ false → lookup test (es ++ (key, rows) ∷ []) ≡ lookup test es
lookup_failing test [] key rows isnt = ap (λ b. cond b (Some rows) None) isnt
lookup_failing test (e ∷ es) key rows isnt = ap (cond (test e.0) (Some e.1)) (lookup_failing test es key rows isnt)

pushed_under : {X : Type 0} (read : RowIds → X) (nothing : X) (es : KeyedRows) (key : SmallVec ℕ) (rows : RowIds) → lookup (same_key key) es ≡ None
    → (ids : List ℕ) → read_under read nothing ids (es ++ (key, rows) ∷ []) ≡ cond (bytes_eq ids key.items) (read rows) (read_under read nothing ids es)
pushed_under read nothing es key rows none ids = by (bytes_eq ids key.items) refl
  where
    by : (b : Bool) → bytes_eq ids key.items ≡ b → read_under read nothing ids (es ++ (key, rows) ∷ []) ≡ cond b (read rows) (read_under read nothing ids es)
    by true e = ap (λ xs. read_under read nothing xs (es ++ (key, rows) ∷ [])) (equal_lists ids key.items e) ∙ ap (read_of read nothing) (lookup_passing (same_key key) es key rows none (same_list key.items))
    by false e = ap (read_of read nothing) (lookup_failing (λ other. bytes_eq ids other.items) es key rows e)

-- ---- where a key stands
pub record StandsAt (es : KeyedRows) (test : SmallVec ℕ → Bool) (place : ℕ) : Type 0 where
  pub key : SmallVec ℕ
  pub rows : RowIds
  pub at : slice_get es place ≡ Some (key, rows)
  pub passes : test key ≡ true
  pub found : lookup test es ≡ Some rows

stands_later : (e : SmallVec ℕ × RowIds) (es : KeyedRows) (test : SmallVec ℕ → Bool) (place : ℕ) → test e.0 ≡ false → StandsAt es test place → StandsAt (e ∷ es) test (suc place)
stands_later e es test place isnt it = record {
  key = it.key;
  rows = it.rows;
  at = it.at;
  passes = it.passes;
  found = ap (λ b. cond b (Some e.1) (lookup test es)) isnt ∙ it.found;
}

pub stands_at : (es : KeyedRows) (test : SmallVec ℕ → Bool) (place : ℕ) → place ≡ position_or_len test (keys_of es) → place < length es → StandsAt es test place
stands_at [] test place is within = absurd (omega arith)
stands_at (e ∷ es) test place is within = by (test e.0) refl (stands_at es test)
  where
    by : (b : Bool) → test e.0 ≡ b → ((p : ℕ) → p ≡ position_or_len test (keys_of es) → p < length es → StandsAt es test p) → StandsAt (e ∷ es) test place
    by true h rest =
        let first : place ≡ 0 = is ∙ ap (λ b. cond (not b) (1 + position_or_len test (keys_of es)) 0) h in
        subst (StandsAt (e ∷ es) test) (sym first) (record { key = e.0; rows = e.1; at = refl; passes = h; found = ap (λ b. cond b (Some e.1) (lookup test es)) h })
    by false h rest =
        let later : place ≡ 1 + position_or_len test (keys_of es) = is ∙ ap (λ b. cond (not b) (1 + position_or_len test (keys_of es)) 0) h in
        let next : place ≡ suc (position_or_len test (keys_of es)) = omega arith in
        subst (StandsAt (e ∷ es) test) (sym next) (stands_later e es test _ h (rest (position_or_len test (keys_of es)) refl (omega arith)))

position_within : (es : KeyedRows) (test : SmallVec ℕ → Bool) (rows : RowIds) → lookup test es ≡ Some rows → position_or_len test (keys_of es) < length es
position_within [] test rows there = absurd (none-some rows there)
position_within (e ∷ es) test rows there = by (test e.0) refl (position_within es test rows)
  where
    by : (b : Bool) → test e.0 ≡ b → (lookup test es ≡ Some rows → position_or_len test (keys_of es) < length es)
        → cond (not (test e.0)) (1 + position_or_len test (keys_of es)) 0 < suc (length es)
    by true h rest = subst (λ t. cond (not t) (1 + position_or_len test (keys_of es)) 0 < suc (length es)) (sym h) (omega arith)
    by false h rest =
        let tail = rest (sym (ap (λ b. cond b (Some e.1) (lookup test es)) h) ∙ there) in
        subst (λ t. cond (not t) (1 + position_or_len test (keys_of es)) 0 < suc (length es)) (sym h) (omega (arith, tail))

-- a key that a new entry brings in stands last
stands_last : (es : KeyedRows) (key : SmallVec ℕ) (rows : RowIds) → lookup (same_key key) es ≡ None → position_or_len (same_key key) (keys_of es) ≡ length es
stands_last [] key rows none = refl
stands_last (e ∷ es) key rows none = by (same_key key e.0) refl (stands_last es key rows)
  where
    by : (b : Bool) → same_key key e.0 ≡ b → (lookup (same_key key) es ≡ None → position_or_len (same_key key) (keys_of es) ≡ length es)
        → cond (not (same_key key e.0)) (1 + position_or_len (same_key key) (keys_of es)) 0 ≡ suc (length es)
    by true h rest = absurd (none-some e.1 (sym none ∙ ap (λ b. cond b (Some e.1) (lookup (same_key key) es)) h))
    by false h rest =
        let tail = rest (sym (ap (λ b. cond b (Some e.1) (lookup (same_key key) es)) h) ∙ none) in
        ap (λ b. cond (not b) (1 + position_or_len (same_key key) (keys_of es)) 0) h ∙ omega (arith, tail)

last_entry : (es : KeyedRows) (entry : SmallVec ℕ × RowIds) → slice_get (es ++ entry ∷ []) (length es) ≡ Some entry
last_entry [] entry = refl
last_entry (e ∷ es) entry = last_entry es entry

one_longer : (es : KeyedRows) (entry : SmallVec ℕ × RowIds) → length es < length (es ++ entry ∷ [])
one_longer [] entry = omega arith
one_longer (e ∷ es) entry = let tail = one_longer es entry in omega (arith, tail)

-- the key stands at the place, and nothing but its row may have come in
pub record IsEntered (old mid : KeyedRows) (key : List ℕ) (row place : ℕ) : Type 0 where
  pub stored : SmallVec ℕ
  pub rows : RowIds
  pub at : slice_get mid place ≡ Some (stored, rows)
  pub within : place < length mid
  pub is_key : stored.items ≡ key
  pub found : lookup (λ stored. bytes_eq key stored.items) mid ≡ Some rows
  -- the rows under it have the row, or nothing came in
  pub new_or_old : (is_among row (listed rows) ≡ false → mid ≡ old)
  -- nothing is noted of it, and nothing came in beside rows that the key had
  pub notes : (ids : List ℕ) (column : ℕ) → is_noted ids column mid ≡ is_noted ids column old
  pub beside : (other : ℕ) → is_under key other old ≡ true → mid ≡ old
  pub held : (ids : List ℕ) (other : ℕ) → ((bytes_eq ids key && other == row) || is_under ids other mid) ≡ ((bytes_eq ids key && other == row) || is_under ids other old)
  pub kept : AreOrderly mid

rising_one : (row : ℕ) → IsStrictlyIncreasing (row ∷ [])
rising_one row k within = absurd (omega arith)

among_one : (row : ℕ) → is_among row (row ∷ []) ≡ true
among_one row = grind (arith, nat_tests)

pub entered : (old mid : KeyedRows) (key : SmallVec ℕ) (row place : ℕ) → AreOrderly old
    → place ≡ position_or_len (same_key key) (keys_of old)
    → (IsSome (lookup (same_key key) old) → mid ≡ old) → (lookup (same_key key) old ≡ None → mid ≡ old ++ (key, One row) ∷ [])
    → IsEntered old mid key.items row place
entered old mid key row place kept index found pushed = by (lookup (same_key key) old) refl
  where
    alone : RowIds
    alone = One row

    by : (o : Option RowIds) → lookup (same_key key) old ≡ o → IsEntered old mid key.items row place
    by None none =
        let last = index ∙ stands_last old key alone none in
        let is = pushed none in
        let under : rows_under key.items old ≡ [] = ap rows_of none in
        subst (λ m. IsEntered old m key.items row place) (sym is) (record {
          stored = key;
          rows = alone;
          at = ap (slice_get (old ++ (key, alone) ∷ [])) last ∙ last_entry old (key, alone);
          within = omega (arith, last, one_longer old (key, alone));
          is_key = refl;
          found = lookup_passing (same_key key) old key alone none (same_list key.items);
          new_or_old = λ isnt. absurd (true≢false (sym (among_one row) ∙ isnt));
          notes = λ ids column. pushed_under (λ rows. noted rows column) false old key alone none ids ∙ none_noted ids column (bytes_eq ids key.items) refl none;
          beside = λ other is. absurd (true≢false (sym is ∙ ap (is_among other) under));
          held = λ ids other. came_in ids other (bytes_eq ids key.items) refl (pushed_under listed [] old key alone none ids) under;
          kept = record {
            rising = All-push (λ (entry : SmallVec ℕ × RowIds). IsStrictlyIncreasing (listed entry.1)) old (key, alone) kept.rising (rising_one row);
            filled = All-push (λ (entry : SmallVec ℕ × RowIds). 0 < length (listed entry.1)) old (key, alone) kept.filled (omega arith);
          };
        })
      where
        none_noted : (ids : List ℕ) (column : ℕ) (b : Bool) → bytes_eq ids key.items ≡ b → lookup (same_key key) old ≡ None → cond (bytes_eq ids key.items) false (is_noted ids column old) ≡ is_noted ids column old
        none_noted ids column true e none_there =
            ap (λ b. cond b false (is_noted ids column old)) e
            ∙ sym (ap (λ xs. is_noted xs column old) (equal_lists ids key.items e) ∙ ap (read_of (λ rows. noted rows column) false) none_there)
        none_noted ids column false e none_there = ap (λ b. cond b false (is_noted ids column old)) e

        came_in : (ids : List ℕ) (other : ℕ) (b : Bool) → bytes_eq ids key.items ≡ b
            → rows_under ids (old ++ (key, alone) ∷ []) ≡ cond (bytes_eq ids key.items) (listed alone) (rows_under ids old) → rows_under key.items old ≡ []
            → ((bytes_eq ids key.items && other == row) || is_under ids other (old ++ (key, alone) ∷ [])) ≡ ((bytes_eq ids key.items && other == row) || is_under ids other old)
        came_in ids other true e rows_are none_there =
            let ids_are = equal_lists ids key.items e in
            let now : rows_under ids (old ++ (key, alone) ∷ []) ≡ row ∷ [] = rows_are ∙ ap (λ b. cond b (listed alone) (rows_under ids old)) e in
            let before : rows_under ids old ≡ [] = ap (λ xs. rows_under xs old) ids_are ∙ none_there in
            let now_among = ap (is_among other) now in
            let before_among = ap (is_among other) before in
            grind (arith, nat_tests, e, now_among, before_among)
        came_in ids other false e rows_are none_there =
            let now : rows_under ids (old ++ (key, alone) ∷ []) ≡ rows_under ids old = rows_are ∙ ap (λ b. cond b (listed alone) (rows_under ids old)) e in
            ap (λ rows. (bytes_eq ids key.items && other == row) || is_among other rows) now
    by (Some rows) some =
        let is = found (rw some refl) in
        let at = stands_at old (same_key key) place index (within_some old (same_key key) rows some index) in
        subst (λ m. IsEntered old m key.items row place) (sym is) (record {
          stored = at.key;
          rows = at.rows;
          at = at.at;
          within = within_some old (same_key key) rows some index;
          is_key = sym (equal_lists key.items at.key.items at.passes);
          found = at.found;
          new_or_old = λ _. refl;
          notes = λ ids column. refl;
          beside = λ other is. refl;
          held = λ ids other. refl;
          kept = kept;
        })
      where
        within_some : (es : KeyedRows) (test : SmallVec ℕ → Bool) (rows : RowIds) → lookup test es ≡ Some rows → place ≡ position_or_len test (keys_of es) → place < length es
        within_some es test rows there is = rw is (position_within es test rows there)

-- ---- other rows for the key at a place
module _ {S : Type 0} (m : IndexMap (SmallVec ℕ) RowIds S) (unique : IsUnique same_key m) (place : ℕ) (key : SmallVec ℕ) (rows new : RowIds) (at : slice_get m.entries place ≡ Some (key, rows)) where
  module _ {X : Type 0} (read : RowIds → X) (nothing : X) where
    written_under : (ids : List ℕ) → read_under read nothing ids (set_value_at m.entries place new) ≡ cond (bytes_eq ids key.items) (read new) (read_under read nothing ids m.entries)
    written_under ids =
        let updates = updates-with_value_at m place new same_key_laws unique key rows at in
        updated read nothing m.entries (set_value_at m.entries place new) key (Some new) updates.1 updates.3 ids

  rows_written : (ids : List ℕ) → rows_under ids (set_value_at m.entries place new) ≡ cond (bytes_eq ids key.items) (listed new) (rows_under ids m.entries)
  rows_written = written_under listed []

  notes_written : (ids : List ℕ) (column : ℕ) → is_noted ids column (set_value_at m.entries place new) ≡ cond (bytes_eq ids key.items) (noted new column) (is_noted ids column m.entries)
  notes_written ids column = written_under (λ held. noted held column) false ids

all_written : (P : RowIds → Type 0) (es : KeyedRows) (place : ℕ) (new : RowIds) → P new → All (λ (entry : SmallVec ℕ × RowIds). P entry.1) es → All (λ (entry : SmallVec ℕ × RowIds). P entry.1) (set_value_at es place new)
all_written P [] place new here all = all
all_written P (e ∷ es) zero new here all = All-cons (λ (entry : SmallVec ℕ × RowIds). P entry.1) (e.0, new) es here (All-tail (λ (entry : SmallVec ℕ × RowIds). P entry.1) e es all)
all_written P (e ∷ es) (suc place) new here all =
    All-cons (λ (entry : SmallVec ℕ × RowIds). P entry.1) e (set_value_at es place new) (All-head (λ (entry : SmallVec ℕ × RowIds). P entry.1) e es all)
    (all_written P es place new here (All-tail (λ (entry : SmallVec ℕ × RowIds). P entry.1) e es all))

pub kept_written : (es : KeyedRows) (place : ℕ) (new : RowIds) → AreOrderly es → IsStrictlyIncreasing (listed new) → 0 < length (listed new) → AreOrderly (set_value_at es place new)
kept_written es place new kept rising filled = record {
  rising = all_written (λ rows. IsStrictlyIncreasing (listed rows)) es place new rising kept.rising;
  filled = all_written (λ rows. 0 < length (listed rows)) es place new filled kept.filled;
}

value_at_place : (es : KeyedRows) (place : ℕ) (key : SmallVec ℕ) (rows lent : RowIds) → slice_get es place ≡ Some (key, rows) → slice_get (values_of es) place ≡ Some lent → lent ≡ rows
value_at_place [] place key rows lent at value = absurd (none-some (key, rows) at)
value_at_place (e ∷ es) zero key rows lent at value = sym (same_Some e.1 lent value) ∙ ap (λ entry. entry.1) (same_Some e (key, rows) at)
value_at_place (e ∷ es) (suc place) key rows lent at value = value_at_place es place key rows lent at value

pub value_twice : (es : KeyedRows) (place : ℕ) (one other : RowIds) → slice_get (values_of es) place ≡ Some one → slice_get (values_of es) place ≡ Some other → one ≡ other
value_twice es place one other is also = same_Some one other (sym is ∙ also)

kept_at : (es : KeyedRows) (place : ℕ) (lent : RowIds) → AreOrderly es → slice_get (values_of es) place ≡ Some lent → IsStrictlyIncreasing (listed lent) × (0 < length (listed lent))
kept_at [] place lent kept value = absurd (none-some lent value)
kept_at (e ∷ es) zero lent kept value =
    let same : e.1 ≡ lent = same_Some e.1 lent value in
    subst (λ (rows : RowIds). IsStrictlyIncreasing (listed rows) × (0 < length (listed rows))) same
    (All-head (λ (entry : SmallVec ℕ × RowIds). IsStrictlyIncreasing (listed entry.1)) e es kept.rising, All-head (λ (entry : SmallVec ℕ × RowIds). 0 < length (listed entry.1)) e es kept.filled)
kept_at (e ∷ es) (suc place) lent kept value = kept_at es place lent (record {
  rising = All-tail (λ (entry : SmallVec ℕ × RowIds). IsStrictlyIncreasing (listed entry.1)) e es kept.rising;
  filled = All-tail (λ (entry : SmallVec ℕ × RowIds). 0 < length (listed entry.1)) e es kept.filled;
}) value

-- the rows that are lent at a place of a kept map rise
pub lent_rises : (es : KeyedRows) (place : ℕ) (lent : RowIds) → AreOrderly es → slice_get (values_of es) place ≡ Some lent → IsStrictlyIncreasing (listed lent)
lent_rises es place lent kept value = (kept_at es place lent kept value).0

pub lent_has_rows : (es : KeyedRows) (place : ℕ) (lent : RowIds) → AreOrderly es → slice_get (values_of es) place ≡ Some lent → 0 < length (listed lent)
lent_has_rows es place lent kept value = (kept_at es place lent kept value).1

-- ---- a row that comes in
module _ {S : Type 0} (old : KeyedRows) (m : IndexMap (SmallVec ℕ) RowIds S) (unique : IsUnique same_key m) (key : List ℕ) (row place : ℕ) (lent new : RowIds)
    (it : IsEntered old m.entries key row place) (value : slice_get (values_of m.entries) place ≡ Some lent) where
  same_rows : lent ≡ it.rows
  same_rows = value_at_place m.entries place it.stored it.rows lent it.at value

  lent_under : (listed lent) ≡ rows_under key m.entries
  lent_under = ap listed same_rows ∙ sym (ap rows_of it.found)

  now_under : (ids : List ℕ) → rows_under ids (set_value_at m.entries place new) ≡ cond (bytes_eq ids key) (listed new) (rows_under ids m.entries)
  now_under ids = rows_written m unique place it.stored it.rows new it.at ids ∙ ap (λ xs. cond (bytes_eq ids xs) (listed new) (rows_under ids m.entries)) it.is_key

  pub put_under : ((other : ℕ) → is_among other (listed new) ≡ (other == row || is_among other (listed lent))) → IsPutUnder old (set_value_at m.entries place new) key row
  put_under put ids other = by (bytes_eq ids key) refl
    where
      by : (b : Bool) → bytes_eq ids key ≡ b → is_under ids other (set_value_at m.entries place new) ≡ ((bytes_eq ids key && other == row) || is_under ids other old)
      by true e =
          let now = ap (is_among other) (now_under ids ∙ ap (λ b. cond b (listed new) (rows_under ids m.entries)) e) ∙ put other in
          let before = ap (is_among other) (lent_under ∙ ap (λ xs. rows_under xs m.entries) (sym (equal_lists ids key e))) in
          grind (arith, e, now, before, it.held ids other)
      by false e =
          let now = ap (is_among other) (now_under ids ∙ ap (λ b. cond b (listed new) (rows_under ids m.entries)) e) in
          grind (arith, e, now, it.held ids other)

  pub alike_after_err : (listed new) ≡ (listed lent) → is_among row (listed lent) ≡ false → HoldAlike old (set_value_at m.entries place new)
  alike_after_err same isnt ids other = by (bytes_eq ids key) refl ∙ ap (is_under ids other) (it.new_or_old (sym (ap (is_among row) (ap listed (value_at_place m.entries place it.stored it.rows lent it.at value))) ∙ isnt))
    where
      by : (b : Bool) → bytes_eq ids key ≡ b → is_under ids other (set_value_at m.entries place new) ≡ is_under ids other m.entries
      by true e = ap (is_among other) (now_under ids ∙ ap (λ b. cond b (listed new) (rows_under ids m.entries)) e ∙ same ∙ lent_under ∙ ap (λ xs. rows_under xs m.entries) (sym (equal_lists ids key e)))
      by false e = ap (is_among other) (now_under ids ∙ ap (λ b. cond b (listed new) (rows_under ids m.entries)) e)

  pub put_answer : {A E : Type 0} (answer : Result A E) → OnOk answer ((other : ℕ) → is_among other (listed new) ≡ (other == row || is_among other (listed lent)))
      → OnOk answer (IsPutUnder old (set_value_at m.entries place new) key row)
  put_answer (Ok _) put = put_under put
  put_answer (Err _) put = tt

  pub err_answer : {A E : Type 0} (answer : Result A E) → OnErr answer ((listed new) ≡ (listed lent)) → OnErr answer (is_among row (listed lent) ≡ false)
      → OnErr answer (HoldAlike old (set_value_at m.entries place new))
  err_answer (Ok _) same isnt = tt
  err_answer (Err _) same isnt = alike_after_err same isnt

  notes_now : (ids : List ℕ) (column : ℕ) → is_noted ids column (set_value_at m.entries place new) ≡ cond (bytes_eq ids key) (noted new column) (is_noted ids column m.entries)
  notes_now ids column = notes_written m unique place it.stored it.rows new it.at ids column ∙ ap (λ xs. cond (bytes_eq ids xs) (noted new column) (is_noted ids column m.entries)) it.is_key

  pub notes_stay : ((column : ℕ) → noted new column ≡ false → noted lent column ≡ false) → NotesStay old (set_value_at m.entries place new)
  notes_stay kept ids column isnt = sym (it.notes ids column) ∙ by (bytes_eq ids key) refl
    where
      by : (b : Bool) → bytes_eq ids key ≡ b → is_noted ids column m.entries ≡ false
      by true e =
          ap (λ xs. is_noted xs column m.entries) (equal_lists ids key e) ∙ ap (read_of (λ rows. noted rows column) false) it.found ∙ ap (λ rows. noted rows column) (sym same_rows)
          ∙ kept column (sym (ap (λ b. cond b (noted new column) (is_noted ids column m.entries)) e) ∙ sym (notes_now ids column) ∙ isnt)
      by false e = sym (ap (λ b. cond b (noted new column) (is_noted ids column m.entries)) e) ∙ sym (notes_now ids column) ∙ isnt

  module _ (tables : MasterRows) (master : ℕ) (tuple : List ℕ) (apart : ColumnSet)
      (differ : (first : ℕ) (held : List ℕ) → slice_get (listed lent) 0 ≡ Some first → finite.get tables (master, first) ≡ Some held → (column : ℕ) → column < 64 → has_column apart column ≡ false → slice_get held column ≡ slice_get tuple column) where
    compared_with : (listed lent ≢ row ∷ [] → (column : ℕ) → noted new column ≡ false → has_column apart column ≡ false)
        → IsComparedIn tables master old (set_value_at m.entries place new) key row tuple
    compared_with set first other held at_first is_under_it beside got column within isnt =
        let were : rows_under key old ≡ listed lent = ap (rows_under key) (sym (it.beside other is_under_it)) ∙ sym lent_under in
        let among : is_among other (listed lent) ≡ true = ap (is_among other) (sym were) ∙ is_under_it in
        differ first held (sym (ap (λ rows. slice_get rows 0) were) ∙ at_first) got column within
        (set (λ alone. beside (alone_is other (sym (ap (is_among other) alone) ∙ among))) column (sym (notes_now key column ∙ ap (λ b. cond b (noted new column) (is_noted key column m.entries)) (same_list key)) ∙ isnt))
      where
        alone_is : (other : ℕ) → is_among other (row ∷ []) ≡ true → other ≡ row
        alone_is other is = grind (arith, nat_tests, is)

    pub compared_answer : {A E : Type 0} (answer : Result A E) → OnOk answer (listed lent ≢ row ∷ [] → (column : ℕ) → noted new column ≡ false → has_column apart column ≡ false)
        → OnOk answer (IsComparedIn tables master old (set_value_at m.entries place new) key row tuple)
    compared_answer (Ok _) set = compared_with set
    compared_answer (Err _) set = tt

-- ---- a row that goes
entry_of : (es : KeyedRows) (place : ℕ) (lent : RowIds) → slice_get (values_of es) place ≡ Some lent → (key : SmallVec ℕ) × (slice_get es place ≡ Some (key, lent))
entry_of [] place lent value = absurd (none-some lent value)
entry_of (e ∷ es) zero lent value = (e.0, ap (λ (rows : RowIds). Some (e.0, rows)) (same_Some e.1 lent value))
entry_of (e ∷ es) (suc place) lent value = entry_of es place lent value

reads_key : (P : SmallVec ℕ → Type 0) (es : KeyedRows) (place : ℕ) (key : SmallVec ℕ) (rows : RowIds) → AllByRecursion P (keys_of es) → slice_get es place ≡ Some (key, rows) → P key
reads_key P [] place key rows all at = absurd (none-some (key, rows) at)
reads_key P (e ∷ es) zero key rows all at = subst P (ap (λ entry. entry.0) (same_Some e (key, rows) at)) all.0
reads_key P (e ∷ es) (suc place) key rows all at = reads_key P es place key rows all.1 at

-- a key finds its own rows
own_rows : (es : KeyedRows) → IsDistinct same_key (keys_of es) → (place : ℕ) (key : SmallVec ℕ) (rows : RowIds) → slice_get es place ≡ Some (key, rows) → lookup (same_key key) es ≡ Some rows
unfolding IsDistinct
own_rows [] distinct place key rows at = absurd (none-some (key, rows) at)
own_rows (e ∷ es) distinct zero key rows at =
    let is : e ≡ (key, rows) = same_Some e (key, rows) at in
    ap (λ (b : Bool). cond b (Some e.1) (lookup (same_key key) es)) (ap (λ entry. same_key key entry.0) is ∙ same_list key.items) ∙ ap (λ entry. Some entry.1) is
own_rows (e ∷ es) distinct (suc place) key rows at =
    let other : same_key e.0 key ≡ false = reads_key (λ k. same_key e.0 k ≡ false) es place key rows distinct.0 at in
    ap (λ b. cond b (Some e.1) (lookup (same_key key) es)) (same_key_laws.symm key e.0 ∙ other) ∙ own_rows es distinct.1 place key rows at

module _ {S : Type 0} (m : IndexMap (SmallVec ℕ) RowIds S) (unique : IsUnique same_key m) (row place : ℕ) where
  -- with one row fewer under the key at the place
  taken_at : (key : SmallVec ℕ) (rows : RowIds) (left : List ℕ) (new : KeyedRows) → slice_get m.entries place ≡ Some (key, rows)
      → ((ids : List ℕ) → rows_under ids new ≡ cond (bytes_eq ids key.items) left (rows_under ids m.entries))
      → ((other : ℕ) → is_among other left ≡ (not (other == row) && is_among other (listed rows)))
      → IsTakenFrom m.entries new key.items row
  taken_at key rows left new at under fewer ids other = by (bytes_eq ids key.items) refl
    where
      by : (b : Bool) → bytes_eq ids key.items ≡ b → is_under ids other new ≡ (not (bytes_eq ids key.items && other == row) && is_under ids other m.entries)
      by true e =
          let now = ap (is_among other) (under ids ∙ ap (λ b. cond b left (rows_under ids m.entries)) e) ∙ fewer other in
          let own : rows_under ids m.entries ≡ (listed rows) = ap (λ xs. rows_under xs m.entries) (equal_lists ids key.items e) ∙ ap rows_of (own_rows m.entries unique place key rows at) in
          let before = ap (is_among other) own in
          grind (arith, nat_tests, e, now, before)
      by false e =
          let now = ap (is_among other) (under ids ∙ ap (λ b. cond b left (rows_under ids m.entries)) e) in
          grind (arith, nat_tests, e, now)

  -- the same, at the entry that stands there
  at_key : (P : List ℕ → Type 0) → ((key : SmallVec ℕ) (rows : RowIds) → slice_get m.entries place ≡ Some (key, rows) → P key.items) → (key : List ℕ) → HasKeyAt m.entries place key → P key
  at_key P all key has = by (slice_get m.entries place) refl has
    where
      by : (o : Option (SmallVec ℕ × RowIds)) → slice_get m.entries place ≡ o → IsSomeAnd o (λ entry. entry.0.items ≡ key) → P key
      by None e h = absurd h
      by (Some entry) e h = subst P h (all entry.0 entry.1 e)

  pub left_written : (lent new : RowIds) → slice_get (values_of m.entries) place ≡ Some lent → ((other : ℕ) → is_among other (listed new) ≡ (not (other == row) && is_among other (listed lent)))
      → (key : List ℕ) → HasKeyAt m.entries place key → IsTakenFrom m.entries (set_value_at m.entries place new) key row
  left_written lent new value fewer = at_key (λ key. IsTakenFrom m.entries (set_value_at m.entries place new) key row) (λ key rows at.
      let same : lent ≡ rows = value_at_place m.entries place key rows lent at value in
      taken_at key rows (listed new) (set_value_at m.entries place new) at (rows_written m unique place key rows new at)
      (λ other. fewer other ∙ ap (λ (held : RowIds). not (other == row) && is_among other (listed held)) same))

  pub notes_left : (lent new : RowIds) → slice_get (values_of m.entries) place ≡ Some lent → ((column : ℕ) → noted new column ≡ noted lent column) → NotesAlike m.entries (set_value_at m.entries place new)
  notes_left lent new value same ids column other held = notes_written m unique place key lent new entry.1 ids column ∙ by (bytes_eq ids key.items) refl
    where
      entry : (key : SmallVec ℕ) × (slice_get m.entries place ≡ Some (key, lent))
      entry = entry_of m.entries place lent value

      key : SmallVec ℕ
      key = entry.0

      by : (b : Bool) → bytes_eq ids key.items ≡ b → cond (bytes_eq ids key.items) (noted new column) (is_noted ids column m.entries) ≡ is_noted ids column m.entries
      by true e =
          ap (λ b. cond b (noted new column) (is_noted ids column m.entries)) e ∙ same column
          ∙ sym (ap (λ xs. is_noted xs column m.entries) (equal_lists ids key.items e) ∙ ap (read_of (λ rows. noted rows column) false) (own_rows m.entries unique place key lent entry.1))
      by false e = ap (λ b. cond b (noted new column) (is_noted ids column m.entries)) e

  pub notes_without : (n : IndexMap (SmallVec ℕ) RowIds S) (taken : Option (SmallVec ℕ × RowIds)) → IfSome taken (λ pair. Updates same_key m n pair.0 None) → IfNone taken (n.entries ≡ m.entries)
      → NotesAlike m.entries n.entries
  notes_without n None updates same ids column other held = ap (is_noted ids column) same
  notes_without n (Some pair) updates same ids column other held = updated (λ rows. noted rows column) false m.entries n.entries pair.0 None updates.1 updates.3 ids ∙ by (bytes_eq ids pair.0.items) refl
    where
      by : (b : Bool) → bytes_eq ids pair.0.items ≡ b → cond (bytes_eq ids pair.0.items) false (is_noted ids column m.entries) ≡ is_noted ids column m.entries
      by true e = absurd (true≢false (sym held ∙ ap (is_among other) (updated listed [] m.entries n.entries pair.0 None updates.1 updates.3 ids ∙ ap (λ b. cond b [] (rows_under ids m.entries)) e)))
      by false e = ap (λ b. cond b false (is_noted ids column m.entries)) e

  pub left_removed : (lent : RowIds) (n : IndexMap (SmallVec ℕ) RowIds S) (taken : Option (SmallVec ℕ × RowIds)) → slice_get (values_of m.entries) place ≡ Some lent → (listed lent) ≡ row ∷ []
      → taken ≡ slice_get m.entries place → IfSome taken (λ pair. Updates same_key m n pair.0 None)
      → (key : List ℕ) → HasKeyAt m.entries place key → IsTakenFrom m.entries n.entries key row
  left_removed lent n taken value one is updates = at_key (λ key. IsTakenFrom m.entries n.entries key row) (λ key rows at.
      let same : lent ≡ rows = value_at_place m.entries place key rows lent at value in
      let update = subst (λ found. IfSome found (λ pair. Updates same_key m n pair.0 None)) (is ∙ at) updates in
      let rows_are : (listed rows) ≡ row ∷ [] = sym (ap listed same) ∙ one in
      taken_at key rows [] n.entries at (updated listed [] m.entries n.entries key None update.1 update.3)
      (λ other. let among = ap (is_among other) rows_are in grind (arith, nat_tests, among)))

all_removed : (P : SmallVec ℕ × RowIds → Type 0) (es : KeyedRows) (place : ℕ) (d : SmallVec ℕ × RowIds) → place < length es → All P es → All P (swap_remove es place d)
all_removed P es place d within all = All-take P (length es - 1) (set es place (get_or es (length es - 1) d)) (All-set P es place (get_or es (length es - 1) d) (All-get_or P es (length es - 1) d (omega arith) all) all)

pub kept_removed : (es new : KeyedRows) (place : ℕ) (taken : Option (SmallVec ℕ × RowIds)) → place < length es → AreOrderly es
    → IfSome taken (λ pair. new ≡ swap_remove es place pair) → IfNone taken (new ≡ es) → AreOrderly new
kept_removed es new place None within kept removed same = subst AreOrderly (sym same) kept
kept_removed es new place (Some pair) within kept removed same = subst AreOrderly (sym removed) (record {
  rising = all_removed (λ entry. IsStrictlyIncreasing (listed entry.1)) es place pair within kept.rising;
  filled = all_removed (λ entry. 0 < length (listed entry.1)) es place pair within kept.filled;
})

-- the key that a search by ids found at a place
pub key_found : (es : KeyedRows) (ids : List ℕ) (place : ℕ) → Some place ≡ position (λ key. bytes_eq ids key.items) (keys_of es) → HasKeyAt es place ids
key_found es ids place is =
    let at = cond_some (nat_lt (position_or_len (λ key. bytes_eq ids key.items) (keys_of es)) (length (keys_of es))) (position_or_len (λ key. bytes_eq ids key.items) (keys_of es)) place (sym is) in
    let below = ltb-true _ _ at.0 in
    let it = stands_at es (λ key. bytes_eq ids key.items) place (sym at.1) (omega (arith, at.1, below, length_keys es)) in
    subst (λ o. IsSomeAnd o (λ entry. entry.0.items ≡ ids)) (sym it.at) (sym (equal_lists ids it.key.items it.passes))
  where
    length_keys : (fs : KeyedRows) → length (keys_of fs) ≡ length fs
    length_keys [] = refl
    length_keys (f ∷ fs) = ap suc (length_keys fs)

-- under a key without rows nothing goes
pub none_under : (es : KeyedRows) (ids : List ℕ) (row : ℕ) → lookup (λ key. bytes_eq ids key.items) es ≡ None → IsTakenFrom es es ids row
none_under es ids row none others other = by (bytes_eq others ids) refl
  where
    by : (b : Bool) → bytes_eq others ids ≡ b → is_under others other es ≡ (not (bytes_eq others ids && other == row) && is_under others other es)
    by true e =
        let before = ap (is_among other) (ap (λ xs. rows_under xs es) (equal_lists others ids e) ∙ ap rows_of none) in
        grind (arith, nat_tests, e, before)
    by false e = grind (arith, nat_tests, e)

-- what is left where the row wasn't all there was
pub some_left : (row : ℕ) (rows left : List ℕ) → 0 < length rows → (rows ≡ row ∷ [] → ⊥) → length rows ≤ length left + 1 → (is_among row rows ≡ false → left ≡ rows) → 0 < length left
some_left row [] left some isnt fewer none = absurd (omega arith)
some_left row (x ∷ []) left some isnt fewer none = by (row == x) refl
  where
    by : (b : Bool) → (row == x) ≡ b → 0 < length left
    by true e = let same : row ≡ x = grind (arith, nat_tests, e) in absurd (isnt (ap (λ y. y ∷ []) (sym same)))
    by false e = let kept = none (grind (arith, nat_tests, e)) in omega (arith, ap length kept)
some_left row (x ∷ (y ∷ rows)) left some isnt fewer none = omega (arith, fewer)
