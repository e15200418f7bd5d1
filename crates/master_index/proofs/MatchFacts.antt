-- What a look-up by ids says of the rows that it gives.
use Rattle.std.proofs.Common.{◌≡◌, ◌≢◌, ℕ, zero, suc, ◌<◌, Bool, true, false, cond, List, [], ◌∷◌, length, get_or, slice_get, take, Option, Some, None, inl, inr, refl, sym, ap, subst, ◌∙◌, true≢false, arith}
use Rattle.std.specs.Prelude.{◌==◌, ◌||◌, ◌↔◌, map, option_map, All, Contains, IsSomeAnd, IfSome, MatchOption, unwrap_or}
use Rattle.std.specs.Borrow.{Bor}
use Rattle.std.specs.FinMap as finite
use Rattle.std.specs.List.Sorted.{IsStrictlyIncreasing}
use Rattle.std.specs.Map.{lookup}
use Rattle.std.specs.Option.{option_map_or}
use Rattle.std.specs.Str.{bytes_eq}
use Rattle.std.proofs.lemmas.Bool.Decides.{nat_tests}
use Rattle.std.proofs.lemmas.List.Elements.{All-head, All-tail, All-contains}
use Rattle.std.proofs.lemmas.Option.{slice_get-get_or}
use Rattle.std.proofs.lemmas.Slice.Eq.{bytes_eq-Decides}
use Rattle.smallvec.specs.SmallVec.{SmallVec}
use Rattle.row_store.specs.Tuple.{ids_at}
use Rattle.master_index.specs.declared.rising.RowIds.{RowIds}
use Rattle.master_index.specs.Between.{IsOver, in_rows}
use Rattle.master_index.specs.ColumnRows.{KeyedRows, Tells, listed, noted, rows_under, is_among, is_noted, is_under, AreRising}
use Rattle.master_index.specs.InStep.{AreRowsWith}
use Rattle.master_index.specs.Masters.{HasIds, IsRowWith, IsWideFor, MasterRows, id_at}
use Rattle.master_index.proofs.BetweenFacts.{is_named, named_is}
use Rattle.master_index.specs.declared.column_index.ColumnIndex.{ColumnIndex}
use Rattle.master_index.specs.declared.column_list.ColumnList.{ColumnList}

none_rise : IsStrictlyIncreasing []
none_rise k within = absurd (omega arith)

-- the rows under any key rise
pub rows_rise : (es : KeyedRows) (ids : List ℕ) → AreRising es → IsStrictlyIncreasing (rows_under ids es)
rows_rise [] ids rising = none_rise
rows_rise (e ∷ es) ids rising = by (bytes_eq ids e.0.items) (rows_rise es ids (All-tail (λ (entry : SmallVec ℕ × RowIds). IsStrictlyIncreasing (listed entry.1)) e es rising))
  where
    by : (b : Bool) → IsStrictlyIncreasing (rows_under ids es) → IsStrictlyIncreasing (option_map_or listed (cond b (Some e.1) (lookup (λ key. bytes_eq ids key.items) es)) [])
    by true rest = All-head (λ (entry : SmallVec ℕ × RowIds). IsStrictlyIncreasing (listed entry.1)) e es rising
    by false rest = rest

-- a row is among rows exactly where they contain it
contains_among : (rows : List ℕ) (row k : ℕ) → k < length rows → get_or rows k row ≡ row → is_among row rows ≡ true
contains_among [] row k within at = absurd (omega arith)
contains_among (x ∷ rows) row zero within at = grind (arith, nat_tests)
contains_among (x ∷ rows) row (suc k) within at = grind (arith, nat_tests, contains_among rows row k (omega arith) at)

among_contains : (rows : List ℕ) (row : ℕ) → is_among row rows ≡ true → Contains rows row
among_contains [] row is = absurd (true≢false (sym is))
among_contains (x ∷ rows) row is = by (row == x) refl (among_contains rows row)
  where
    by : (b : Bool) → (row == x) ≡ b → (is_among row rows ≡ true → Contains rows row) → Contains (x ∷ rows) row
    by true same rest = (0, omega arith, grind (arith, nat_tests, same))
    by false apart rest = let tail = rest (sym (ap (λ b. b || is_among row rows) apart) ∙ is) in (suc tail.0, omega (arith, tail.1), tail.2)

-- the ids of a tuple in columns that it has
pub ids_are : (tuple columns : List ℕ) → All (λ column. column < length tuple) columns → map (slice_get tuple) columns ≡ map Some (ids_at tuple columns)
ids_are tuple [] wide = refl
ids_are tuple (c ∷ columns) wide =
    λ i. slice_get-get_or tuple c 0 (All-head (λ column. column < length tuple) c columns wide) i ∷ ids_are tuple columns (All-tail (λ column. column < length tuple) c columns wide) i

taken_out : (xs : List ℕ) → map (λ o. unwrap_or o 0) (map Some xs) ≡ xs
taken_out [] = refl
taken_out (x ∷ xs) = ap (λ ys. x ∷ ys) (taken_out xs)

same_ids : (xs ys : List ℕ) → map Some xs ≡ map Some ys → xs ≡ ys
same_ids xs ys is = sym (taken_out xs) ∙ ap (map (λ o. unwrap_or o 0)) is ∙ taken_out ys

pub matched : (o : Option (List ℕ)) (found columns ids : List ℕ) (row : ℕ) → is_among row found ≡ option_map_or (λ tuple. bytes_eq ids (ids_at tuple columns)) o false
    → IfSome o (λ tuple. All (λ column. column < length tuple) columns) → Contains found row ↔ IsSomeAnd o (λ tuple. HasIds tuple columns ids)
matched None found columns ids row is wide = (λ has. absurd (true≢false (sym (contains_among found row has.0 has.1 has.2) ∙ is)), λ none. absurd none)
matched (Some tuple) found columns ids row is wide = (
  λ has. let same = (bytes_eq-Decides ids (ids_at tuple columns)).0 (sym is ∙ contains_among found row has.0 has.1 has.2) in ids_are tuple columns wide ∙ ap (map Some) (sym same),
  λ has. among_contains found row (is ∙ (bytes_eq-Decides ids (ids_at tuple columns)).1 (sym (same_ids (ids_at tuple columns) ids (sym (ids_are tuple columns wide) ∙ has)))),
)

-- ---- a list that is in step with the rows
under_is : (rows : MasterRows) (list : ColumnList) (es : KeyedRows) → IsOver (in_rows rows) list es → (ids : List ℕ) (row : ℕ)
    → is_under ids row es ≡ option_map_or (λ tuple. bytes_eq ids (ids_at tuple list.columns)) (finite.get rows (list.master, row)) false
under_is rows list es is ids row = by (is_under ids row es) refl
  where
    found : (tuple : List ℕ) → in_rows rows list.master row tuple ≡ true → ids_at tuple list.columns ≡ ids
        → true ≡ option_map_or (λ tuple. bytes_eq ids (ids_at tuple list.columns)) (finite.get rows (list.master, row)) false
    found tuple named key = sym (ap (λ o. option_map_or (λ tuple. bytes_eq ids (ids_at tuple list.columns)) o false) (named_is rows list.master row tuple named)
        ∙ (bytes_eq-Decides ids (ids_at tuple list.columns)).1 (sym key))

    missing : (o : Option (List ℕ)) → finite.get rows (list.master, row) ≡ o → is_under ids row es ≡ false → false ≡ option_map_or (λ tuple. bytes_eq ids (ids_at tuple list.columns)) o false
    missing None at none = refl
    missing (Some tuple) at none = other (bytes_eq ids (ids_at tuple list.columns)) refl
      where
        other : (b : Bool) → bytes_eq ids (ids_at tuple list.columns) ≡ b → false ≡ b
        other true same =
            let there = is.there row tuple (is_named rows list.master row tuple at) in
            absurd (true≢false (sym there ∙ ap (λ xs. is_under xs row es) (sym ((bytes_eq-Decides ids (ids_at tuple list.columns)).0 same)) ∙ none))
        other false apart = refl

    by : (b : Bool) → is_under ids row es ≡ b → is_under ids row es ≡ option_map_or (λ tuple. bytes_eq ids (ids_at tuple list.columns)) (finite.get rows (list.master, row)) false
    by true e = let (tuple, named, key) = is.known ids row e in e ∙ found tuple named key
    by false e = e ∙ missing (finite.get rows (list.master, row)) refl e

row_has : (o : Option (List ℕ)) (columns ids : List ℕ) → IfSome o (λ tuple. All (λ column. column < length tuple) columns) → IsSomeAnd o (λ tuple. HasIds tuple columns ids)
    → (tuple : List ℕ) × (o ≡ Some tuple) × (ids_at tuple columns ≡ ids)
row_has None columns ids wide has = absurd has
row_has (Some tuple) columns ids wide has = (tuple, refl, same_ids (ids_at tuple columns) ids (sym (ids_are tuple columns wide) ∙ has))

module _ (rows : MasterRows) (list : ColumnList) (es : KeyedRows) (ids : List ℕ) (is : IsOver (in_rows rows) list es) (rising : AreRising es)
    (wide : (row : ℕ) → IfSome (finite.get rows (list.master, row)) (λ tuple. All (λ column. column < length tuple) list.columns)) where
  exactly_under : (row : ℕ) → Contains (rows_under ids es) row ↔ IsRowWith rows list.master list.columns ids row
  exactly_under row = matched (finite.get rows (list.master, row)) (rows_under ids es) list.columns ids row (under_is rows list es is ids row) (wide row)

  alike_under : (one other column : ℕ) → IsRowWith rows list.master list.columns ids one → IsRowWith rows list.master list.columns ids other → column < 64 → is_noted ids column es ≡ false
      → id_at rows list.master one column ≡ id_at rows list.master other column
  alike_under one other column with_ids also within isnt = by (one == other) refl
    where
      by : (b : Bool) → (one == other) ≡ b → id_at rows list.master one column ≡ id_at rows list.master other column
      by true e = ap (λ row. id_at rows list.master row column) (grind (arith, nat_tests, e))
      by false e =
          let (tuple, at, key) = row_has (finite.get rows (list.master, one)) list.columns ids (wide one) with_ids in
          let (another, at', key') = row_has (finite.get rows (list.master, other)) list.columns ids (wide other) also in
          let apart : one ≢ other = grind (arith, nat_tests, e) in
          ap (λ o. option_map_or (λ held. slice_get held column) o None) at
          ∙ is.alike one other tuple another apart (is_named rows list.master one tuple at) (is_named rows list.master other another at') (key ∙ sym key') column within (ap (λ xs. is_noted xs column es) key ∙ isnt)
          ∙ sym (ap (λ o. option_map_or (λ held. slice_get held column) o None) at')

  -- what a look-up by ids finds
  pub held_under : (found : Option (Bor RowIds)) → option_map (λ rows. rows.now) found ≡ lookup (λ key. bytes_eq ids key.items) es
      → MatchOption found ((row : ℕ) → ¬ IsRowWith rows list.master list.columns ids row) (λ held. AreRowsWith rows list.master list.columns ids held.now)
  held_under None looked = λ row with_ids.
      let has = subst (λ xs. Contains xs row) (ap (λ o. option_map_or listed o []) (sym looked)) ((exactly_under row).1 with_ids) in
      omega (arith, has.1)
  held_under (Some held) looked = record {
    rising = subst IsStrictlyIncreasing here (rows_rise es ids rising);
    exactly = λ row. subst (λ xs. Contains xs row ↔ IsRowWith rows list.master list.columns ids row) here (exactly_under row);
    alike = λ one other column with_ids also within isnt.
        alike_under one other column with_ids also within (ap (λ o. option_map_or (λ rows. noted rows column) o false) (sym looked) ∙ isnt);
  }
    where
      here : rows_under ids es ≡ listed held.now
      here = ap (λ o. option_map_or listed o []) (sym looked)

-- ---- the first of rows that have one id
rises_first : (rows : List ℕ) → IsStrictlyIncreasing (take 1 rows)
rises_first [] k within = absurd (omega arith)
rises_first (row ∷ rows) k within = absurd (omega arith)

first_among : (rows : List ℕ) (row : ℕ) → Contains (take 1 rows) row → Contains rows row
first_among [] row has = has
first_among (x ∷ rows) row (zero, within, at) = (0, omega arith, at)
first_among (x ∷ rows) row (suc k, within, at) = absurd (omega arith)

first_of : (rows : List ℕ) (row : ℕ) → Contains rows row → (first : ℕ) × Contains (take 1 rows) first
first_of [] row has = absurd (omega (arith, has.1))
first_of (x ∷ rows) row has = (x, (0, omega arith, refl))

pub told_rise : (held : RowIds) (column : ℕ) (told : List ℕ) → Tells held column told → IsStrictlyIncreasing (listed held) → IsStrictlyIncreasing told
told_rise held column told (inl all) rising = subst IsStrictlyIncreasing (sym all) rising
told_rise held column told (inr (first, within, isnt)) rising = subst IsStrictlyIncreasing (sym first) (rises_first (listed held))

pub told_among : (held : RowIds) (column : ℕ) (told : List ℕ) → Tells held column told → (row : ℕ) → Contains told row → Contains (listed held) row
told_among held column told (inl all) row has = subst (λ xs. Contains xs row) all has
told_among held column told (inr (first, within, isnt)) row has = first_among (listed held) row (subst (λ xs. Contains xs row) first has)

pub told_each : (held : RowIds) (column : ℕ) (told : List ℕ) (id : ℕ → Option ℕ) → Tells held column told
    → ((one other : ℕ) → Contains (listed held) one → Contains (listed held) other → column < 64 → noted held column ≡ false → id one ≡ id other)
    → (row : ℕ) → Contains (listed held) row → (other : ℕ) × Contains told other × (id other ≡ id row)
told_each held column told id (inl all) same row has = (row, subst (λ xs. Contains xs row) (sym all) has, refl)
told_each held column told id (inr (first, within, isnt)) same row has =
    let (least, among) = first_of (listed held) row has in
    (least, subst (λ xs. Contains xs least) (sym first) among, same least row (first_among (listed held) least among) has within isnt)

-- ---- the list that was handed in
-- a list that none of the indexes is of was not handed in
pub not_handed : (columns : List ColumnIndex) (wanted : ColumnList) → ((k : ℕ) (d : ColumnIndex) → k < length columns → (get_or columns k d).list ≢ wanted) → Contains (map (λ index. index.list) columns) wanted → ⊥
not_handed [] wanted none has = omega (arith, has.1)
not_handed (index ∷ columns) wanted none has = by (not_handed columns wanted (λ j d inside. none (suc j) d (omega arith))) has.0 has.1 has.2
  where
    by : (Contains (map (λ other. other.list) columns) wanted → ⊥) → (k : ℕ) → k < suc (length (map (λ other. other.list) columns)) → get_or (index.list ∷ map (λ other. other.list) columns) k wanted ≡ wanted → ⊥
    by rest zero within at = none zero index (omega arith) at
    by rest (suc k) within at = rest (k, omega arith, at)

-- a row of the list's table reaches its columns
pub reaches_list : (o : Option (List ℕ)) (lists : List ColumnList) (wanted : ColumnList) → Contains lists wanted → IfSome o (IsWideFor lists wanted.master) → IfSome o (λ tuple. All (λ column. column < length tuple) wanted.columns)
reaches_list None lists wanted has wide = tt
reaches_list (Some tuple) lists wanted has wide = All-contains (λ list. list.master ≡ wanted.master → All (λ column. column < length tuple) list.columns) lists wanted wide has refl
