-- A master index is kept when one row changes: its indexes of lists of columns, and the widths of its rows.
use Rattle.std.proofs.Common.{◌≡◌, ℕ, Bool, true, false, cond, List, [], ◌∷◌, ◌++◌, length, get_or, take, drop, Option, Some, None, refl, sym, ap, subst, ◌∙◌, true≢false, arith}
use Rattle.std.specs.Prelude.{◌==◌, ◌&&◌, ◌||◌, All, IfSome}
use Rattle.std.specs.FinMap as finite
use Rattle.std.specs.Option.{ForSome, option_map_or}
use Rattle.std.specs.Str.{bytes_eq}
use Rattle.std.proofs.lemmas.Bool.Decides.{nat_tests}
use Rattle.std.proofs.lemmas.List.{length-map}
use Rattle.std.proofs.lemmas.Option.{none-some}
use Rattle.master_index.specs.declared.column_index.ColumnIndex.{ColumnIndex}
use Rattle.master_index.specs.Between.{in_rows, with_one}
use Rattle.master_index.specs.ColumnRows.{is_under}
use Rattle.master_index.specs.Masters.{MasterRows, IsWideFor}
use Rattle.master_index.specs.InStep.{AreWide, IndexIsBetween, IndexIsOver, IsInStepWith, IsMasterIndex}
use Rattle.master_index.proofs.BetweenFacts.{weaker}
use Rattle.master_index.proofs.IndexLists.{lists_in}
use Rattle.master_index.proofs.MasterRowFacts.{row_after_insert, row_after_remove, no_row}

-- without rows
pub empty_in_step : (index : ColumnIndex) → ((ids : List ℕ) (row : ℕ) → is_under ids row index.rows.entries ≡ false) → IsInStepWith finite.empty index
empty_in_step index empty = record {
  there = λ row tuple named. none row tuple named;
  known = λ ids row under. absurd (true≢false (sym under ∙ empty ids row));
  alike = λ one other tuple another apart named also key column within isnt. none one tuple named;
}
  where
    none : {P : Type 0} (row : ℕ) (tuple : List ℕ) → in_rows finite.empty index.list.master row tuple ≡ true → P
    none row tuple named = absurd (true≢false (sym named ∙ ap (λ o. option_map_or (bytes_eq tuple) o false) (no_row index.list.master row)))

pub kept_without_rows : (columns : List ColumnIndex) → All (IsInStepWith finite.empty) columns → IsMasterIndex columns finite.empty
kept_without_rows columns in_step = record { in_step = in_step; wide = λ t r. subst (λ o. IfSome o (IsWideFor (lists_in columns) t)) (sym (no_row t r)) tt }

-- ---- widths
pub row_is_wide : (columns : List ColumnIndex) (rows : MasterRows) (table row : ℕ) → AreWide columns rows → ForSome (finite.get rows (table, row)) (IsWideFor (lists_in columns) table)
row_is_wide columns rows table row wide tuple there = subst (λ o. IfSome o (IsWideFor (lists_in columns) table)) there (wide table row)

-- a row that was taken away isn't there
pub row_left : (rows later : MasterRows) (table row : ℕ) → later ≡ finite.remove rows (table, row) → (ids : List ℕ) → finite.get later (table, row) ≡ Some ids → ⊥
row_left rows later table row is ids there =
    let gone = ap (λ m. finite.get m (table, row)) is ∙ row_after_remove rows table row table row in
    let here : ((table == table) && (row == row)) ≡ true = grind (arith, nat_tests) in
    none-some ids (sym (gone ∙ ap (λ b. cond b None (finite.get rows (table, row))) here) ∙ there)

-- ---- the lists stay
pub same_count : (columns new : List ColumnIndex) → lists_in new ≡ lists_in columns → length new ≡ length columns
same_count columns new lists = sym (length-map new (λ (index : ColumnIndex). index.list)) ∙ ap length lists ∙ length-map columns (λ (index : ColumnIndex). index.list)

-- what is written through a whole borrow
pub written_whole : (n : ℕ) (columns new : List ColumnIndex) → n ≡ length columns → lists_in new ≡ lists_in columns → take n (new ++ drop (length new) columns) ≡ new
written_whole n columns new is lists = rw (is, ← same_count columns new lists) (take_front new (drop (length new) columns))
  where
    take_front : (xs ys : List ColumnIndex) → take (length xs) (xs ++ ys) ≡ xs
    take_front [] ys = refl
    take_front (x ∷ xs) ys = ap (λ zs. x ∷ zs) (take_front xs ys)

pub kept_alike : (columns new : List ColumnIndex) (rows : MasterRows) → AreWide columns rows → lists_in new ≡ lists_in columns → All (IsInStepWith rows) new → IsMasterIndex new rows
kept_alike columns new rows wide lists in_step = record {
  in_step = in_step;
  wide = subst (λ all. (t r : ℕ) → IfSome (finite.get rows (t, r)) (IsWideFor all t)) (sym lists) wide;
}

pub kept_later : (columns new : List ColumnIndex) (rows later : MasterRows) (table row : ℕ) (now : Option (List ℕ)) → AreWide columns rows → lists_in new ≡ lists_in columns
    → IfSome now (IsWideFor (lists_in columns) table) → ((t r : ℕ) → finite.get later (t, r) ≡ cond ((t == table) && (r == row)) now (finite.get rows (t, r)))
    → All (IsInStepWith later) new → IsMasterIndex new later
kept_later columns new rows later table row now kept lists wide is in_step = kept_alike columns new later (λ t r. subst (λ o. IfSome o (IsWideFor (lists_in columns) t)) (sym (is t r)) (by t r ((t == table) && (r == row)) refl)) lists in_step
  where
    by : (t r : ℕ) (b : Bool) → ((t == table) && (r == row)) ≡ b → IfSome (cond b now (finite.get rows (t, r))) (IsWideFor (lists_in columns) t)
    by t r true same = let here : t ≡ table = grind (arith, nat_tests, same) in subst (λ n. IfSome now (IsWideFor (lists_in columns) n)) (sym here) wide
    by t r false same = kept t r

-- ---- which rows have which tuples before a change of one and after it
is_or : (b e n : Bool) (a : Bool) → cond (a && b) e n ≡ true → ((a && (b && e)) || n) ≡ true
is_or true e n true is = grind (arith, is)
is_or false e n true is = is
is_or b e n false is = is

or_is : (b e o n : Bool) (a : Bool) → ((a && b) ≡ true → n ≡ o) → ((a && (b && e)) || n) ≡ true → ((a && (b && o)) || cond (a && b) e n) ≡ true
or_is true e o n true at is = let here = at refl in grind (arith, is, here)
or_is false e o n true at is = is
or_is b e o n false at is = is

no_one : (a b n : Bool) → ((a && (b && false)) || n) ≡ n
no_one true true n = refl
no_one true false n = refl
no_one false b n = refl

-- the row at the name was the old one, and is the new one now, where None is no row
module _ (rows later : MasterRows) (table row : ℕ) (old now : Option (List ℕ)) (was : finite.get rows (table, row) ≡ old)
    (is : (t r : ℕ) → finite.get later (t, r) ≡ cond ((t == table) && (r == row)) now (finite.get rows (t, r))) where
  later_is : (t r : ℕ) (ids : List ℕ) → in_rows later t r ids ≡ cond ((t == table) && (r == row)) (option_map_or (bytes_eq ids) now false) (in_rows rows t r ids)
  later_is t r ids = ap (λ o. option_map_or (bytes_eq ids) o false) (is t r) ∙ by ((t == table) && (r == row))
    where
      by : (b : Bool) → option_map_or (bytes_eq ids) (cond b now (finite.get rows (t, r))) false ≡ cond b (option_map_or (bytes_eq ids) now false) (in_rows rows t r ids)
      by true = refl
      by false = refl

  was_there : (t r : ℕ) (ids : List ℕ) → ((t == table) && (r == row)) ≡ true → in_rows rows t r ids ≡ option_map_or (bytes_eq ids) old false
  was_there t r ids here =
      let t_is : t ≡ table = grind (arith, nat_tests, here) in
      let r_is : r ≡ row = grind (arith, nat_tests, here) in
      ap (λ n. in_rows rows n r ids) t_is ∙ ap (λ n. in_rows rows table n ids) r_is ∙ ap (λ o. option_map_or (bytes_eq ids) o false) was

  -- later there are those before and the new one, and all of these but the old one
  pub fewer_later : (t r : ℕ) (ids : List ℕ) → in_rows later t r ids ≡ true → ((t == table && (r == row && option_map_or (bytes_eq ids) now false)) || in_rows rows t r ids) ≡ true
  fewer_later t r ids named = is_or (r == row) (option_map_or (bytes_eq ids) now false) (in_rows rows t r ids) (t == table) (sym (later_is t r ids) ∙ named)

  pub later_but_old : (t r : ℕ) (ids : List ℕ) → ((t == table && (r == row && option_map_or (bytes_eq ids) now false)) || in_rows rows t r ids) ≡ true
      → ((t == table && (r == row && option_map_or (bytes_eq ids) old false)) || in_rows later t r ids) ≡ true
  later_but_old t r ids named =
      ap (λ b. (t == table && (r == row && option_map_or (bytes_eq ids) old false)) || b) (later_is t r ids)
      ∙ or_is (r == row) (option_map_or (bytes_eq ids) now false) (option_map_or (bytes_eq ids) old false) (in_rows rows t r ids) (t == table) (was_there t r ids) named

module _ (columns : List ColumnIndex) (rows : MasterRows) (table row : ℕ) where
  pub added_each : (ids : List ℕ) → finite.get rows (table, row) ≡ None → All (IndexIsOver (with_one (in_rows rows) table row ids)) columns → All (IsInStepWith (finite.insert rows (table, row) ids)) columns
  added_each ids absent each k d within =
      let later = finite.insert rows (table, row) ids in
      let index = get_or columns k d in
      let one = with_one (in_rows rows) table row ids in
      let is = λ (t r : ℕ). row_after_insert rows table row t r ids in
      weaker one (in_rows later) one (in_rows later) index.list index.rows.entries (each k d within)
      (λ r held. fewer_later rows later table row None (Some ids) absent is index.list.master r held)
      (λ r held named. sym (no_one (index.list.master == table) (r == row) (in_rows later index.list.master r held)) ∙ later_but_old rows later table row None (Some ids) absent is index.list.master r held named)

  pub going_each : (old : List ℕ) → finite.get rows (table, row) ≡ Some old → All (IsInStepWith rows) columns
      → All (IndexIsBetween (in_rows (finite.remove rows (table, row))) (with_one (in_rows (finite.remove rows (table, row))) table row old)) columns
  going_each old there each k d within =
      let later = finite.remove rows (table, row) in
      let index = get_or columns k d in
      let is = λ (t r : ℕ). row_after_remove rows table row t r in
      weaker (in_rows rows) (in_rows later) (in_rows rows) (with_one (in_rows later) table row old) index.list index.rows.entries (each k d within)
      (λ r held named. sym (no_one (index.list.master == table) (r == row) (in_rows rows index.list.master r held)) ∙ fewer_later rows later table row (Some old) None there is index.list.master r held named)
      (λ r held named. later_but_old rows later table row (Some old) None there is index.list.master r held (no_one (index.list.master == table) (r == row) (in_rows rows index.list.master r held) ∙ named))

  pub changed_each : (old ids : List ℕ) → finite.get rows (table, row) ≡ Some old → All (IndexIsOver (with_one (in_rows rows) table row ids)) columns
      → All (IndexIsBetween (in_rows (finite.insert rows (table, row) ids)) (with_one (in_rows (finite.insert rows (table, row) ids)) table row old)) columns
  changed_each old ids there each k d within =
      let later = finite.insert rows (table, row) ids in
      let index = get_or columns k d in
      let one = with_one (in_rows rows) table row ids in
      let is = λ (t r : ℕ). row_after_insert rows table row t r ids in
      weaker one (in_rows later) one (with_one (in_rows later) table row old) index.list index.rows.entries (each k d within)
      (λ r held. fewer_later rows later table row (Some old) (Some ids) there is index.list.master r held)
      (λ r held. later_but_old rows later table row (Some old) (Some ids) there is index.list.master r held)
