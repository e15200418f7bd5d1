-- What a row that comes in under a key, or goes from it, makes of a list's rows beside those of the tables.
use Rattle.std.proofs.Common.{◌≡◌, ◌≢◌, ℕ, ◌<◌, Bool, true, false, List, [], ◌∷◌, Option, Some, None, Result, Ok, Err, OnOk, OnErr, refl, sym, ap, subst, ◌∙◌, true≢false, slice_get, arith}
use Rattle.std.specs.Prelude.{◌==◌, ◌&&◌, ◌||◌, not}
use Rattle.std.specs.FinMap as finite
use Rattle.std.specs.Option.{option_map_or}
use Rattle.std.specs.Str.{bytes_eq}
use Rattle.std.proofs.lemmas.Bool.Decides.{nat_tests}
use Rattle.std.proofs.lemmas.Option.{same_Some}
use Rattle.std.proofs.lemmas.Slice.Eq.{bytes_eq-Decides}
use Rattle.row_store.specs.Tuple.{ids_at}
use Rattle.master_index.specs.declared.column_list.ColumnList.{ColumnList}
use Rattle.master_index.specs.Between.{Named, IsBetween, IsOver, in_rows, with_one}
use Rattle.master_index.specs.ColumnRows.{KeyedRows, HoldAlike, IsComparedIn, IsPutUnder, IsTakenFrom, NotesAlike, NotesStay, is_among, is_noted, is_under, rows_under}
use Rattle.master_index.specs.Masters.{MasterRows}

pub on_ok : {A E P Q : Type 0} (r : Result A E) → (P → Q) → OnOk r P → OnOk r Q
on_ok (Ok v) so p = so p
on_ok (Err e) so p = tt

pub on_err : {A E P Q : Type 0} (r : Result A E) → (P → Q) → OnErr r P → OnErr r Q
on_err (Ok v) so p = tt
on_err (Err e) so p = so p

pub at_err : {A E P : Type 0} (r : Result A E) → P → OnErr r P
at_err (Ok v) p = tt
at_err (Err e) p = p

pub both_ok : {A E P Q R : Type 0} (r : Result A E) → (P → Q → R) → OnOk r P → OnOk r Q → OnOk r R
both_ok (Ok v) so p q = so p q
both_ok (Err e) so p q = tt

same : (xs ys : List ℕ) → bytes_eq xs ys ≡ true → xs ≡ ys
same xs ys = (bytes_eq-Decides xs ys).0

itself : (xs : List ℕ) → bytes_eq xs xs ≡ true
itself xs = (bytes_eq-Decides xs xs).1 refl

-- ---- rows by names
held_is : (o : Option (List ℕ)) (tuple : List ℕ) → option_map_or (bytes_eq tuple) o false ≡ true → o ≡ Some tuple
held_is None tuple is = absurd (true≢false (sym is))
held_is (Some ids) tuple is = ap Some (sym (same tuple ids is))

pub named_is : (rows : MasterRows) (table row : ℕ) (tuple : List ℕ) → in_rows rows table row tuple ≡ true → finite.get rows (table, row) ≡ Some tuple
named_is rows table row tuple is = held_is (finite.get rows (table, row)) tuple is

pub is_named : (rows : MasterRows) (table row : ℕ) (tuple : List ℕ) → finite.get rows (table, row) ≡ Some tuple → in_rows rows table row tuple ≡ true
is_named rows table row tuple is = ap (λ o. option_map_or (bytes_eq tuple) o false) is ∙ itself tuple

-- the one more, and those before it
pub the_one : (named : Named) (table row : ℕ) (tuple : List ℕ) → with_one named table row tuple table row tuple ≡ true
the_one named table row tuple = let here = itself tuple in grind (arith, nat_tests, here)

pub one_of : (named : Named) (table row : ℕ) (tuple : List ℕ) (t r : ℕ) (ids : List ℕ) → named t r ids ≡ true → with_one named table row tuple t r ids ≡ true
one_of named table row tuple t r ids is = grind (arith, is)

-- a tuple of the row, or of another one
data Which (P : Type 0) (row : ℕ) (tuple : List ℕ) (r : ℕ) (ids : List ℕ) : Type 0 where
  this : r ≡ row → ids ≡ tuple → Which P row tuple r ids
  that : P → Which P row tuple r ids

which : (named : Named) (table row : ℕ) (tuple : List ℕ) (t r : ℕ) (ids : List ℕ) → with_one named table row tuple t r ids ≡ true → Which (named t r ids ≡ true) row tuple r ids
which named table row tuple t r ids is = by (t == table && (r == row && bytes_eq ids tuple)) refl
  where
    by : (b : Bool) → (t == table && (r == row && bytes_eq ids tuple)) ≡ b → Which (named t r ids ≡ true) row tuple r ids
    by true one = this (grind (arith, nat_tests, one)) (same ids tuple (grind (arith, nat_tests, one)))
    by false none = that (sym (ap (λ b. b || named t r ids) none) ∙ is)

-- of a table that isn't the one's there are the same
pub other_table : (named : Named) (table row : ℕ) (tuple : List ℕ) (t r : ℕ) (ids : List ℕ) → t ≢ table → with_one named table row tuple t r ids ≡ true → named t r ids ≡ true
other_table named table row tuple t r ids apart is = grind (arith, nat_tests, is, apart)

-- ---- more or less is known
pub weaker : (sure less may more : Named) (list : ColumnList) (entries : KeyedRows) → IsBetween sure may list entries
    → ((row : ℕ) (tuple : List ℕ) → less list.master row tuple ≡ true → sure list.master row tuple ≡ true)
    → ((row : ℕ) (tuple : List ℕ) → may list.master row tuple ≡ true → more list.master row tuple ≡ true) → IsBetween less more list entries
weaker sure less may more list entries is fewer others = record {
  there = λ row tuple named. is.there row tuple (fewer row tuple named);
  known = λ ids row under. let (tuple, named, key) = is.known ids row under in (tuple, others row tuple named, key);
  alike = λ one other tuple another apart named also. is.alike one other tuple another apart (fewer one tuple named) (fewer other another also);
}

-- what has the one more has the others, and what has the others may have it
pub less_sure : (named : Named) (list : ColumnList) (entries : KeyedRows) (table row : ℕ) (tuple : List ℕ) → IsOver (with_one named table row tuple) list entries → IsBetween named (with_one named table row tuple) list entries
less_sure named list entries table row tuple is = weaker (with_one named table row tuple) named (with_one named table row tuple) (with_one named table row tuple) list entries is
    (λ r ids. one_of named table row tuple list.master r ids) (λ r ids same. same)

pub more_open : (named : Named) (list : ColumnList) (entries : KeyedRows) (table row : ℕ) (tuple : List ℕ) → IsOver named list entries → IsBetween named (with_one named table row tuple) list entries
more_open named list entries table row tuple is = weaker named named named (with_one named table row tuple) list entries is (λ r ids same. same) (λ r ids. one_of named table row tuple list.master r ids)

-- a list of another table
pub not_added : (named : Named) (list : ColumnList) (entries : KeyedRows) (table row : ℕ) (tuple : List ℕ) → list.master ≢ table → IsOver named list entries → IsOver (with_one named table row tuple) list entries
not_added named list entries table row tuple apart is = weaker named (with_one named table row tuple) named (with_one named table row tuple) list entries is
    (λ r ids. other_table named table row tuple list.master r ids apart) (λ r ids. one_of named table row tuple list.master r ids)

pub not_taken : (named : Named) (list : ColumnList) (entries : KeyedRows) (table row : ℕ) (tuple : List ℕ) → list.master ≢ table → IsBetween named (with_one named table row tuple) list entries → IsOver named list entries
not_taken named list entries table row tuple apart is = weaker named named (with_one named table row tuple) named list entries is
    (λ r ids same. same) (λ r ids. other_table named table row tuple list.master r ids apart)

module _ (rows : MasterRows) (list : ColumnList) (old new : KeyedRows) where
  pub after_refusal : IsOver (in_rows rows) list old → HoldAlike old new → NotesStay old new → IsOver (in_rows rows) list new
  after_refusal is alike stay = record {
    there = λ row tuple named. alike (ids_at tuple list.columns) row ∙ is.there row tuple named;
    known = λ ids row under. is.known ids row (sym (alike ids row) ∙ under);
    alike = λ one other tuple another apart named also key column within isnt. is.alike one other tuple another apart named also key column within (stay (ids_at tuple list.columns) column isnt);
  }

  -- ---- a row comes in
  module _ (row : ℕ) (tuple : List ℕ) (is : IsOver (in_rows rows) list old) (put : IsPutUnder old new (ids_at tuple list.columns) row) (stay : NotesStay old new)
      (compared : IsComparedIn rows list.master old new (ids_at tuple list.columns) row tuple) where
    abbrev key_of : List ℕ → List ℕ
    key_of ids = ids_at ids list.columns

    put_there : (r : ℕ) (ids : List ℕ) → Which (in_rows rows list.master r ids ≡ true) row tuple r ids → is_under (key_of ids) r new ≡ true
    put_there r ids (this row_is tuple_is) =
        let key = ap (bytes_eq (key_of ids)) (ap key_of (sym tuple_is)) ∙ itself (key_of ids) in
        let test : (r == row) ≡ true = grind (arith, nat_tests, row_is) in
        put (key_of ids) r ∙ ap (λ b. (b && r == row) || is_under (key_of ids) r old) key ∙ ap (λ b. b || is_under (key_of ids) r old) test
    put_there r ids (that named) = let before = is.there r ids named in put (key_of ids) r ∙ grind (arith, before)

    put_known : (ids : List ℕ) (r : ℕ) → is_under ids r new ≡ true → (held : List ℕ) × (with_one (in_rows rows) list.master row tuple list.master r held ≡ true) × (key_of held ≡ ids)
    put_known ids r under = by (bytes_eq ids (key_of tuple) && r == row) refl
      where
        by : (b : Bool) → (bytes_eq ids (key_of tuple) && r == row) ≡ b → (held : List ℕ) × (with_one (in_rows rows) list.master row tuple list.master r held ≡ true) × (key_of held ≡ ids)
        by true e =
            let key : bytes_eq ids (key_of tuple) ≡ true = grind (arith, e) in
            let row_is : r ≡ row = grind (arith, nat_tests, e) in
            (tuple, subst (λ n. with_one (in_rows rows) list.master row tuple list.master n tuple ≡ true) (sym row_is) (the_one (in_rows rows) list.master row tuple), sym (same ids (key_of tuple) key))
        by false e =
            let (held, named, key) = is.known ids r (sym (ap (λ b. b || is_under ids r old) e) ∙ sym (put ids r) ∙ under) in
            (held, one_of (in_rows rows) list.master row tuple list.master r held named, key)

    -- the new tuple beside one of another row with its key
    beside : (other : ℕ) (another : List ℕ) → other ≢ row → in_rows rows list.master other another ≡ true → key_of another ≡ key_of tuple
        → (column : ℕ) → column < 64 → is_noted (key_of tuple) column new ≡ false → slice_get tuple column ≡ slice_get another column
    beside other another apart named key column within isnt = by (rows_under (key_of tuple) old) refl
      where
        under : is_under (key_of tuple) other old ≡ true
        under = subst (λ ids. is_under ids other old ≡ true) key (is.there other another named)

        by : (held : List ℕ) → rows_under (key_of tuple) old ≡ held → slice_get tuple column ≡ slice_get another column
        by [] e = absurd (true≢false (sym under ∙ ap (is_among other) e))
        by (first ∷ held) e =
            let first_under : is_under (key_of tuple) first old ≡ true = ap (is_among first) e ∙ grind (arith, nat_tests) in
            let (ids, first_named, first_key) = is.known (key_of tuple) first first_under in
            let got = named_is rows list.master first ids first_named in
            sym (compared first other ids (ap (λ xs. slice_get xs 0) e) under apart got column within isnt) ∙ same_first first ids first_named first_key got (first == other) refl
          where
            same_first : (first : ℕ) (ids : List ℕ) → in_rows rows list.master first ids ≡ true → key_of ids ≡ key_of tuple → finite.get rows (list.master, first) ≡ Some ids → (b : Bool) → (first == other) ≡ b
                → slice_get ids column ≡ slice_get another column
            same_first first ids first_named first_key got true e =
                let is_other : first ≡ other = grind (arith, nat_tests, e) in
                ap (λ xs. slice_get xs column) (same_Some ids another (sym got ∙ ap (λ n. finite.get rows (list.master, n)) is_other ∙ named_is rows list.master other another named))
            same_first first ids first_named first_key got false e =
                let other_one : first ≢ other = grind (arith, nat_tests, e) in
                is.alike first other ids another other_one first_named named (first_key ∙ sym key) column within (stay (key_of ids) column (subst (λ xs. is_noted xs column new ≡ false) (sym first_key) isnt))

    put_alike : (one other : ℕ) (ids another : List ℕ) → one ≢ other → Which (in_rows rows list.master one ids ≡ true) row tuple one ids → Which (in_rows rows list.master other another ≡ true) row tuple other another
        → key_of ids ≡ key_of another → (column : ℕ) → column < 64 → is_noted (key_of ids) column new ≡ false → slice_get ids column ≡ slice_get another column
    put_alike one other ids another apart (this row_is tuple_is) (this row_is' tuple_is') key column within isnt = absurd (apart (row_is ∙ sym row_is'))
    put_alike one other ids another apart (this row_is tuple_is) (that also) key column within isnt =
        ap (λ xs. slice_get xs column) tuple_is
        ∙ beside other another (λ is_row. apart (row_is ∙ sym is_row)) also (sym key ∙ ap key_of tuple_is) column within (subst (λ xs. is_noted (key_of xs) column new ≡ false) tuple_is isnt)
    put_alike one other ids another apart (that named) (this row_is tuple_is) key column within isnt =
        sym (beside one ids (λ is_row. apart (is_row ∙ sym row_is)) named (key ∙ ap key_of tuple_is) column within (subst (λ xs. is_noted xs column new ≡ false) (key ∙ ap key_of tuple_is) isnt))
        ∙ ap (λ xs. slice_get xs column) (sym tuple_is)
    put_alike one other ids another apart (that named) (that also) key column within isnt = is.alike one other ids another apart named also key column within (stay (key_of ids) column isnt)

    pub after_put : IsOver (with_one (in_rows rows) list.master row tuple) list new
    after_put = record {
      there = λ r ids named. put_there r ids (which (in_rows rows) list.master row tuple list.master r ids named);
      known = put_known;
      alike = λ one other ids another apart named also. put_alike one other ids another apart (which (in_rows rows) list.master row tuple list.master one ids named) (which (in_rows rows) list.master row tuple list.master other another also);
    }

  -- ---- a row goes
  module _ (row : ℕ) (tuple : List ℕ) (is : IsBetween (in_rows rows) (with_one (in_rows rows) list.master row tuple) list old) where
    pub after_take : IsTakenFrom old new (ids_at tuple list.columns) row → NotesAlike old new
        → ((left : List ℕ) → finite.get rows (list.master, row) ≡ Some left → bytes_eq (ids_at left list.columns) (ids_at tuple list.columns) ≡ false) → IsOver (in_rows rows) list new
    after_take taken alike apart = record {
      there = still;
      known = λ ids r under. by ids r under (is.known ids r (was ids r under));
      alike = λ one other ids another other_one named also key column within isnt.
          is.alike one other ids another other_one named also key column within (sym (alike (ids_at ids list.columns) column one (still one ids named)) ∙ isnt);
    }
      where
        still : (r : ℕ) (ids : List ℕ) → in_rows rows list.master r ids ≡ true → is_under (ids_at ids list.columns) r new ≡ true
        still r ids named = taken (ids_at ids list.columns) r ∙ ap (λ b. not (bytes_eq (ids_at ids list.columns) (ids_at tuple list.columns) && r == row) && b) (is.there r ids named)
            ∙ by_row (r == row) refl
          where
            by_row : (b : Bool) → (r == row) ≡ b → (not (bytes_eq (ids_at ids list.columns) (ids_at tuple list.columns) && r == row) && true) ≡ true
            by_row true e =
                let is_row : r ≡ row = grind (arith, nat_tests, e) in
                let other = apart ids (ap (λ n. finite.get rows (list.master, n)) (sym is_row) ∙ named_is rows list.master r ids named) in
                grind (arith, other)
            by_row false e = grind (arith, e)

        was : (ids : List ℕ) (r : ℕ) → is_under ids r new ≡ true → is_under ids r old ≡ true
        was ids r under = let now_under = sym (taken ids r) ∙ under in grind (arith, now_under)

        by : (ids : List ℕ) (r : ℕ) → is_under ids r new ≡ true → (held : List ℕ) × (with_one (in_rows rows) list.master row tuple list.master r held ≡ true) × (ids_at held list.columns ≡ ids)
            → (held : List ℕ) × (in_rows rows list.master r held ≡ true) × (ids_at held list.columns ≡ ids)
        by ids r under (held, named, key) = of_which (which (in_rows rows) list.master row tuple list.master r held named)
          where
            of_which : Which (in_rows rows list.master r held ≡ true) row tuple r held → (kept : List ℕ) × (in_rows rows list.master r kept ≡ true) × (ids_at kept list.columns ≡ ids)
            of_which (that is_held) = (held, is_held, key)
            of_which (this row_is tuple_is) =
                let gone = sym (taken ids r) ∙ under in
                let test : (r == row) ≡ true = grind (arith, nat_tests, row_is) in
                let same_key : bytes_eq ids (ids_at tuple list.columns) ≡ true = (bytes_eq-Decides ids (ids_at tuple list.columns)).1 (sym key ∙ ap (λ xs. ids_at xs list.columns) tuple_is) in
                absurd (true≢false (sym gone ∙ grind (arith, test, same_key)))

    -- the row's tuple in the tables has the key too
    pub stays_under : (left : List ℕ) → finite.get rows (list.master, row) ≡ Some left → ids_at left list.columns ≡ ids_at tuple list.columns → IsOver (in_rows rows) list old
    stays_under left got key = record {
      there = is.there;
      known = λ ids r under. by ids r (is.known ids r under);
      alike = is.alike;
    }
      where
        by : (ids : List ℕ) (r : ℕ) → (held : List ℕ) × (with_one (in_rows rows) list.master row tuple list.master r held ≡ true) × (ids_at held list.columns ≡ ids)
            → (held : List ℕ) × (in_rows rows list.master r held ≡ true) × (ids_at held list.columns ≡ ids)
        by ids r (held, named, is_key) = of_which (which (in_rows rows) list.master row tuple list.master r held named)
          where
            of_which : Which (in_rows rows list.master r held ≡ true) row tuple r held → (kept : List ℕ) × (in_rows rows list.master r kept ≡ true) × (ids_at kept list.columns ≡ ids)
            of_which (that is_held) = (held, is_held, is_key)
            of_which (this row_is tuple_is) = (left, is_named rows list.master r left (ap (λ n. finite.get rows (list.master, n)) row_is ∙ got), key ∙ sym (ap (λ xs. ids_at xs list.columns) tuple_is) ∙ is_key)
