-- What a change at one list of pattern values makes of the rows with each.
use Rattle.std.proofs.Common.{◌≡◌, ℕ, Bool, true, false, cond, not, ◌&&◌, ◌||◌, List, [], ◌∷◌, length, slice_get, Option, Some, None, Result, Ok, Err, refl, sym, ap, ◌∙◌, OnOk, OnErr, IfOk}
use Rattle.std.specs.Prelude.{◌==◌}
use Rattle.std.specs.declared.vec.Vec.{Vec}
use Rattle.std.specs.declared.alloc.Global.{Global}
use Rattle.std.specs.Option.{option_map_or}
use Rattle.std.specs.Ordering.{nat_cmp, is_eq}
use Rattle.std.specs.Cmp.Lexicographic.{slice_cmp}
use Rattle.std.specs.Map.{KeepsOthers, lookup}
use Rattle.std.specs.Str.{bytes_eq}
use Rattle.std.proofs.lemmas.Map.Text.{is_eq-slice_cmp}
use Rattle.std.proofs.lemmas.Option.{same_Some}
use Rattle.std.proofs.lemmas.Slice.Eq.{bytes_eq-Decides}
use Rattle.cind_index.specs.declared.row_set.RowSet.{RowSet}
use Rattle.cind_index.specs.RowsHeld.{Patterns, rows_for, in_map, is_in, IsMore, IsLess, IsSame}

-- ---- results

pub on_ok : {A E P Q : Type 0} (r : Result A E) → (P → Q) → OnOk r P → OnOk r Q
on_ok (Ok v) f p = f p
on_ok (Err e) f p = tt

pub on_err : {A E P Q : Type 0} (r : Result A E) → (P → Q) → OnErr r P → OnErr r Q
on_err (Ok v) f p = tt
on_err (Err e) f p = f p

pub if_ok : {A E : Type 0} (P Q : A → Type 0) (r : Result A E) → ((v : A) → P v → Q v) → IfOk r P → IfOk r Q
if_ok P Q (Ok v) f p = f v p
if_ok P Q (Err e) f p = tt

-- ---- lists of ids

pub equal_lists : (xs ys : List ℕ) → bytes_eq xs ys ≡ true → xs ≡ ys
equal_lists xs ys e = (bytes_eq-Decides xs ys).0 e

pub same_list : (xs : List ℕ) → bytes_eq xs xs ≡ true
same_list xs = (bytes_eq-Decides xs xs).1 refl

pub flip_lists : (xs ys : List ℕ) → bytes_eq xs ys ≡ bytes_eq ys xs
flip_lists xs ys = by (bytes_eq xs ys) (bytes_eq ys xs) refl refl
  where
    by : (a b : Bool) → bytes_eq xs ys ≡ a → bytes_eq ys xs ≡ b → bytes_eq xs ys ≡ bytes_eq ys xs
    by true b e f = e ∙ sym ((bytes_eq-Decides ys xs).1 (sym (equal_lists xs ys e)))
    by false true e f = absurd (let same : bytes_eq xs ys ≡ true = (bytes_eq-Decides xs ys).1 (sym (equal_lists ys xs f)) in cc)
    by false false e f = e ∙ sym f

-- ---- the rows with each list of pattern values, once those with one are others

pub rows_updated : (old new : Patterns) (pattern : List ℕ) (now : Option RowSet) → rows_for new pattern ≡ now
    → KeepsOthers (λ (x y : Vec ℕ Global). is_eq (slice_cmp nat_cmp x.items y.items)) (λ (k : Vec ℕ Global). is_eq (slice_cmp nat_cmp pattern k.items)) old.entries new.entries
    → (ids : List ℕ) → rows_for new ids ≡ cond (bytes_eq ids pattern) now (rows_for old ids)
unfolding KeepsOthers
rows_updated old new pattern now at others ids = by (bytes_eq ids pattern) refl
  where
    by : (b : Bool) → bytes_eq ids pattern ≡ b → rows_for new ids ≡ cond b now (rows_for old ids)
    by true e = ap (rows_for new) (equal_lists ids pattern e) ∙ at
    by false e = others (λ (k : Vec ℕ Global). is_eq (slice_cmp nat_cmp ids k.items))
        (λ x y is. ap (λ xs. is_eq (slice_cmp nat_cmp xs y.items)) (equal_lists ids x.items (sym (is_eq-slice_cmp ids x.items) ∙ is)))
        (λ k is. is_eq-slice_cmp ids k.items ∙ ap (bytes_eq ids) (sym (equal_lists pattern k.items (sym (is_eq-slice_cmp pattern k.items) ∙ is))) ∙ e)

-- whether a row is among rows that may be missing
abbrev pub among : Option RowSet → ℕ → Bool
among rows other = option_map_or (λ rows. is_in rows other) rows false

module _ (old new : Patterns) (pattern : List ℕ) (row : ℕ) (was now : Option RowSet) (at : rows_for old pattern ≡ was) (updated : (ids : List ℕ) → rows_for new ids ≡ cond (bytes_eq ids pattern) now (rows_for old ids)) where
  changed : (test : Bool → ℕ → Bool → Bool) → ((ids : List ℕ) (other : ℕ) → bytes_eq ids pattern ≡ true → among now other ≡ test true other (among was other)) → ((other : ℕ) (b : Bool) → b ≡ test false other b)
      → (ids : List ℕ) (other : ℕ) → in_map new ids other ≡ test (bytes_eq ids pattern) other (in_map old ids other)
  changed test here beside ids other = by (bytes_eq ids pattern) refl
    where
      by : (b : Bool) → bytes_eq ids pattern ≡ b → in_map new ids other ≡ test b other (in_map old ids other)
      by true e =
          ap (λ rows. among rows other) (updated ids ∙ ap (λ b. cond b now (rows_for old ids)) e) ∙ here ids other e
          ∙ ap (λ rows. test true other (among rows other)) (sym (ap (rows_for old) (equal_lists ids pattern e) ∙ at))
      by false e = ap (λ rows. among rows other) (updated ids ∙ ap (λ b. cond b now (rows_for old ids)) e) ∙ beside other (in_map old ids other)

  pub one_more : ((other : ℕ) → among now other ≡ (other == row || among was other)) → IsMore pattern row (in_map old) (in_map new)
  one_more here = changed (λ b other held. (b && other == row) || held) (λ ids other e. here other) (λ other held. refl)

  pub one_less : ((other : ℕ) → among now other ≡ (not (other == row) && among was other)) → IsLess pattern row (in_map old) (in_map new)
  one_less here = changed (λ b other held. not (b && other == row) && held) (λ ids other e. here other) (λ other held. refl)

  pub as_many : ((other : ℕ) → among now other ≡ among was other) → IsSame (in_map old) (in_map new)
  as_many here = changed (λ b other held. held) (λ ids other e. here other) (λ other held. refl)

  pub beside_same : (ids : List ℕ) → bytes_eq ids pattern ≡ false → rows_for new ids ≡ rows_for old ids
  beside_same ids e = updated ids ∙ ap (λ b. cond b now (rows_for old ids)) e

-- a map with one list of pattern values more, in a map that had none but the row
pub beside_held : (old new : Patterns) (held pattern : List ℕ) (rows : RowSet) (row : ℕ) → bytes_eq pattern held ≡ false → ((ids : List ℕ) (other : ℕ) → in_map old ids other ≡ (bytes_eq ids pattern && other == row))
    → ((ids : List ℕ) → rows_for new ids ≡ cond (bytes_eq ids held) (Some rows) (rows_for old ids))
    → (ids : List ℕ) (other : ℕ) → in_map new ids other ≡ ((bytes_eq ids pattern && other == row) || (bytes_eq ids held && is_in rows other))
beside_held old new held pattern rows row apart had updated ids other = by (bytes_eq ids held) refl
  where
    or_false : (b : Bool) → b ≡ (b || false)
    or_false true = refl
    or_false false = refl

    by : (b : Bool) → bytes_eq ids held ≡ b → in_map new ids other ≡ ((bytes_eq ids pattern && other == row) || (b && is_in rows other))
    by true e =
        let not_pattern : bytes_eq ids pattern ≡ false = ap (λ xs. bytes_eq xs pattern) (equal_lists ids held e) ∙ flip_lists held pattern ∙ apart in
        ap (λ found. among found other) (updated ids ∙ ap (λ b. cond b (Some rows) (rows_for old ids)) e) ∙ sym (ap (λ b. (b && other == row) || is_in rows other) not_pattern)
    by false e = ap (λ found. among found other) (updated ids ∙ ap (λ b. cond b (Some rows) (rows_for old ids)) e) ∙ had ids other ∙ or_false (bytes_eq ids pattern && other == row)

-- a map with one list of pattern values
pub one_held : (es : List (Vec ℕ Global × RowSet)) (patterns : Patterns) (key : Vec ℕ Global) (rows : RowSet) → patterns.entries ≡ es → length es ≡ 1 → slice_get es 0 ≡ Some (key, rows)
    → (ids : List ℕ) (other : ℕ) → in_map patterns ids other ≡ (bytes_eq ids key.items && is_in rows other)
one_held [] patterns key rows is one at ids other = absurd (cc)
one_held (e ∷ f ∷ es) patterns key rows is one at ids other = absurd (cc)
one_held (e ∷ []) patterns key rows is one at ids other =
    ap (λ es. among (lookup (λ (k : Vec ℕ Global). is_eq (slice_cmp nat_cmp ids k.items)) es) other) (is ∙ ap (λ e. e ∷ []) (same_Some e (key, rows) at))
    ∙ ap (λ b. among (cond b (Some rows) None) other) (is_eq-slice_cmp ids key.items) ∙ chosen (bytes_eq ids key.items)
  where
    chosen : (b : Bool) → among (cond b (Some rows) None) other ≡ (b && is_in rows other)
    chosen true = refl
    chosen false = refl

-- rows of which none is left go away with their pattern values
pub last_less : (old mid new : Patterns) (pattern : List ℕ) (row : ℕ) → ((other : ℕ) → (not (other == row) && in_map old pattern other) ≡ false) → ((ids : List ℕ) → bytes_eq ids pattern ≡ false → rows_for mid ids ≡ rows_for old ids)
    → ((ids : List ℕ) → rows_for new ids ≡ cond (bytes_eq ids pattern) None (rows_for mid ids)) → IsLess pattern row (in_map old) (in_map new)
last_less old mid new pattern row none others updated ids other = by (bytes_eq ids pattern) refl
  where
    by : (b : Bool) → bytes_eq ids pattern ≡ b → in_map new ids other ≡ (not (b && other == row) && in_map old ids other)
    by true e =
        ap (λ found. among found other) (updated ids ∙ ap (λ b. cond b None (rows_for mid ids)) e)
        ∙ sym (none other) ∙ ap (λ xs. not (other == row) && in_map old xs other) (sym (equal_lists ids pattern e))
    by false e = ap (λ found. among found other) (updated ids ∙ ap (λ b. cond b None (rows_for mid ids)) e ∙ others ids e)
