-- What is kept beside the entries, where one is taken back and where another one comes.
use Rattle.std.proofs.Common.{◌≡◌, ℕ, zero, suc, ◌<◌, ◌≤◌, ◌==◌, ◌&&◌, ◌||◌, not, Bool, true, false, List, [], ◌∷◌, ◌++◌, All, length, Option, Some, None, option_map, is_none, nat_eq, if◌then◌else◌, slice_get, refl, sym, ◌∙◌, ap, subst, arith, true≢false}
use Rattle.std.proofs.lemmas.Option.{slice_get-map}
use Rattle.std.proofs.lemmas.List.{length-map}
use Rattle.std.proofs.Math.Bool.{and-true, or-false}
use Rattle.std.proofs.lemmas.Bool.{ne_eqb, eqb-true}
use Rattle.std.proofs.lemmas.Slice.Eq.{bytes_eq-Decides}
use Rattle.std.specs.Str.{bytes_eq}
use Rattle.std.proofs.lemmas.List.Elements.{All-head, All-tail, All-push, All-weaker}
use Rattle.std.specs.Option.{option_map_or, IfSome}
use Rattle.std.specs.List.{list_any}
use Rattle.std.proofs.lemmas.List.Folds.{list_any-append}
use Rattle.desk_entries.specs.declared.entries.Kept.{Kept}
use Rattle.desk_entries.specs.Entries.{Entry, entry_at, entry_is, is_deletion, is_live, is_on, is_taken_back, takes_back, takes_none}
use Rattle.desk_entries.specs.Numbers.{last_up_to}
use Rattle.desk_entries.specs.Kept.{AreRowsTied, IsChain, RowKey, TakeWithin, entries_kept, entry_kept, entry_new, firm_below, is_held, kept_new, on_row, same_row, tops_noted}
use Rattle.desk_entries.proofs.Numbers.{last-same, last-hit, last-miss}
use Rattle.desk_entries.proofs.Chains.{counted, chain-pushed}
use Rattle.desk_entries.specs.declared.entries.NewEntry.{NewEntry}
use Rattle.desk_entries.specs.declared.entries.RowTops.{RowTops}

-- ---- entries by number

pub entry-kept : (list : List Kept) (place number : ℕ) → number ≡ suc place → entry_at (entries_kept list) number ≡ option_map entry_kept (slice_get list place)
entry-kept list place number e = rw e (slice_get-map entry_kept list place)

module _ {X : Type 0} where
  pub slice_get-old : (xs ys : List X) (k : ℕ) → k < length xs → slice_get (xs ++ ys) k ≡ slice_get xs k
  slice_get-old [] ys k w = absurd (omega arith)
  slice_get-old (x ∷ xs) ys zero w = refl
  slice_get-old (x ∷ xs) ys (suc k) w = slice_get-old xs ys k (omega arith)

  pub slice_get-new : (xs : List X) (y : X) → slice_get (xs ++ y ∷ []) (length xs) ≡ Some y
  slice_get-new [] y = refl
  slice_get-new (x ∷ xs) y = slice_get-new xs y

pub length-snoc : {X : Type 0} (xs : List X) (x : X) → length (xs ++ x ∷ []) ≡ suc (length xs)
length-snoc [] x = refl
length-snoc (y ∷ xs) x = ap suc (length-snoc xs x)

pub entry_is-old : (test : Entry → Bool) (es : List Entry) (e : Entry) (m : ℕ) → suc m ≤ length es → entry_is test (es ++ e ∷ []) (suc m) ≡ entry_is test es (suc m)
entry_is-old test es e m w = ap (λ o. option_map_or test o false) (slice_get-old es (e ∷ []) m (omega arith))

pub entry_is-new : (test : Entry → Bool) (es : List Entry) (e : Entry) → entry_is test (es ++ e ∷ []) (suc (length es)) ≡ test e
entry_is-new test es e = ap (λ o. option_map_or test o false) (slice_get-new es e)

pub entry_is-at : (test : Entry → Bool) (es : List Entry) (m : ℕ) (e : Entry) → slice_get es m ≡ Some e → entry_is test es (suc m) ≡ test e
entry_is-at test es m e h = ap (λ o. option_map_or test o false) h

-- ---- live numbers, where another entry comes

-- no entry takes a number beyond the list
beyond : (limit number : ℕ) → limit < number → (taken : Option ℕ) → IfSome taken (λ n. n ≤ limit) → option_map_or (λ n. n == number) taken false ≡ false
beyond limit number above None h = refl
beyond limit number above (Some n) h = ne_eqb n number (λ e. omega arith)

pub untaken : (limit number : ℕ) → limit < number → (es : List Entry) → All (λ (e : Entry). IfSome e.takes (λ n. n ≤ limit)) es → list_any (takes_back number) es ≡ false
untaken limit number above [] within = refl
untaken limit number above (e ∷ es) within =
    let P : Entry → Type 0 = λ e. IfSome e.takes (λ n. n ≤ limit) in
    rw (beyond limit number above e.takes (All-head P e es within), untaken limit number above es (All-tail P e es within)) refl

module _ (es : List Entry) (e : Entry) where
  pub taken-old : (number : ℕ) → is_taken_back (es ++ e ∷ []) number ≡ (is_taken_back es number || takes_back number e)
  taken-old number = list_any-append (takes_back number) es (e ∷ []) ∙ ap (λ b. is_taken_back es number || b) (or-false (takes_back number e))

  pub live-old : (m : ℕ) → suc m ≤ length es → is_live (es ++ e ∷ []) (suc m) ≡ (is_live es (suc m) && not (takes_back (suc m) e))
  live-old m w = rw (entry_is-old takes_none es e m w, taken-old (suc m)) (split (entry_is takes_none es (suc m)) (is_taken_back es (suc m)) (takes_back (suc m) e))
    where
      split : (a b c : Bool) → (a && not (b || c)) ≡ (a && not b && not c)
      split true true c = refl
      split true false c = refl
      split false b c = refl

  pub live-new : TakeWithin es → IfSome e.takes (λ n. n ≤ length es) → is_live (es ++ e ∷ []) (suc (length es)) ≡ takes_none e
  live-new within own =
      let none : is_taken_back es (suc (length es)) ≡ false = untaken (length es) (suc (length es)) (omega arith) es within in
      let not-own : takes_back (suc (length es)) e ≡ false = beyond (length es) (suc (length es)) (omega arith) e.takes own in
      rw (entry_is-new takes_none es e, taken-old (suc (length es)), none, not-own) (and-true (takes_none e))

  pub take-within : TakeWithin es → IfSome e.takes (λ n. n ≤ length es) → TakeWithin (es ++ e ∷ [])
  take-within within own =
      let P : Entry → Type 0 = λ e. IfSome e.takes (λ n. n ≤ length es) in
      let Q : Entry → Type 0 = λ x. IfSome x.takes (λ n. n ≤ length (es ++ e ∷ [])) in
      All-weaker P Q (λ x h. more x.takes h) (es ++ e ∷ []) (All-push P es e within own)
    where
      long : length (es ++ e ∷ []) ≡ suc (length es)
      long = length-snoc es e

      more : (taken : Option ℕ) → IfSome taken (λ n. n ≤ length es) → IfSome taken (λ n. n ≤ length (es ++ e ∷ []))
      more None h = h
      more (Some n) h = rw long (omega arith)

-- ---- what is kept, where one is taken back and where another comes

pub same-bytes : (a b : List ℕ) → bytes_eq a b ≡ true → a ≡ b
same-bytes a b h = (bytes_eq-Decides a b).0 h

pub entries-push : (list : List Kept) (k : Kept) → entries_kept (list ++ k ∷ []) ≡ entries_kept list ++ entry_kept k ∷ []
entries-push [] k = refl
entries-push (x ∷ list) k = ap (λ es. entry_kept x ∷ es) (entries-push list k)

pub entries-length : (list : List Kept) → length (entries_kept list) ≡ length list
entries-length list = length-map list entry_kept

pub below-old : (list : List Kept) (k : Kept) (f : Kept → ℕ) (m : ℕ) → suc m ≤ length (entries_kept list) → option_map_or f (slice_get (list ++ k ∷ []) m) 0 ≡ option_map_or f (slice_get list m) 0
below-old list k f m w =
    let v : suc m ≤ length list = rw (entries-length list) at w in
    ap (λ o. option_map_or f o 0) (slice_get-old list (k ∷ []) m (omega arith))

pub below-new : (list : List Kept) (k : Kept) (f : Kept → ℕ) → option_map_or f (slice_get (list ++ k ∷ []) (length (entries_kept list))) 0 ≡ f k
below-new list k f = rw (entries-length list) (ap (λ o. option_map_or f o 0) (slice_get-new list k))

pub same-pair : (key other : RowKey) → same_row key other ≡ true → (key.0 ≡ other.0) × (key.1 ≡ other.1)
same-pair key other h = by (nat_eq key.0 other.0) (nat_eq key.1 other.1) refl refl h
  where
    by : (a b : Bool) → nat_eq key.0 other.0 ≡ a → nat_eq key.1 other.1 ≡ b → (a && b) ≡ true → (key.0 ≡ other.0) × (key.1 ≡ other.1)
    by true true x y e = (eqb-true key.0 other.0 x, eqb-true key.1 other.1 y)
    by true false x y e = absurd (true≢false (sym e))
    by false b x y e = absurd (true≢false (sym e))

-- The rows, once an entry is appended, where `alive` is which of the entries before it are live, and `now` which ones are
-- then.
module _ (list : List Kept) (alive now : ℕ → Bool) (rows : RowKey → RowTops) (tied : AreRowsTied alive list rows) (new : NewEntry) (lb : ℕ) (next : RowKey → RowTops)
    (same : (m : ℕ) → suc m ≤ length (entries_kept list) → now (suc m) ≡ alive (suc m))
    (own : now (suc (length (entries_kept list))) ≡ is_none new.takes)
    (is : (key : RowKey) → next key ≡ (if same_row (new.table, new.row) key then tops_noted new (suc (length list)) (rows key) else rows key)) where
  abbrev es : List Entry
  es = entries_kept list

  abbrev e : Entry
  e = entry_new new

  abbrev len : ℕ
  len = length (entries_kept list)

  abbrev at : RowKey
  at = (new.table, new.row)

  abbrev k : Kept
  k = kept_new new lb (rows at).firm

  -- it is on this row or isn't
  next-on : (key : RowKey) → same_row at key ≡ true → next key ≡ tops_noted new (suc len) (rows key)
  next-on key h = is key ∙ (rw (h, entries-length list) refl)

  next-off : (key : RowKey) → same_row at key ≡ false → next key ≡ rows key
  next-off key h = is key ∙ (rw h refl)

  held-new : is_held (es ++ e ∷ []) now (suc len) ≡ (new.deletes || is_none new.takes)
  held-new = rw (entry_is-new is_deletion es e, own) refl

  firm-hit : (key : RowKey) → on_row (es ++ e ∷ []) key (suc len) ≡ true → is_held (es ++ e ∷ []) now (suc len) ≡ true → ((next key).firm ≡ suc len) × (firm_below (list ++ k ∷ []) len ≡ (rows key).firm)
  firm-hit key mem cnt =
      let on : same_row at key ≡ true = sym (entry_is-new (is_on key.0 key.1) es e) ∙ mem in
      let held : (new.deletes || is_none new.takes) ≡ true = sym held-new ∙ cnt in
      let pair = same-pair at key on in (
        ap (λ (t : RowTops). t.firm) (next-on key on) ∙ (rw held refl),
        below-new list k (λ (x : Kept). x.firm_below) ∙ (λ i. (rows (pair.0 i, pair.1 i)).firm),
      )

  firm-miss-on : (key : RowKey) → same_row at key ≡ true → (b : Bool) → (new.deletes || is_none new.takes) ≡ b → (same_row at key && b) ≡ false → (next key).firm ≡ (rows key).firm
  firm-miss-on key on true held miss = absurd (true≢false (sym (rw on refl) ∙ miss))
  firm-miss-on key on false held miss = ap (λ (t : RowTops). t.firm) (next-on key on) ∙ (rw held refl)

  firm-miss : (key : RowKey) (b : Bool) → same_row at key ≡ b → counted (on_row (es ++ e ∷ [])) (is_held (es ++ e ∷ []) now) key (suc len) ≡ false → (next key).firm ≡ (rows key).firm
  firm-miss key true on miss =
      let m : (same_row at key && (new.deletes || is_none new.takes)) ≡ false = rw (entry_is-new (is_on key.0 key.1) es e, held-new) at miss in
      firm-miss-on key on (new.deletes || is_none new.takes) refl m
  firm-miss key false off miss = ap (λ (t : RowTops). t.firm) (next-off key off)

  version-next : (key : RowKey) (b : Bool) → same_row at key ≡ b → (next key).version ≡ last_up_to (on_row (es ++ e ∷ []) key) (suc len)
  version-next key true on = ap (λ (t : RowTops). t.version) (next-on key on) ∙ sym (last-hit (on_row (es ++ e ∷ []) key) len (entry_is-new (is_on key.0 key.1) es e ∙ on))
  version-next key false off =
      ap (λ (t : RowTops). t.version) (next-off key off) ∙ tied.version key
      ∙ sym (last-same (on_row es key) (on_row (es ++ e ∷ []) key) len (λ m w. entry_is-old (is_on key.0 key.1) es e m w))
      ∙ sym (last-miss (on_row (es ++ e ∷ []) key) len (entry_is-new (is_on key.0 key.1) es e ∙ off))

  firm-next : IsChain (on_row (es ++ e ∷ [])) (is_held (es ++ e ∷ []) now) (suc len) (λ key. (next key).firm) (firm_below (list ++ k ∷ []))
  firm-next = chain-pushed (on_row es) len (λ key. (rows key).firm) (firm_below list) (is_held es alive) tied.firm
      (on_row (es ++ e ∷ [])) (is_held (es ++ e ∷ []) now) (λ key. (next key).firm) (firm_below (list ++ k ∷ []))
      (λ key m w. entry_is-old (is_on key.0 key.1) es e m w)
      (λ m w. (let a = entry_is-old is_deletion es e m w in λ i. a i || same m w i))
      (λ m w. below-old list k (λ (x : Kept). x.firm_below) m w)
      firm-hit
      (λ key miss. firm-miss key (same_row at key) refl miss)

  abbrev Tied : List Kept → List Entry → Type 0
  Tied l es2 = IsChain (on_row es2) (is_held es2 now) (length es2) (λ key. (next key).firm) (firm_below l) × ((key : RowKey) → (next key).version ≡ last_up_to (on_row es2 key) (length es2))

  pub rows-noted : AreRowsTied now (list ++ kept_new new lb (rows (new.table, new.row)).firm ∷ []) next
  rows-noted = let t : Tied (list ++ k ∷ []) (entries_kept (list ++ k ∷ [])) = (
      subst (Tied (list ++ k ∷ [])) (sym (entries-push list k))
      (subst (λ n. IsChain (on_row (es ++ e ∷ [])) (is_held (es ++ e ∷ []) now) n (λ key. (next key).firm) (firm_below (list ++ k ∷ [])) × ((key : RowKey) → (next key).version ≡ last_up_to (on_row (es ++ e ∷ []) key) n)) (sym (length-snoc es e)) (firm-next, λ key. version-next key (same_row at key) refl))) in record { firm = t.0; version = t.1 }
