-- Rows that have the same texts at attributes, at fewer of them, and how many rows there are.
use Rattle.std.proofs.Common.{◌≡◌, ℕ, zero, suc, ◌+◌, ◌<◌, ◌≤◌, Bool, true, false, not, cond, List, [], ◌∷◌, filter, take, length, All, get_or, refl, sym, ap, subst, ◌∙◌, arith, ⊎_elim}
use Rattle.std.specs.Prelude.{nat_le, slice_index_or}
use Rattle.std.specs.List.{count_by, list_all}
use Rattle.std.proofs.lemmas.Bool.{and_from, and_parts, cases_Bool, le-leb, leb-true, not-false}
use Rattle.std.proofs.lemmas.List.{take_all}
use Rattle.std.proofs.lemmas.List.Elements.{All-cons, All-head, All-nil, All-tail}
use Rattle.std.proofs.lemmas.List.Sums.{count_by_more_no, count_by_more_yes}
use Rattle.dep_search.specs.Counting.{every, tally}
use Rattle.dep_search.specs.Found.{is_first, is_short}
use Rattle.dep_search.specs.Rows.{Row, agree, row_at, texts}
use Rattle.dep_search.proofs.Counted.{every_fails}
use Rattle.dep_finder.proofs.Meaning.{agree_decides, text_at, texts_at}

-- ---- fewer attributes

heads : {t u : List ℕ} {ts us : List (List ℕ)} → t ∷ ts ≡ u ∷ us → t ≡ u
heads e = cc

tails : {t u : List ℕ} {ts us : List (List ℕ)} → t ∷ ts ≡ u ∷ us → ts ≡ us
tails e = cc

-- the same texts at some attributes are the same at fewer
pub same_on_kept : (row other : Row) (kept : ℕ → Bool) (x : List ℕ) → texts row x ≡ texts other x → texts row (filter kept x) ≡ texts other (filter kept x)
same_on_kept row other kept [] same = refl
same_on_kept row other kept (attr ∷ x) same =
    let here = heads same in
    let rest = same_on_kept row other kept x (tails same) in
    elim (kept attr) as (λ b. texts row (cond b (attr ∷ filter kept x) (filter kept x)) ≡ texts other (cond b (attr ∷ filter kept x) (filter kept x))) [
      | true ↦ λ i. here i ∷ rest i
      | false ↦ rest
    ]

-- short texts are short at fewer attributes
pub short_on_kept : (row : Row) (kept : ℕ → Bool) (x : List ℕ) → All (λ (text : List ℕ). length text ≤ 1024) (texts row x) → All (λ (text : List ℕ). length text ≤ 1024) (texts row (filter kept x))
short_on_kept row kept [] short = short
short_on_kept row kept (attr ∷ x) short =
    let Short = λ (text : List ℕ). length text ≤ 1024 in
    let here = All-head Short (slice_index_or row attr []) (texts row x) short in
    let rest = short_on_kept row kept x (All-tail Short (slice_index_or row attr []) (texts row x) short) in
    elim (kept attr) as (λ b. All (λ (text : List ℕ). length text ≤ 1024) (texts row (cond b (attr ∷ filter kept x) (filter kept x)))) [
      | true ↦ λ k d kl. by k d kl here rest
      | false ↦ rest
    ]
  where
    by : (k : ℕ) (d : List ℕ) → k < length (slice_index_or row attr [] ∷ texts row (filter kept x)) → length (slice_index_or row attr []) ≤ 1024
        → All (λ (text : List ℕ). length text ≤ 1024) (texts row (filter kept x)) → length (get_or (slice_index_or row attr [] ∷ texts row (filter kept x)) k d) ≤ 1024
    by zero d kl here rest = here
    by (suc k) d kl here rest = rest k d (omega arith)

pub short_test : (rows : List Row) (r : ℕ) (x : List ℕ) → All (λ (text : List ℕ). length text ≤ 1024) (texts_at rows r x) → is_short rows x r ≡ true
unfolding is_short
short_test rows r [] short = refl
short_test rows r (attr ∷ x) short =
    let Short = λ (text : List ℕ). length text ≤ 1024 in
    and_from (nat_le (length (text_at rows r attr)) 1024) (list_all (λ attr. nat_le (length (text_at rows r attr)) 1024) x)
    (le-leb (length (text_at rows r attr)) 1024 (All-head Short (text_at rows r attr) (texts_at rows r x) short))
    (short_test rows r x (All-tail Short (text_at rows r attr) (texts_at rows r x) short))

pub short_texts : (rows : List Row) (r : ℕ) (x : List ℕ) → is_short rows x r ≡ true → All (λ (text : List ℕ). length text ≤ 1024) (texts_at rows r x)
unfolding is_short
short_texts rows r [] e = All-nil (λ (text : List ℕ). length text ≤ 1024)
short_texts rows r (attr ∷ x) e =
    let parts = and_parts (nat_le (length (text_at rows r attr)) 1024) (list_all (λ attr. nat_le (length (text_at rows r attr)) 1024) x) e in
    All-cons (λ (text : List ℕ). length text ≤ 1024) (text_at rows r attr) (texts_at rows r x) (leb-true (length (text_at rows r attr)) 1024 parts.0) (short_texts rows r x parts.1)

-- ---- the first row with the same texts

pub record IsFirstOf (rows : List Row) (x : List ℕ) (last : ℕ) : Type 0 where
  pub r : ℕ
  pub above : r ≤ last
  pub same : texts_at rows r x ≡ texts_at rows last x
  pub first : is_first rows x r ≡ true

pub first_of : (rows : List Row) (x : List ℕ) (most last : ℕ) → last ≤ most → IsFirstOf rows x last
unfolding is_first
first_of rows x zero last le = record { r = last; above = omega arith; same = refl; first = ap (every (λ s. not (agree rows x s last))) (zero_of last le) }
  where
    zero_of : (n : ℕ) → n ≤ zero → n ≡ zero
    zero_of n le = omega arith
first_of rows x (suc most) last le =
    let before = λ (s : ℕ) (sl : s < last). first_of rows x most s (omega arith) in
    ⊎_elim (λ (first : every (λ s. not (agree rows x s last)) last ≡ true). record { r = last; above = omega arith; same = refl; first = first })
    (λ (none : every (λ s. not (agree rows x s last)) last ≡ false).
    let (s, sl, e) = every_fails (λ s. not (agree rows x s last)) last none in
    let there = before s sl in
    let same = (agree_decides rows x s last).0 (agreed (agree rows x s last) e) in
    record { r = there.r; above = omega (arith, there.above); same = there.same ∙ same; first = there.first })
    (cases_Bool (every (λ s. not (agree rows x s last)) last))
  where
    agreed : (b : Bool) → not b ≡ false → b ≡ true
    agreed b e = not-false b e

-- ---- how many rows

-- members that pass, by their places
count_front : (p : Row → Bool) (rows : List Row) (n : ℕ) → n ≤ length rows → count_by p (take n rows) ≡ tally (λ s. p (row_at rows s)) n
count_front p rows zero le = refl
count_front p rows (suc n) le =
    let before = count_front p rows n (omega arith) in
    let next : n + 1 ≡ suc n = omega arith in
    ap (λ (m : ℕ). count_by p (take m rows)) (sym next)
    ∙ ⊎_elim
    (λ (e : p (row_at rows n) ≡ true). count_by_more_yes p rows n [] (omega arith) e ∙ (λ i. before i + cond (e' e i) 1 0))
    (λ (e : p (row_at rows n) ≡ false). count_by_more_no p rows n [] (omega arith) e ∙ before ∙ plus_none (tally (λ s. p (row_at rows s)) n) (p (row_at rows n)) e)
    (cases_Bool (p (row_at rows n)))
  where
    e' : {b c : Bool} → b ≡ c → c ≡ b
    e' e = sym e

    plus_none : (n : ℕ) (b : Bool) → b ≡ false → n ≡ n + cond b 1 0
    plus_none n true e = absurd (cc)
    plus_none n false e = omega arith

pub count_rows : (p : Row → Bool) (rows : List Row) → count_by p rows ≡ tally (λ s. p (row_at rows s)) (length rows)
count_rows p rows = ap (count_by p) (sym (take_all (length rows) rows (omega arith))) ∙ count_front p rows (length rows) (omega arith)

pub tally_wider : (p q : ℕ → Bool) (n : ℕ) → ((k : ℕ) → k < n → p k ≡ true → q k ≡ true) → tally p n ≤ tally q n
tally_wider p q zero wider = omega arith
tally_wider p q (suc n) wider =
    let before = tally_wider p q n (λ k kl. wider k (omega arith)) in
    omega (arith, before, one (p n) (q n) (wider n (omega arith)))
  where
    one : (b c : Bool) → (b ≡ true → c ≡ true) → cond b 1 0 ≤ cond c 1 0
    one true c f = subst (λ (c : Bool). 1 ≤ cond c 1 0) (sym (f refl)) (omega arith)
    one false c f = omega arith

-- one that passes
pub tally_some : (p : ℕ → Bool) (n : ℕ) → 1 ≤ tally p n → (k : ℕ) × (k < n) × (p k ≡ true)
tally_some p zero some = absurd (omega arith)
tally_some p (suc n) some =
    let before = tally_some p n in
    ⊎_elim (λ (e : p n ≡ true). (n, omega arith, e))
    (λ (e : p n ≡ false). let (k, kl, passes) = before (omega (arith, some, nothing (p n) e)) in (k, omega arith, passes))
    (cases_Bool (p n))
  where
    nothing : (b : Bool) → b ≡ false → cond b 1 0 ≤ 0
    nothing true e = absurd (cc)
    nothing false e = omega arith
