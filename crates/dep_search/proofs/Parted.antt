-- The leaders by the parts of a left side.
use Rattle.std.proofs.Common.{◌≡◌, ℕ, zero, suc, ◌<◌, ◌+◌, ◌-◌, drop, drop-cons, subst, not, leb, cond, length-append, ⊎_elim, Bool, true, false, ◌||◌, ◌&&◌, List, [], ◌∷◌, ◌++◌, length, replicate, get_or, eqb, refl, sym, ap, ◌∙◌, arith}
use Rattle.std.specs.Prelude.{All, slice_index, slice_index_or, nat_eq}
use Rattle.std.proofs.lemmas.Bool.{and_from, cases_Bool, cases_eq, cond-true, eq-eqb, eqb-true, ne_eqb}
use Rattle.std.proofs.Math.ListN.{get_or-append}
use Rattle.std.proofs.Math.Seq.{get_or-append_seam}
use Rattle.dep_search.specs.Counting.{gathered, tally}
use Rattle.dep_search.specs.Rows.{Row, agree}
use Rattle.dep_search.specs.Found.{settles, determines, is_first, has_support}
use Rattle.dep_search.specs.Leaders.{AreWithin, AreColumns, Tells, AreLeaders}
use Rattle.dep_search.specs.Classes.{is_alike}
use Rattle.dep_search.specs.Settled.{IsSettled, IsToldBy, large, leads_of, IsLeader}
use Rattle.dep_search.specs.declared.settled.Settled.{Settled}
use Rattle.std.proofs.lemmas.List.{get_or_read}
use Rattle.dep_search.proofs.Told.{settles_at, all_alike}
use Rattle.dep_search.proofs.Counted.{tally-congr, every-all, every-at, every-none, same_bool}
use Rattle.dep_search.proofs.Known.{leads_are}

-- all rows agree on no attribute, so the first leads them
pub no_attrs : (rows : List Row) (n : ℕ) → n ≡ length rows → AreLeaders rows [] (replicate n 0)
no_attrs rows n e = record {
  tells = record {
    long = long n ∙ e;
    same = λ r s rl sl. sym (eq-eqb (slice_index (replicate n 0) r) (slice_index (replicate n 0) s) (zeros n r ∙ sym (zeros n s)));
  };
  below = λ r rl. omega (arith, zeros n r);
  own = λ r rl. zeros n (slice_index (replicate n 0) r) ∙ sym (zeros n r);
}
  where
    long : (n : ℕ) → length (replicate {A = ℕ} n 0) ≡ n
    long zero = refl
    long (suc n) = ap suc (long n)

    zeros : (n r : ℕ) → slice_index (replicate n 0) r ≡ 0
    zeros zero r = refl
    zeros (suc n) zero = refl
    zeros (suc n) (suc r) = zeros n r

-- a row is the first of those that agree with it exactly where it leads itself
pub first_leads : (rows : List Row) (x : List ℕ) (leaders : List ℕ) (r : ℕ) → AreLeaders rows x leaders → r < length rows
    → is_first rows x r ≡ eqb (slice_index leaders r) r
unfolding is_first
first_leads rows x leaders r led rl =
    ⊎_elim
    (λ (e : slice_index leaders r ≡ r).
    every-all (λ s. not (agree rows x s r)) r (λ s sl.
    let apart : eqb (slice_index leaders s) (slice_index leaders r) ≡ false =
    ne_eqb (slice_index leaders s) (slice_index leaders r) (λ same. absurd (omega (arith, led.below s (omega arith)))) in
    ap not (led.tells.same s r (omega arith) rl ∙ apart)) ∙ sym (eq-eqb (slice_index leaders r) r e))
    (λ (ne : slice_index leaders r ≡ r → ⊥).
    let first = slice_index leaders r in
    let before : first < r = omega (arith, led.below r rl, ne) in
    every-none (λ s. not (agree rows x s r)) r first before
    (ap not (led.tells.same first r (omega arith) rl ∙ eq-eqb (slice_index leaders first) first (led.own r rl)))
    ∙ sym (ne_eqb first r ne))
    (cases_eq (slice_index leaders r) r)

-- as many rows agree with a row as its leader leads
pub leads_support : (rows : List Row) (x : List ℕ) (leaders : List ℕ) (support r size : ℕ) → AreLeaders rows x leaders → r < length rows
    → size ≡ tally (λ s. nat_eq (slice_index leaders r) (slice_index leaders s)) (length rows)
    → has_support rows support x r ≡ leb support size
unfolding has_support
leads_support rows x leaders support r size led rl e =
    ap (leb support) (tally-congr (λ s. agree rows x r s) (λ s. eqb (slice_index leaders r) (slice_index leaders s)) (length rows) (λ s sl. led.tells.same r s rl sl) ∙ sym e)

-- leaders are places, and there is one for each row
pub leaders_within : (rows : List Row) (x : List ℕ) (leaders : List ℕ) → AreLeaders rows x leaders → AreWithin leaders
leaders_within rows x leaders led = λ r rl. omega (arith, led.below r (omega (arith, led.tells.long)), led.tells.long, rl)

-- the column of an attribute, as it is lent, tells the rows apart there
pub lent_tells : (rows : List Row) (columns : List (List ℕ)) (a : ℕ) (column lent : List ℕ) → AreColumns rows (length columns) columns → a < length columns
    → column ≡ get_or columns a column → lent ≡ get_or columns a column → Tells rows (a ∷ []) lent
lent_tells rows columns a column lent are al is lent_is = subst (Tells rows (a ∷ [])) (sym (get_or_read columns a column al is []) ∙ is ∙ sym lent_is) (are.each a al)

-- ---- the first rows of classes with support

gathered-same : {A : Type 0} (f g : ℕ → List A) (n : ℕ) → ((k : ℕ) → k < n → f k ≡ g k) → gathered f n ≡ gathered g n
gathered-same f g zero same = refl
gathered-same f g (suc n) same =
    let before = gathered-same f g n (λ k l. same k (omega (arith, l))) in
    let here = same n (omega arith) in
    λ i. before i ++ here i

lead_test : (rows : List Row) (support : ℕ) (x leaders sizes : List ℕ) (r : ℕ) → AreLeaders rows x leaders → r < length rows
    → slice_index sizes r ≡ tally (λ s. nat_eq r (slice_index leaders s)) (length leaders)
    → (eqb (slice_index leaders r) r && leb support (slice_index sizes r)) ≡ (is_first rows x r && has_support rows support x r)
lead_test rows support x leaders sizes r led rl size =
    let first = first_leads rows x leaders r led rl in
    ⊎_elim
    (λ (e : slice_index leaders r ≡ r).
    let far : length leaders ≡ length rows = led.tells.long in
    let many = leads_support rows x leaders support r (slice_index sizes r) led rl (size ∙ (λ i. tally (λ s. nat_eq (sym e i) (slice_index leaders s)) (far i))) in
    λ i. sym first i && sym many i)
    (λ (ne : slice_index leaders r ≡ r → ⊥).
    let no = ne_eqb (slice_index leaders r) r ne in
    (λ i. no i && leb support (slice_index sizes r)) ∙ sym (λ i. (first ∙ no) i && has_support rows support x r))
    (cases_eq (slice_index leaders r) r)

pub large_lead : (rows : List Row) (support : ℕ) (x leaders sizes : List ℕ) → AreLeaders rows x leaders
    → ((first : ℕ) → first < length leaders → slice_index sizes first ≡ tally (λ r. nat_eq first (slice_index leaders r)) (length leaders))
    → large leaders sizes support ≡ leads_of rows support x
large_lead rows support x leaders sizes led each =
    let far : length leaders ≡ length rows = led.tells.long in
    ap (gathered (λ r. cond (eqb (slice_index leaders r) r && leb support (slice_index sizes r)) (r ∷ []) [])) far
    ∙ gathered-same _ _ (length rows) (λ r rl. ap (λ b. cond b (r ∷ []) []) (lead_test rows support x leaders sizes r led rl (each r (omega (arith, far, rl)))))

in_gathered : (p : ℕ → Bool) (n f : ℕ) → f < n → p f ≡ true
    → (k : ℕ) × (k < length (gathered (λ r. cond (p r) (r ∷ []) []) n)) × (get_or (gathered (λ r. cond (p r) (r ∷ []) []) n) k 0 ≡ f)
in_gathered p zero f fl e = absurd (omega (arith, fl))
in_gathered p (suc n) f fl e =
    let front = gathered (λ r. cond (p r) (r ∷ []) []) n in
    ⊎_elim
    (λ (here : f ≡ n).
    let one : cond (p n) (n ∷ []) [] ≡ n ∷ [] = cond-true _ _ _ (ap p (sym here) ∙ e) in (
      length front,
      omega (arith, ap length one, length-append front (cond (p n) (n ∷ []) [])),
      ap (λ back. get_or (front ++ back) (length front) 0) one ∙ get_or-append_seam front n [] 0 ∙ sym here,
    ))
    (λ (ne : f ≡ n → ⊥).
    let (k, kl, g) = in_gathered p n f (omega (arith, fl, ne)) e in
    (k, omega (arith, kl, length-append front (cond (p n) (n ∷ []) [])), get_or-append front (cond (p n) (n ∷ []) []) 0 k kl ∙ g))
    (cases_eq f n)

leader_leads : (rows : List Row) (support : ℕ) (x leaders : List ℕ) (r : ℕ) → AreLeaders rows x leaders → r < length rows → has_support rows support x r ≡ true
    → (k : ℕ) × (k < length (leads_of rows support x)) × (get_or (leads_of rows support x) k 0 ≡ slice_index leaders r)
leader_leads rows support x leaders r led rl many =
    let f = slice_index leaders r in
    let fl : f < length rows = omega (arith, led.below r rl, rl) in
    let own = led.own r rl in
    let size = tally (λ s. nat_eq (slice_index leaders r) (slice_index leaders s)) (length rows) in
    let first : is_first rows x f ≡ true = first_leads rows x leaders f led fl ∙ eq-eqb (slice_index leaders f) f own in
    let as_many : has_support rows support x f ≡ true =
    leads_support rows x leaders support f size led fl (λ i. tally (λ s. nat_eq (sym own i) (slice_index leaders s)) (length rows))
    ∙ sym (leads_support rows x leaders support r size led rl refl) ∙ many in
    in_gathered (λ r. is_first rows x r && has_support rows support x r) (length rows) f fl (and_from (is_first rows x f) (has_support rows support x f) first as_many)

-- what is told of leaders is so of rows
pub settled_rows : (rows : List Row) (support : ℕ) (x leaders : List ℕ) (a : ℕ) (ids list : List ℕ) (settled : Settled) → AreLeaders rows x leaders
    → Tells rows (a ∷ []) ids → list ≡ leads_of rows support x → IsToldBy leaders list ids settled → IsSettled rows support x a settled
unfolding determines
settled_rows rows support x leaders a ids list settled led at e told =
    let all = told.all ∙ all_alike rows x a leaders ids led at in
    record {
      all = all;
      each = λ r rl many.
          let far : length leaders ≡ length rows = led.tells.long in
          let here = settles_at rows x a leaders ids led at r rl in
          ⊎_elim
          (λ (yes : settled.all ≡ true).
          (λ i. yes i || slice_index_or settled.flags r false)
          ∙ sym (every-at (settles rows x a) (length rows) r (sym all ∙ yes) rl))
          (λ (no : settled.all ≡ false).
          let flags = told.flags no in
          (λ i. no i || slice_index_or settled.flags r false)
          ∙ same_bool (slice_index_or settled.flags r false) (settles rows x a r)
          (λ flag. sym here ∙ flags.sound r (omega (arith, far, rl)) flag)
          (λ settle. let (k, kl, g) = leader_leads rows support x leaders r led rl many in
          let lead : slice_index list k ≡ slice_index leaders r = ap (λ l. get_or l k 0) e ∙ g in
          flags.complete k r (omega (arith, kl, ap length e)) (omega (arith, far, rl)) (sym lead) (ap (is_alike leaders ids) lead ∙ here ∙ settle)))
          (cases_Bool settled.all);
    }

pub leads_lead : (rows : List Row) (support : ℕ) (x leaders : List ℕ) → AreLeaders rows x leaders → All (IsLeader leaders) (leads_of rows support x)
leads_lead rows support x leaders led = λ k d kl.
    let lead = leads_are rows support x k d kl in
    let r = get_or (leads_of rows support x) k d in
    (omega (arith, lead.row, led.tells.long), eqb-true (slice_index leaders r) r (sym (first_leads rows x leaders r led lead.row) ∙ lead.first))

-- what holds of each and of one more behind them
pub settled_more : (P : ℕ → Settled → Type 0) (xs : List Settled) (x : Settled) (n : ℕ) → length xs ≡ n → ((a : ℕ) (d : Settled) → a < n → P a (get_or xs a d)) → P n x
    → (a : ℕ) (d : Settled) → a < n + 1 → P a (get_or (xs ++ x ∷ []) a d)
settled_more P xs x n long each here a d al =
    ⊎_elim
    (λ (e : a ≡ n).
    let last : get_or (xs ++ x ∷ []) a d ≡ x = ap (λ k. get_or (xs ++ x ∷ []) k d) (e ∙ sym long) ∙ get_or-append_seam xs x [] d in
    subst (P a) (sym last) (subst (λ k. P k x) (sym e) here))
    (λ (ne : a ≡ n → ⊥). subst (P a) (sym (get_or-append xs (x ∷ []) d a (omega (arith, al, ne, long)))) (each a d (omega (arith, al, ne))))
    (cases_eq a n)

-- a list from one place further back
pub drop_back : (x : List ℕ) (i : ℕ) → i < length x → drop (length x - (i + 1)) x ≡ get_or x (length x - 1 - i) 0 ∷ drop (length x - i) x
drop_back x i l =
    let j : length x - (i + 1) ≡ length x - 1 - i = omega arith in
    let k : suc (length x - 1 - i) ≡ length x - i = omega arith in
    ap (λ m. drop m x) j ∙ drop-cons x (length x - 1 - i) 0 (omega arith) ∙ ap (λ m. get_or x (length x - 1 - i) 0 ∷ drop m x) k
