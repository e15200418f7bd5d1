-- What pairs of rows that agree tell of what attributes determine.
use Rattle.std.proofs.Common.{◌≡◌, ℕ, zero, suc, ◌+◌, ◌<◌, ◌≤◌, Bool, true, false, not, ◌&&◌, ◌||◌, cond, List, [], ◌∷◌, ◌++◌, length, get_or, refl, sym, ap, subst, ◌∙◌, arith, ⊎_elim, length-append}
use Rattle.std.specs.Prelude.{All, None, nat_eq, slice_index}
use Rattle.std.specs.List.{list_any}
use Rattle.std.specs.Str.{bytes_eq}
use Rattle.std.proofs.lemmas.Bool.{and_parts, and_from, cases_Bool, cases_eq, cases_lt, eq-eqb, eqb-true, not-false, or_cases, or_left, or_parts, or_right, true≢false}
use Rattle.std.proofs.lemmas.List.Elements.{All-append, All-cons, All-nil}
use Rattle.std.proofs.lemmas.Option.{get_or_from_slice_get, slice_get_within}
use Rattle.std.proofs.lemmas.Slice.Eq.{bytes_eq-Decides}
use Rattle.dep_search.specs.Counting.{gathered}
use Rattle.dep_search.specs.Rows.{Row, row_at, agree}
use Rattle.dep_search.specs.Found.{constants_at, determines, found_at, is_plain, plain_at, settles}
use Rattle.dep_search.specs.Leaders.{AreLeaders, Tells}
use Rattle.dep_search.specs.Pairs.{HasAll, HasBehind, IsBelow, IsLed, IsPair, IsSample, IsSampleOf, is_among, is_apart, same_of}
use Rattle.dep_search.specs.declared.candidate.Candidate.{Candidate}
use Rattle.dep_search.specs.declared.pairs.Pair.{Pair}
use Rattle.dep_search.specs.declared.samples.Sample.{Sample}
use Rattle.dep_search.specs.declared.table.Table.{Table}
use Rattle.dep_search.proofs.Closed.{determines_more}
use Rattle.dep_search.proofs.Counted.{every-all, every-none, gathered_more, gathered_within}
use Rattle.dep_search.proofs.Kept.{found_outside}
use Rattle.dep_search.proofs.Known.{Covers}
use Rattle.dep_search.proofs.Told.{agree_more}

-- ---- pairs by classes are pairs by rows

pub led_pairs : (rows : List Row) (x leaders : List ℕ) (pairs : List Pair) → AreLeaders rows x leaders → All (IsLed leaders) pairs → All (IsPair rows x) pairs
led_pairs rows x leaders pairs led all = λ k d kl.
    let here = all k d kl in
    let one : (get_or pairs k d).one < length rows = omega (arith, here.below.0, led.tells.long) in
    let other : (get_or pairs k d).other < length rows = omega (arith, here.below.1, led.tells.long) in
    record {
      below = (one, other);
      same = led.tells.same (get_or pairs k d).one (get_or pairs k d).other one other ∙ eq-eqb _ _ here.same;
    }

pub led_all : (rows : List Row) (x leaders : List ℕ) (pairs : List Pair) → AreLeaders rows x leaders
    → ((r : ℕ) → r < length leaders → HasBehind leaders pairs r) → HasAll rows x pairs
led_all rows x leaders pairs led behind = λ r s rs sl e.
    let rl : r < length rows = omega (arith, rs, sl) in
    behind r (omega (arith, rl, led.tells.long)) s rs (omega (arith, sl, led.tells.long))
    (sym (eqb-true (slice_index leaders r) (slice_index leaders s) (sym (led.tells.same r s rl sl) ∙ e)))

pub pairs_below : (rows : List Row) (x : List ℕ) (pairs : List Pair) (n : ℕ) → n ≡ length rows → All (IsPair rows x) pairs → All (IsBelow n) pairs
pairs_below rows x pairs n e all = λ k d kl. let here = all k d kl in (omega (arith, here.below.0, e), omega (arith, here.below.1, e))

-- ---- those that have one id

same_all : (P Q : Pair → Type 0) (ids : List ℕ) (pairs : List Pair) → All P pairs
    → ((pair : Pair) → P pair → nat_eq (slice_index ids pair.one) (slice_index ids pair.other) ≡ true → Q pair) → All Q (same_of ids pairs)
same_all P Q ids [] all step = All-nil Q
same_all P Q ids (pair ∷ pairs) all step =
    All-append Q (cond (nat_eq (slice_index ids pair.one) (slice_index ids pair.other)) (pair ∷ []) []) (same_of ids pairs)
    (one (nat_eq (slice_index ids pair.one) (slice_index ids pair.other)) refl)
    (same_all P Q ids pairs (λ k d l. all (suc k) d (omega (arith, l))) step)
  where
    one : (b : Bool) → nat_eq (slice_index ids pair.one) (slice_index ids pair.other) ≡ b → All Q (cond b (pair ∷ []) [])
    one true e = All-cons Q pair [] (step pair (all 0 pair (omega arith)) e) (All-nil Q)
    one false e = All-nil Q

pub same_below : (n : ℕ) (ids : List ℕ) (pairs : List Pair) → All (IsBelow n) pairs → All (IsBelow n) (same_of ids pairs)
same_below n ids pairs all = same_all (IsBelow n) (IsBelow n) ids pairs all (λ pair below e. below)

pub same_pairs_agree : (rows : List Row) (x : List ℕ) (a : ℕ) (ids : List ℕ) (pairs : List Pair) → Tells rows (a ∷ []) ids → All (IsPair rows x) pairs
    → All (IsPair rows (x ++ a ∷ [])) (same_of ids pairs)
same_pairs_agree rows x a ids pairs at all = same_all (IsPair rows x) (IsPair rows (x ++ a ∷ [])) ids pairs all (λ pair is e. record {
  below = is.below;
  same = agree_more rows x a pair.one pair.other
      ∙ and_from (agree rows x pair.one pair.other) (agree rows (a ∷ []) pair.one pair.other) is.same (at.same pair.one pair.other is.below.0 is.below.1 ∙ e);
})

among_front : (pair : Pair) (b : Bool) (rest : List Pair) (r s : ℕ) → is_among rest r s ≡ true → is_among (cond b (pair ∷ []) [] ++ rest) r s ≡ true
among_front pair true rest r s e = or_right (nat_eq pair.one r && nat_eq pair.other s) (is_among rest r s) e
among_front pair false rest r s e = e

among_here : (pair : Pair) (b : Bool) (rest : List Pair) (r s : ℕ) → b ≡ true → (nat_eq pair.one r && nat_eq pair.other s) ≡ true
    → is_among (cond b (pair ∷ []) [] ++ rest) r s ≡ true
among_here pair true rest r s f e = or_left (nat_eq pair.one r && nat_eq pair.other s) (is_among rest r s) e
among_here pair false rest r s f e = absurd (true≢false (sym f))

among_same : (ids : List ℕ) (pairs : List Pair) (r s : ℕ) → is_among pairs r s ≡ true → slice_index ids r ≡ slice_index ids s → is_among (same_of ids pairs) r s ≡ true
among_same ids [] r s e f = absurd (true≢false (sym e))
among_same ids (pair ∷ pairs) r s e f =
    let test = nat_eq (slice_index ids pair.one) (slice_index ids pair.other) in
    ⊎_elim
    (λ (here : (nat_eq pair.one r && nat_eq pair.other s) ≡ true).
    let both = and_parts (nat_eq pair.one r) (nat_eq pair.other s) here in
    among_here pair test (same_of ids pairs) r s
    (eq-eqb _ _ (ap (slice_index ids) (eqb-true pair.one r both.0) ∙ f ∙ sym (ap (slice_index ids) (eqb-true pair.other s both.1)))) here)
    (λ (later : is_among pairs r s ≡ true). among_front pair test (same_of ids pairs) r s (among_same ids pairs r s later f))
    (or_cases (nat_eq pair.one r && nat_eq pair.other s) (is_among pairs r s) e)

pub same_has_all : (rows : List Row) (x : List ℕ) (a : ℕ) (ids : List ℕ) (pairs : List Pair) → Tells rows (a ∷ []) ids → HasAll rows x pairs
    → HasAll rows (x ++ a ∷ []) (same_of ids pairs)
same_has_all rows x a ids pairs at all = λ r s rs sl e.
    let both = and_parts (agree rows x r s) (agree rows (a ∷ []) r s) (sym (agree_more rows x a r s) ∙ e) in
    among_same ids pairs r s (all r s rs sl both.0)
    (eqb-true (slice_index ids r) (slice_index ids s) (sym (at.same r s (omega (arith, rs, sl)) sl) ∙ both.1))

-- ---- attributes in another order

and_turned : (p q : Bool) → (p && (q && true)) ≡ true → (q && (p && true)) ≡ true
and_turned true true e = refl
and_turned true false e = absurd (true≢false (sym e))
and_turned false q e = absurd (true≢false (sym e))

and_ends : (p q t : Bool) → (p && (q && (t && true))) ≡ true → (p && (t && (q && true))) ≡ true
and_ends true true true e = refl
and_ends true true false e = absurd (true≢false (sym e))
and_ends true false t e = absurd (true≢false (sym e))
and_ends false q t e = absurd (true≢false (sym e))

and_back : (p q t : Bool) → (p && (q && (t && true))) ≡ true → (q && (t && (p && true))) ≡ true
and_back true true true e = refl
and_back true true false e = absurd (true≢false (sym e))
and_back true false t e = absurd (true≢false (sym e))
and_back false q t e = absurd (true≢false (sym e))

same_at : List Row → ℕ → ℕ → ℕ → Bool
same_at rows attr r s = bytes_eq (get_or (row_at rows r) attr []) (get_or (row_at rows s) attr [])

turned_covers : (rows : List Row) (a b : ℕ) → Covers rows (a ∷ b ∷ []) (b ∷ a ∷ [])
unfolding same_at
turned_covers rows a b = λ r s e. and_turned (same_at rows a r s) (same_at rows b r s) e

ends_covers : (rows : List Row) (i j k : ℕ) → Covers rows (i ∷ j ∷ k ∷ []) (i ∷ k ∷ j ∷ [])
unfolding same_at
ends_covers rows i j k = λ r s e. and_ends (same_at rows i r s) (same_at rows j r s) (same_at rows k r s) e

back_covers : (rows : List Row) (i j k : ℕ) → Covers rows (i ∷ j ∷ k ∷ []) (j ∷ k ∷ i ∷ [])
unfolding same_at
back_covers rows i j k = λ r s e. and_back (same_at rows i r s) (same_at rows j r s) (same_at rows k r s) e

has_all_more : (rows : List Row) (x y : List ℕ) (pairs : List Pair) → Covers rows x y → HasAll rows y pairs → HasAll rows x pairs
has_all_more rows x y pairs covers all = λ r s rs sl e. all r s rs sl (covers r s e)

pub ends_all : (rows : List Row) (i j k : ℕ) (pairs : List Pair) → HasAll rows (i ∷ k ∷ j ∷ []) pairs → HasAll rows (i ∷ j ∷ k ∷ []) pairs
ends_all rows i j k pairs all = has_all_more rows (i ∷ j ∷ k ∷ []) (i ∷ k ∷ j ∷ []) pairs (ends_covers rows i j k) all

pub back_all : (rows : List Row) (i j k : ℕ) (pairs : List Pair) → HasAll rows (j ∷ k ∷ i ∷ []) pairs → HasAll rows (i ∷ j ∷ k ∷ []) pairs
back_all rows i j k pairs all = has_all_more rows (i ∷ j ∷ k ∷ []) (j ∷ k ∷ i ∷ []) pairs (back_covers rows i j k) all

-- what more attributes don't determine, fewer don't
fewer_apart : (rows : List Row) (x y : List ℕ) (a : ℕ) → Covers rows x y → determines rows x a ≡ false → determines rows y a ≡ false
fewer_apart rows x y a covers apart =
    ⊎_elim (λ (yes : determines rows y a ≡ true). absurd (true≢false (sym (determines_more rows x y a covers yes) ∙ apart)))
    (λ (e : determines rows y a ≡ false). e) (cases_Bool (determines rows y a))

pub turned_sample : (table : Table) (sample : Sample) → IsSample table sample
    → IsSample table (record { one = sample.other; other = sample.one; list = sample.list; whole = sample.whole; apart = sample.apart })
turned_sample table sample is =
    let rows = table.rows.now in
    let one = sample.one in
    let other = sample.other in
    record {
      each = λ k d kl. let here = is.each k d kl in record { below = here.below; same = turned_covers rows one other _ _ here.same };
      whole = λ e. has_all_more rows (other ∷ one ∷ []) (one ∷ other ∷ []) sample.list (turned_covers rows other one) (is.whole e);
      apart = λ a e. fewer_apart rows (one ∷ other ∷ []) (other ∷ one ∷ []) a (turned_covers rows one other) (is.apart a e);
    }

-- ---- what isn't determined

pub not_true : (b : Bool) → not b ≡ true → b ≡ false
not_true true e = absurd (true≢false (sym e))
not_true false e = refl

test_fails : (b c : Bool) → b ≡ true → c ≡ false → (not b || c) ≡ false
test_fails true false e f = refl
test_fails true true e f = absurd (true≢false f)
test_fails false c e f = absurd (true≢false (sym e))

pub apart_refutes : (rows : List Row) (x : List ℕ) (a : ℕ) (ids : List ℕ) (pairs : List Pair) → Tells rows (a ∷ []) ids → All (IsPair rows x) pairs
    → is_apart ids pairs ≡ true → determines rows x a ≡ false
unfolding determines settles
apart_refutes rows x a ids [] at all e = absurd (true≢false (sym e))
apart_refutes rows x a ids (pair ∷ pairs) at all e =
    ⊎_elim
    (λ (here : not (nat_eq (slice_index ids pair.one) (slice_index ids pair.other)) ≡ true).
    let is = all 0 pair (omega arith) in
    let apart : agree rows (a ∷ []) pair.one pair.other ≡ false = at.same pair.one pair.other is.below.0 is.below.1 ∙ not_true _ here in
    every-none (settles rows x a) (length rows) pair.one is.below.0
    (every-none (λ s. not (agree rows x pair.one s) || agree rows (a ∷ []) pair.one s) (length rows) pair.other is.below.1
    (test_fails (agree rows x pair.one pair.other) (agree rows (a ∷ []) pair.one pair.other) is.same apart)))
    (λ (later : is_apart ids pairs ≡ true). apart_refutes rows x a ids pairs at (λ k d l. all (suc k) d (omega (arith, l))) later)
    (or_cases (not (nat_eq (slice_index ids pair.one) (slice_index ids pair.other))) (is_apart ids pairs) e)

-- what is known of each attribute, and of one more
pub apart_more : (P : ℕ → Type 0) (xs : List Bool) (x : Bool) (n : ℕ) → length xs ≡ n → ((a : ℕ) → get_or xs a false ≡ true → P a) → (x ≡ true → P n)
    → (a : ℕ) → get_or (xs ++ x ∷ []) a false ≡ true → P a
apart_more P xs x n long before here = more P xs x before (λ e. subst P (sym long) (here e))
  where
    more : (P : ℕ → Type 0) (xs : List Bool) (x : Bool) → ((a : ℕ) → get_or xs a false ≡ true → P a) → (x ≡ true → P (length xs))
        → (a : ℕ) → get_or (xs ++ x ∷ []) a false ≡ true → P a
    more P [] x before here zero e = here e
    more P [] x before here (suc a) e = absurd (true≢false (sym e))
    more P (y ∷ xs) x before here zero e = before zero e
    more P (y ∷ xs) x before here (suc a) e = more (λ k. P (suc k)) xs x (λ k f. before (suc k) f) here a e

-- ---- what is determined

bytes_turned : (xs ys : List ℕ) → bytes_eq xs ys ≡ true → bytes_eq ys xs ≡ true
bytes_turned xs ys e = (bytes_eq-Decides ys xs).1 (sym ((bytes_eq-Decides xs ys).0 e))

agree_turned : (rows : List Row) (x : List ℕ) (r s : ℕ) → agree rows x r s ≡ true → agree rows x s r ≡ true
agree_turned rows [] r s e = refl
agree_turned rows (a ∷ x) r s e =
    let both = and_parts (bytes_eq (get_or (row_at rows r) a []) (get_or (row_at rows s) a [])) (agree rows x r s) e in
    and_from (bytes_eq (get_or (row_at rows s) a []) (get_or (row_at rows r) a [])) (agree rows x s r)
    (bytes_turned (get_or (row_at rows r) a []) (get_or (row_at rows s) a []) both.0) (agree_turned rows x r s both.1)

agree_itself : (rows : List Row) (x : List ℕ) (r : ℕ) → agree rows x r r ≡ true
agree_itself rows [] r = refl
agree_itself rows (a ∷ x) r =
    and_from (bytes_eq (get_or (row_at rows r) a []) (get_or (row_at rows r) a [])) (agree rows x r r)
    ((bytes_eq-Decides (get_or (row_at rows r) a []) (get_or (row_at rows r) a [])).1 refl) (agree_itself rows x r)

-- it is enough to ask of each two rows once
determined : (rows : List Row) (x : List ℕ) (a : ℕ)
    → ((r s : ℕ) → r < s → s < length rows → agree rows x r s ≡ true → agree rows (a ∷ []) r s ≡ true) → determines rows x a ≡ true
unfolding determines settles
determined rows x a once =
    every-all (settles rows x a) (length rows) (λ r rl.
    every-all (λ s. not (agree rows x r s) || agree rows (a ∷ []) r s) (length rows) (λ s sl. pass (agree rows x r s) (agree rows (a ∷ []) r s) (both r s rl sl)))
  where
    pass : (b c : Bool) → (b ≡ true → c ≡ true) → (not b || c) ≡ true
    pass true c f = f refl
    pass false c f = refl

    both : (r s : ℕ) → r < length rows → s < length rows → agree rows x r s ≡ true → agree rows (a ∷ []) r s ≡ true
    both r s rl sl e =
        ⊎_elim (λ (lt : r < s). once r s lt sl e)
        (λ (le : s ≤ r). ⊎_elim (λ (same : r ≡ s). subst (λ s. agree rows (a ∷ []) r s ≡ true) same (agree_itself rows (a ∷ []) r))
        (λ (ne : r ≡ s → ⊥). agree_turned rows (a ∷ []) s r (once s r (omega (arith, le, ne)) rl (agree_turned rows x r s e)))
        (cases_eq r s)) (cases_lt r s)

together : (ids : List ℕ) (pairs : List Pair) (r s : ℕ) → is_apart ids pairs ≡ false → is_among pairs r s ≡ true → slice_index ids r ≡ slice_index ids s
together ids [] r s apart e = absurd (true≢false (sym e))
together ids (pair ∷ pairs) r s apart e =
    let parts = or_parts (not (nat_eq (slice_index ids pair.one) (slice_index ids pair.other))) (is_apart ids pairs) apart in
    ⊎_elim
    (λ (here : (nat_eq pair.one r && nat_eq pair.other s) ≡ true).
    let both = and_parts (nat_eq pair.one r) (nat_eq pair.other s) here in
    ap (slice_index ids) (sym (eqb-true pair.one r both.0)) ∙ eqb-true _ _ (not-false _ parts.0) ∙ ap (slice_index ids) (eqb-true pair.other s both.1))
    (λ (later : is_among pairs r s ≡ true). together ids pairs r s parts.1 later)
    (or_cases (nat_eq pair.one r && nat_eq pair.other s) (is_among pairs r s) e)

pub surely_determined : (rows : List Row) (x : List ℕ) (a : ℕ) (ids : List ℕ) (pairs : List Pair) → Tells rows (a ∷ []) ids → HasAll rows x pairs
    → is_apart ids pairs ≡ false → determines rows x a ≡ true
surely_determined rows x a ids pairs at all apart = determined rows x a (λ r s rs sl e.
    at.same r s (omega (arith, rs, sl)) sl ∙ eq-eqb _ _ (together ids pairs r s apart (all r s rs sl e)))

-- ---- left sides of three attributes

none_covers : (rows : List Row) (x : List ℕ) → Covers rows x []
none_covers rows x = λ r s e. refl

first_covers : (rows : List Row) (a b : ℕ) → Covers rows (a ∷ b ∷ []) (a ∷ [])
unfolding same_at
first_covers rows a b = λ r s e. and_from (same_at rows a r s) true (and_parts (same_at rows a r s) (agree rows (b ∷ []) r s) e).0 refl

last_covers : (rows : List Row) (a b : ℕ) → Covers rows (a ∷ b ∷ []) (b ∷ [])
unfolding same_at
last_covers rows a b = λ r s e. (and_parts (same_at rows a r s) (agree rows (b ∷ []) r s) e).1

-- where no two of three determine an attribute, and the three do, they are the least that do
pub least_three : (rows : List Row) (i j k a : ℕ) → determines rows (i ∷ j ∷ k ∷ []) a ≡ true → determines rows (i ∷ j ∷ []) a ≡ false
    → determines rows (i ∷ k ∷ []) a ≡ false → determines rows (j ∷ k ∷ []) a ≡ false → is_plain rows (i ∷ j ∷ k ∷ []) a ≡ true
unfolding is_plain
least_three rows i j k a all front ends back =
    let none = fewer_apart rows (i ∷ j ∷ []) [] a (none_covers rows (i ∷ j ∷ [])) front in
    let one = fewer_apart rows (i ∷ j ∷ []) (i ∷ []) a (first_covers rows i j) front in
    let two = fewer_apart rows (j ∷ k ∷ []) (j ∷ []) a (first_covers rows j k) back in
    let three = fewer_apart rows (j ∷ k ∷ []) (k ∷ []) a (last_covers rows j k) back in
    λ t. all t && not (none t || (two t || (three t || (one t || (front t || (ends t || (back t || false)))))))

pub three : (x : List ℕ) → length x ≡ 3 → x ≡ slice_index x 0 ∷ slice_index x 1 ∷ slice_index x 2 ∷ []
three [] e = absurd (omega (arith, e))
three (i ∷ []) e = absurd (omega (arith, e))
three (i ∷ j ∷ []) e = absurd (omega (arith, e))
three (i ∷ j ∷ k ∷ []) e = refl
three (i ∷ j ∷ k ∷ l ∷ x) e = absurd (omega (arith, e))

pub three_within : (n i j k : ℕ) (x : List ℕ) → x ≡ i ∷ j ∷ k ∷ [] → All (λ attr. attr < n) x → (i < n) × (j < n) × (k < n)
three_within n i j k x e within =
    let all : All (λ attr. attr < n) (i ∷ j ∷ k ∷ []) = subst (All (λ attr. attr < n)) e within in
    (all 0 0 (omega arith), all 1 0 (omega arith), all 2 0 (omega arith))

pub sample_true : (table : Table) (samples : List Sample) (one other : ℕ) (sample : Sample) → All (IsSample table) samples → IsSampleOf samples one other sample
    → IsSample table sample
sample_true table samples one other sample all is =
    let (place, e) = is.among in
    subst (IsSample table) (get_or_from_slice_get samples place sample sample e) (all place sample (slice_get_within samples place sample e))

-- ---- how many are found

one_of : (b : Bool) (candidate : Candidate) → b ≡ true → length (cond b (candidate ∷ []) []) ≡ 1
one_of true candidate e = refl
one_of false candidate e = absurd (true≢false (sym e))

pub plain_found : (rows : List Row) (support side : ℕ) (x : List ℕ) (a : ℕ) → list_any (nat_eq a) x ≡ false → is_plain rows x a ≡ true
    → 1 ≤ length (found_at rows support side x a)
unfolding plain_at
plain_found rows support side x a outside plain =
    let e = found_outside rows support side x a outside in
    let candidate : Candidate = record { a = a; side = side; row = None } in
    let one : length (plain_at rows side x a) ≡ 1 = one_of (is_plain rows x a) candidate plain in
    omega (arith, ap length e, one, length-append (plain_at rows side x a) (constants_at rows support side x a))

pub left_more : {A : Type 0} (f : ℕ → List A) (most room left n : ℕ) → most ≤ room + length (gathered f n) → room ≤ left + length (f n)
    → most ≤ left + length (gathered f (n + 1))
left_more f most room left n before here = omega (arith, before, here, ap length (gathered_more f n), length-append (gathered f n) (f n))

pub none_left : {A : Type 0} (f : ℕ → List A) (most room k n : ℕ) → k < n → most ≤ room + length (gathered f k) → room < length (f k)
    → most < length (gathered f n)
none_left f most room k n kn before here =
    omega (arith, before, here, ap length (gathered_more f k), length-append (gathered f k) (f k), gathered_within f (k + 1) n (omega (arith, kn)))
