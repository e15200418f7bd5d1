-- Rows that are told apart by numbers.
use Rattle.std.proofs.Common.{◌≡◌, ◌≢◌, ℕ, ◌+◌, ◌<◌, ◌≤◌, Bool, true, false, not, ◌&&◌, ◌||◌, List, [], ◌∷◌, ◌++◌, length, Some, get_or, eqb, refl, sym, ap, ◌∙◌, arith, ⊎_elim, length-append}
use Rattle.std.specs.Prelude.{slice_get, slice_index, slice_index_or, nat_eq}
use Rattle.std.specs.Str.{bytes_eq}
use Rattle.std.proofs.lemmas.Bool.{cases_eq, cases_lt, cases_Bool, eq-eqb, ne_eqb, eqb-true, eqb-false, and_parts, and_from, or_left, or_right, or_parts, not-false, true≢false}
use Rattle.std.proofs.lemmas.Slice.Eq.{bytes_eq-Decides}
use Rattle.std.proofs.lemmas.Option.{slice_get_within}
use Rattle.value_pool.specs.Pool.{HasId, HaveOneId, Interns, IsNew}
use Rattle.dep_search.specs.Rows.{Row, row_at, agree}
use Rattle.dep_search.specs.Found.{settles, determines}
use Rattle.dep_search.specs.Leaders.{Tells, AreLeaders, AreFirstPairs, AreWithin}
use Rattle.dep_search.specs.Classes.{is_alike, are_alike}
use Rattle.dep_search.proofs.Counted.{every-at, every-all, every-none, every_fails, same_bool}

-- two numbers tell as two other numbers do
pub same_tests : (a b c d : ℕ) → (a ≡ b → c ≡ d) → (c ≡ d → a ≡ b) → eqb a b ≡ eqb c d
same_tests a b c d f g =
    same_bool (eqb a b) (eqb c d) (λ e. eq-eqb c d (f (eqb-true a b e))) (λ e. eq-eqb a b (g (eqb-true c d e)))

-- of two places with the same pair, neither has an earlier first place
first-not_before : (one other firsts : List ℕ) (all : AreFirstPairs one other firsts) (r s : ℕ) → r < length one → s < length one
    → slice_index one r ≡ slice_index one s → slice_index other r ≡ slice_index other s → slice_index firsts s ≤ slice_index firsts r
first-not_before one other firsts all r s rl sl e g =
    ⊎_elim (λ (lt : slice_index firsts r < slice_index firsts s).
    absurd ((all.each s sl).least (slice_index firsts r) lt ((all.each r rl).one_same ∙ e) ((all.each r rl).other_same ∙ g)))
    (λ (le : slice_index firsts s ≤ slice_index firsts r). le) (cases_lt (slice_index firsts r) (slice_index firsts s))

first-same : (one other firsts : List ℕ) (all : AreFirstPairs one other firsts) (r s : ℕ) → r < length one → s < length one
    → slice_index one r ≡ slice_index one s → slice_index other r ≡ slice_index other s → slice_index firsts r ≡ slice_index firsts s
first-same one other firsts all r s rl sl e g =
    omega (arith, first-not_before one other firsts all r s rl sl e g, first-not_before one other firsts all s r sl rl (sym e) (sym g))

first-pairs : (one other firsts : List ℕ) (all : AreFirstPairs one other firsts) (r s : ℕ) → r < length one → s < length one
    → slice_index firsts r ≡ slice_index firsts s → (slice_index one r ≡ slice_index one s) × (slice_index other r ≡ slice_index other s)
first-pairs one other firsts all r s rl sl e = (
  sym (all.each r rl).one_same ∙ ap (slice_index one) e ∙ (all.each s sl).one_same,
  sym (all.each r rl).other_same ∙ ap (slice_index other) e ∙ (all.each s sl).other_same,
)

-- the test of a pair
pair_test : (a b c d : ℕ) (x y : ℕ) → (x ≡ y → (a ≡ b) × (c ≡ d)) → (a ≡ b → c ≡ d → x ≡ y) → (eqb a b && eqb c d) ≡ eqb x y
pair_test a b c d x y f g =
    same_bool (eqb a b && eqb c d) (eqb x y)
    (λ e. let both = and_parts (eqb a b) (eqb c d) e in eq-eqb x y (g (eqb-true a b both.0) (eqb-true c d both.1)))
    (λ e. let both = f (eqb-true x y e) in and_from (eqb a b) (eqb c d) (eq-eqb a b both.0) (eq-eqb c d both.1))

and-true : (b : Bool) → (b && true) ≡ b
and-true true = refl
and-true false = refl

-- rows agree on X and an attribute more where they agree on both
pub agree_more : (rows : List Row) (x : List ℕ) (a r s : ℕ) → agree rows (x ++ a ∷ []) r s ≡ (agree rows x r s && agree rows (a ∷ []) r s)
agree_more rows [] a r s = refl
agree_more rows (y ∷ x) a r s =
    ap (λ b. bytes_eq (get_or (row_at rows r) y []) (get_or (row_at rows s) y []) && b) (agree_more rows x a r s)
    ∙ and_grouped (bytes_eq (get_or (row_at rows r) y []) (get_or (row_at rows s) y [])) (agree rows x r s) (agree rows (a ∷ []) r s)
  where
    and_grouped : (b c d : Bool) → (b && (c && d)) ≡ ((b && c) && d)
    and_grouped true c d = refl
    and_grouped false c d = refl

-- rows that are told apart on X by one list and at an attribute by another have the first places of both as leaders
pub leaders_from_pairs : (rows : List Row) (x : List ℕ) (a : ℕ) (one other firsts : List ℕ)
    → Tells rows (a ∷ []) one → Tells rows x other → AreFirstPairs one other firsts → AreLeaders rows (x ++ a ∷ []) firsts
leaders_from_pairs rows x a one other firsts at on all = record {
  tells = record {
    long = all.long ∙ at.long;
    same = λ r s rl sl.
        let rl' : r < length one = omega (arith, at.long) in
        let sl' : s < length one = omega (arith, at.long) in
        agree_more rows x a r s ∙ (λ i. on.same r s rl sl i && at.same r s rl sl i)
        ∙ pair_test _ _ _ _ _ _ (λ e. let both = first-pairs one other firsts all r s rl' sl' e in (both.1, both.0)) (λ e g. first-same one other firsts all r s rl' sl' g e);
  };
  below = λ r rl. (all.each r (omega (arith, at.long))).below;
  own = λ r rl.
      let rl' : r < length one = omega (arith, at.long) in
      let first = all.each r rl' in
      first-same one other firsts all (slice_index firsts r) r (omega (arith, first.below)) rl' first.one_same first.other_same;
}

-- the ids that a pool gives to the texts at an attribute tell the rows apart there
pub tells_from_ids : (rows : List Row) (a : ℕ) (ids : List ℕ) (pool : List (List ℕ)) → HaveOneId pool → length ids ≡ length rows
    → ((r : ℕ) → r < length rows → HasId pool (slice_index_or (row_at rows r) a []) (slice_index ids r)) → Tells rows (a ∷ []) ids
tells_from_ids rows a ids pool unique long each = record {
  long = long;
  same = λ r s rl sl.
      and-true _ ∙ same_bool _ _
      (λ e. eq-eqb (slice_index ids r) (slice_index ids s)
      (unique (slice_index_or (row_at rows r) a []) (slice_index ids r) (slice_index ids s) (each r rl)
      (each s sl ∙ ap Some (sym ((bytes_eq-Decides _ _).0 e)))))
      (λ e. let same : Some (slice_index_or (row_at rows r) a []) ≡ Some (slice_index_or (row_at rows s) a []) =
      sym (each r rl) ∙ ap (slice_get pool) (eqb-true _ _ e) ∙ each s sl in
      let texts_same : slice_index_or (row_at rows r) a [] ≡ slice_index_or (row_at rows s) a [] = cc in
      (bytes_eq-Decides _ _).1 texts_same);
}

-- such ids are below how many rows there are
pub ids_within : (rows : List Row) (a : ℕ) (ids : List ℕ) (pool : List (List ℕ)) → length ids ≡ length rows → length pool ≤ length rows
    → ((r : ℕ) → r < length rows → HasId pool (slice_index_or (row_at rows r) a []) (slice_index ids r)) → AreWithin ids
ids_within rows a ids pool long few each = λ r rl.
    omega (arith, long, few, slice_get_within pool (slice_index ids r) (slice_index_or (row_at rows r) a []) (each r (omega (arith, rl, long))))

pub interned_few : (old new : List (List ℕ)) (text : List ℕ) → Interns old text new → length new ≤ length old + 1
interned_few old new text f =
    ⊎_elim (λ (same : (id : ℕ) × HasId old text id × (new ≡ old)). let (id, has, e) = same in omega (arith, ap length e))
    (λ (more : IsNew old text × (new ≡ old ++ text ∷ [])). omega (arith, ap length more.1, length-append old (text ∷ []))) f

-- the leaders that have one id in all the places that they lead, and those that haven't
pub alike_yes : (leaders ids : List ℕ) (first r : ℕ) → is_alike leaders ids first ≡ true → r < length leaders → slice_index leaders r ≡ first
    → slice_index ids r ≡ slice_index ids first
alike_yes leaders ids first r hit rl e =
    let test = λ (s : ℕ). not (nat_eq (slice_index leaders s) first) || nat_eq (slice_index ids s) (slice_index ids first) in
    passed (slice_index leaders r) first (slice_index ids r) (slice_index ids first) e (every-at test (length leaders) r hit rl)
  where
    passed : (l k i j : ℕ) → l ≡ k → (not (nat_eq l k) || nat_eq i j) ≡ true → i ≡ j
    passed l k i j e h = eqb-true i j (ap (λ b. not b || nat_eq i j) (sym (eq-eqb l k e)) ∙ h)

alike_no : (leaders ids : List ℕ) (first : ℕ) → is_alike leaders ids first ≡ false
    → (r : ℕ) × (r < length leaders) × (slice_index leaders r ≡ first) × (slice_index ids r ≢ slice_index ids first)
alike_no leaders ids first miss =
    let test = λ (s : ℕ). not (nat_eq (slice_index leaders s) first) || nat_eq (slice_index ids s) (slice_index ids first) in
    let (r, rl, fails) = every_fails test (length leaders) miss in
    let parts = or_parts (not (nat_eq (slice_index leaders r) first)) (nat_eq (slice_index ids r) (slice_index ids first)) fails in
    (r, rl, eqb-true _ _ (not-false _ parts.0), eqb-false _ _ parts.1)

pub are_one : (leaders ids : List ℕ) (first : ℕ)
    → ((s : ℕ) → s < length leaders → slice_index leaders s ≡ first → slice_index ids s ≡ slice_index ids first) → is_alike leaders ids first ≡ true
are_one leaders ids first all =
    every-all (λ s. not (nat_eq (slice_index leaders s) first) || nat_eq (slice_index ids s) (slice_index ids first)) (length leaders) (λ s sl.
    pass (slice_index leaders s) first (slice_index ids s) (slice_index ids first) (all s sl))
  where
    pass : (l k i j : ℕ) → (l ≡ k → i ≡ j) → (not (nat_eq l k) || nat_eq i j) ≡ true
    pass l k i j f = ⊎_elim (λ (e : l ≡ k). or_right (not (nat_eq l k)) (nat_eq i j) (eq-eqb i j (f e)))
        (λ (ne : l ≡ k → ⊥). or_left (not (nat_eq l k)) (nat_eq i j) (ap not (ne_eqb l k ne))) (cases_eq l k)

pub are_two : (leaders ids : List ℕ) (first r : ℕ) → r < length leaders → slice_index leaders r ≡ first → slice_index ids r ≢ slice_index ids first
    → is_alike leaders ids first ≡ false
are_two leaders ids first r rl e ne =
    ⊎_elim (λ (hit : is_alike leaders ids first ≡ true). absurd (ne (alike_yes leaders ids first r hit rl e)))
    (λ (miss : is_alike leaders ids first ≡ false). miss) (cases_Bool (is_alike leaders ids first))

-- what leaders tell of the rows that they lead tells which rows settle an attribute
pub settles_at : (rows : List Row) (x : List ℕ) (a : ℕ) (leaders ids : List ℕ) → AreLeaders rows x leaders → Tells rows (a ∷ []) ids
    → (r : ℕ) → r < length rows → is_alike leaders ids (slice_index leaders r) ≡ settles rows x a r
unfolding settles
settles_at rows x a leaders ids led at r rl =
    let n = length rows in
    let first = slice_index leaders r in
    let test = λ (s : ℕ). not (agree rows x r s) || agree rows (a ∷ []) r s in
    let far : length leaders ≡ n = led.tells.long in
    let here : first < n = omega (arith, led.below r rl) in
    let passes : (s : ℕ) → s < n → (first ≡ slice_index leaders s → slice_index ids r ≡ slice_index ids s) → test s ≡ true =
    λ s sl f. pass _ _ first (slice_index leaders s) (slice_index ids r) (slice_index ids s) (led.tells.same r s rl sl) (at.same r s rl sl) f in
    let fails : (s : ℕ) → s < n → first ≡ slice_index leaders s → slice_index ids r ≢ slice_index ids s → test s ≡ false =
    λ s sl e ne. fail _ _ first (slice_index leaders s) (slice_index ids r) (slice_index ids s) (led.tells.same r s rl sl) (at.same r s rl sl) e ne in
    ⊎_elim
    (λ (hit : is_alike leaders ids first ≡ true).
    hit ∙ sym (every-all test n (λ s sl. passes s sl (λ e.
    alike_yes leaders ids first r hit (omega arith) refl ∙ sym (alike_yes leaders ids first s hit (omega arith) (sym e))))))
    (λ (miss : is_alike leaders ids first ≡ false).
    let (s, sl, led_too, apart) = alike_no leaders ids first miss in
    miss ∙ sym (⊎_elim
    (λ (same : slice_index ids r ≡ slice_index ids s).
    every-none test n first here (fails first here (sym (led.own r rl)) (λ e. apart (sym same ∙ e))))
    (λ (ne : slice_index ids r ≡ slice_index ids s → ⊥).
    every-none test n s (omega arith) (fails s (omega arith) (sym led_too) ne))
    (cases_eq (slice_index ids r) (slice_index ids s))))
    (cases_Bool (is_alike leaders ids first))
  where
    pass : (b c : Bool) (l k i j : ℕ) → b ≡ nat_eq l k → c ≡ nat_eq i j → (l ≡ k → i ≡ j) → (not b || c) ≡ true
    pass true c l k i j e g f = g ∙ eq-eqb i j (f (eqb-true l k (sym e)))
    pass false c l k i j e g f = refl

    fail : (b c : Bool) (l k i j : ℕ) → b ≡ nat_eq l k → c ≡ nat_eq i j → l ≡ k → i ≢ j → (not b || c) ≡ false
    fail true c l k i j e g f ne = g ∙ ne_eqb i j ne
    fail false c l k i j e g f ne = absurd (true≢false (sym (eq-eqb l k f) ∙ sym e))

-- all rows have the ids of their leaders exactly where X determines the attribute
pub all_alike : (rows : List Row) (x : List ℕ) (a : ℕ) (leaders ids : List ℕ) → AreLeaders rows x leaders → Tells rows (a ∷ []) ids
    → are_alike leaders ids ≡ determines rows x a
unfolding determines
all_alike rows x a leaders ids led at =
    let n = length rows in
    let far : length leaders ≡ n = led.tells.long in
    let test = λ (r : ℕ). nat_eq (slice_index ids r) (slice_index ids (slice_index leaders r)) in
    same_bool _ _
    (λ e. every-all (settles rows x a) n (λ r rl.
    sym (settles_at rows x a leaders ids led at r rl) ∙ are_one leaders ids (slice_index leaders r) (λ s sl f.
    eqb-true _ _ (every-at test (length leaders) s e sl) ∙ ap (slice_index ids) f)))
    (λ e. every-all test (length leaders) (λ r rl.
    let rl' : r < n = omega (arith, far) in
    eq-eqb _ _ (alike_yes leaders ids (slice_index leaders r) r (settles_at rows x a leaders ids led at r rl' ∙ every-at (settles rows x a) n r e rl') rl refl)))
