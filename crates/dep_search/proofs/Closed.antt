-- What X has and what a part of X determines, X determines too; where that is all, nothing is found on X.
use Rattle.std.proofs.Common.{◌≡◌, ℕ, zero, suc, ◌+◌, ◌<◌, Bool, true, false, not, ◌||◌, List, [], ◌∷◌, length, get_or, refl, sym, ap, ◌∙◌, arith, ⊎_elim}
use Rattle.std.specs.Prelude.{All, nat_eq}
use Rattle.std.specs.List.{list_any}
use Rattle.std.specs.Str.{bytes_eq}
use Rattle.std.proofs.lemmas.Bool.{and_parts, and_from, cases_eq, cond-true, eqb-true, or_cases, or_left, or_right, true≢false}
use Rattle.dep_search.specs.Rows.{Row, row_at, agree}
use Rattle.dep_search.specs.Found.{settles, determines, proper_parts, found_at, found_on}
use Rattle.dep_search.specs.Settled.{AreFacts, IsClosed, IsSettled, StandsAt, is_given, known_at, says_all}
use Rattle.dep_search.specs.declared.facts.Facts.{Facts}
use Rattle.dep_search.proofs.Counted.{every-all, every-at}
use Rattle.dep_search.proofs.Known.{Covers, Each, gathered_none, nothing_found, parts_covered, stands}

-- rows that agree on X agree on each attribute that X has
has_covered : (rows : List Row) (x : List ℕ) (a : ℕ) → list_any (nat_eq a) x ≡ true → Covers rows x (a ∷ [])
has_covered rows [] a e = absurd (true≢false (sym e))
has_covered rows (y ∷ x) a e = λ r s agreed.
    let at : ℕ → Bool = λ attr. bytes_eq (get_or (row_at rows r) attr []) (get_or (row_at rows s) attr []) in
    let both = and_parts (at y) (agree rows x r s) agreed in
    ⊎_elim (λ (here : nat_eq a y ≡ true). and_from (at a) true (ap at (eqb-true a y here) ∙ both.0) refl)
    (λ (later : list_any (nat_eq a) x ≡ true). has_covered rows x a later r s both.1) (or_cases (nat_eq a y) (list_any (nat_eq a) x) e)

-- what determines an attribute does so with more
pub determines_more : (rows : List Row) (x part : List ℕ) (a : ℕ) → Covers rows x part → determines rows part a ≡ true → determines rows x a ≡ true
unfolding determines settles
determines_more rows x part a covers e =
    every-all (settles rows x a) (length rows) (λ r rl.
    every-all (λ s. not (agree rows x r s) || agree rows (a ∷ []) r s) (length rows) (λ s sl.
    still (agree rows x r s) (agree rows part r s) (agree rows (a ∷ []) r s) (covers r s)
    (every-at (λ s. not (agree rows part r s) || agree rows (a ∷ []) r s) (length rows) s (every-at (settles rows part a) (length rows) r e rl) sl)))
  where
    still : (b c d : Bool) → (b ≡ true → c ≡ true) → (not c || d) ≡ true → (not b || d) ≡ true
    still true c d f e = ap (λ c. not c || d) (sym (f refl)) ∙ e
    still false c d f e = refl

determines_itself : (rows : List Row) (a : ℕ) → determines rows (a ∷ []) a ≡ true
unfolding determines settles
determines_itself rows a =
    every-all (settles rows (a ∷ []) a) (length rows) (λ r rl.
    every-all (λ s. not (agree rows (a ∷ []) r s) || agree rows (a ∷ []) r s) (length rows) (λ s sl. either (agree rows (a ∷ []) r s)))
  where
    either : (b : Bool) → (not b || b) ≡ true
    either true = refl
    either false = refl

any_determines : (rows : List Row) (x : List ℕ) (a : ℕ) (parts : List (List ℕ)) → Each (Covers rows x) parts
    → list_any (λ part. determines rows part a) parts ≡ true → determines rows x a ≡ true
any_determines rows x a [] all e = absurd (true≢false (sym e))
any_determines rows x a (part ∷ parts) all e =
    ⊎_elim (λ (here : determines rows part a ≡ true). determines_more rows x part a all.0 here)
    (λ (later : list_any (λ part. determines rows part a) parts ≡ true). any_determines rows x a parts all.1 later)
    (or_cases (determines rows part a) (list_any (λ part. determines rows part a) parts) e)

given_determines : (rows : List Row) (x : List ℕ) (a : ℕ) → is_given rows x a ≡ true → determines rows x a ≡ true
given_determines rows x a e =
    ⊎_elim (λ (has : list_any (nat_eq a) x ≡ true). determines_more rows x (a ∷ []) a (has_covered rows x a has) (determines_itself rows a))
    (λ (part : list_any (λ part. determines rows part a) (proper_parts x) ≡ true). any_determines rows x a (proper_parts x) (parts_covered rows x) part)
    (or_cases (list_any (nat_eq a) x) (list_any (λ part. determines rows part a) (proper_parts x)) e)

-- so all rows settle it
pub given_settled : (rows : List Row) (support : ℕ) (x : List ℕ) (a : ℕ) (flags : List Bool) → is_given rows x a ≡ true
    → IsSettled rows support x a (record { all = true; flags = flags })
unfolding determines
given_settled rows support x a flags e =
    let all = given_determines rows x a e in
    record {
      all = sym all;
      each = λ r rl many. sym (every-at (settles rows x a) (length rows) r all rl);
    }

nothing_at : (rows : List Row) (support side : ℕ) (x : List ℕ) (a : ℕ) → is_given rows x a ≡ true → found_at rows support side x a ≡ []
unfolding found_at
nothing_at rows support side x a e =
    ⊎_elim (λ (has : list_any (nat_eq a) x ≡ true). cond-true _ _ _ has)
    (λ (part : list_any (λ part. determines rows part a) (proper_parts x) ≡ true). nothing_found rows support side x a part)
    (or_cases (list_any (nat_eq a) x) (list_any (λ part. determines rows part a) (proper_parts x)) e)

pub nothing_on : (rows : List Row) (support attrs side : ℕ) (x : List ℕ) → IsClosed rows attrs x → found_on rows support attrs side x ≡ []
unfolding found_on
nothing_on rows support attrs side x closed = gathered_none (found_at rows support side x) attrs (λ a al. nothing_at rows support side x a (closed a al))

-- one attribute more
pub closed_more : (rows : List Row) (x : List ℕ) (n : ℕ) → ((a : ℕ) → a < n → is_given rows x a ≡ true) → is_given rows x n ≡ true
    → (a : ℕ) → a < n + 1 → is_given rows x a ≡ true
closed_more rows x n before here a al =
    ⊎_elim (λ (e : a ≡ n). ap (is_given rows x) e ∙ here) (λ (ne : a ≡ n → ⊥). before a (omega (arith, al, ne))) (cases_eq a n)

-- what is known at a place of a part
pub known_determines : (rows : List Row) (attrs support : ℕ) (store : List Facts) (place a : ℕ) (part : List ℕ) → All (AreFacts rows attrs support) store → a < attrs
    → StandsAt store place part → says_all (known_at store a place) ≡ true → determines rows part a ≡ true
known_determines rows attrs support store place a part facts al f e =
    let (settled, known, is) = stands rows attrs support store place a part facts al f in
    sym is.all ∙ sym (ap says_all known) ∙ e

pub any_at : (p : List ℕ → Bool) (xs : List (List ℕ)) (k : ℕ) (x : List ℕ) → k < length xs → x ≡ get_or xs k x → p x ≡ true → list_any p xs ≡ true
any_at p [] k x l e passes = absurd (omega (arith, l))
any_at p (y ∷ ys) zero x l e passes = or_left (p y) (list_any p ys) (ap p (sym e) ∙ passes)
any_at p (y ∷ ys) (suc k) x l e passes = or_right (p y) (list_any p ys) (any_at p ys k x (omega (arith, l)) e passes)
