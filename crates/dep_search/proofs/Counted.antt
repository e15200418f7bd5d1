-- What numbers below a bound give, one number further.
use Rattle.std.proofs.Common.{◌≡◌, ℕ, zero, suc, ◌+◌, ◌<◌, ◌≤◌, Bool, true, false, ◌&&◌, cond, List, ◌++◌, refl, sym, ap, ◌∙◌, arith, ⊎_elim, add-one, length, length-append}
use Rattle.std.proofs.lemmas.Bool.{cases_eq, and_cases, and_parts, and_from, and_left, and_right, true≢false}
use Rattle.dep_search.specs.Counting.{gathered, every, tally}

pub gathered_more : {A : Type 0} (f : ℕ → List A) (n : ℕ) → gathered f (n + 1) ≡ gathered f n ++ f n
gathered_more f n = rw add-one refl

pub tally_more : (p : ℕ → Bool) (n : ℕ) → tally p (n + 1) ≡ tally p n + cond (p n) 1 0
tally_more p n = rw add-one refl

pub tally_le : (p : ℕ → Bool) (n : ℕ) → tally p n ≤ n
tally_le p zero = omega arith
tally_le p (suc n) = grind (arith, tally_le p n)

pub tally-congr : (p q : ℕ → Bool) (n : ℕ) → ((k : ℕ) → k < n → p k ≡ q k) → tally p n ≡ tally q n
tally-congr p q zero same = refl
tally-congr p q (suc n) same =
    let before : tally p n ≡ tally q n = tally-congr p q n (λ k l. same k (omega arith)) in
    let here : p n ≡ q n = same n (omega arith) in
    λ i. before i + cond (here i) 1 0

pub every-at : (p : ℕ → Bool) (n k : ℕ) → every p n ≡ true → k < n → p k ≡ true
every-at p zero k all below = absurd (omega arith)
every-at p (suc n) k all below =
    let parts = and_parts (every p n) (p n) all in
    ⊎_elim (λ (e : k ≡ n). ap p e ∙ parts.1) (λ (ne : k ≡ n → ⊥). every-at p n k parts.0 (omega (arith, ne))) (cases_eq k n)

pub every-all : (p : ℕ → Bool) (n : ℕ) → ((k : ℕ) → k < n → p k ≡ true) → every p n ≡ true
every-all p zero all = refl
every-all p (suc n) all = and_from (every p n) (p n) (every-all p n (λ k l. all k (omega arith))) (all n (omega arith))

pub every-none : (p : ℕ → Bool) (n k : ℕ) → k < n → p k ≡ false → every p n ≡ false
every-none p zero k below fails = absurd (omega arith)
every-none p (suc n) k below fails =
    ⊎_elim (λ (e : k ≡ n). and_right (every p n) (p n) (ap p (sym e) ∙ fails))
    (λ (ne : k ≡ n → ⊥). and_left (every p n) (p n) (every-none p n k (omega (arith, ne)) fails)) (cases_eq k n)

pub same_bool : (a b : Bool) → (a ≡ true → b ≡ true) → (b ≡ true → a ≡ true) → a ≡ b
same_bool true b f g = sym (f refl)
same_bool false true f g = g refl
same_bool false false f g = refl

-- what a longer front gives is as long at least
pub gathered_within : {A : Type 0} (f : ℕ → List A) (k n : ℕ) → k ≤ n → length (gathered f k) ≤ length (gathered f n)
gathered_within f k zero le = grind (arith, le)
gathered_within {A} f k (suc n) le =
    ⊎_elim (λ (e : k ≡ suc n). omega (arith, ap (λ m. length (gathered f m)) e))
    (λ (ne : k ≡ suc n → ⊥). omega (arith, gathered_within f k n (omega (arith, ne)), length-append (gathered f n) (f n)))
    (cases_eq k (suc n))

pub every_more : (p : ℕ → Bool) (n : ℕ) → every p (n + 1) ≡ (every p n && p n)
every_more p n = rw add-one refl

-- where not every number passes, one doesn't
pub every_fails : (p : ℕ → Bool) (n : ℕ) → every p n ≡ false → (k : ℕ) × (k < n) × (p k ≡ false)
every_fails p zero e = absurd (true≢false e)
every_fails p (suc n) e =
    ⊎_elim (λ (f : every p n ≡ false). let (k, l, g) = every_fails p n f in (k, omega arith, g))
    (λ (f : p n ≡ false). (n, omega arith, f)) (and_cases (every p n) (p n) e)

-- what one number more gives is among what all give
pub too_many : {A : Type 0} (f : ℕ → List A) (old found : List A) (most k n : ℕ) → k < n → found ≡ old ++ gathered f k → most < length (found ++ f k)
    → most < length (old ++ gathered f n)
too_many f old found most k n l e many =
    let step : gathered f (k + 1) ≡ gathered f k ++ f k = gathered_more f k in
    let within = gathered_within f (k + 1) n (omega (arith, l)) in
    let longer = ap length step in
    let here = ap length e in
    omega (arith, within, longer, here, many, length-append found (f k), length-append (gathered f k) (f k), length-append old (gathered f k), length-append old (gathered f n))
