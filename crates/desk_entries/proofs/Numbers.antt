-- The last number that passes a test, where one more number is asked and where the test changes.
use Rattle.std.proofs.Common.{◌≡◌, ℕ, zero, suc, ◌<◌, ◌≤◌, ◌⊎◌, inl, inr, Bool, true, false, refl, sym, ◌∙◌, ap, arith, true≢false}
use Rattle.std.proofs.lemmas.Bool.{cases_eq}
use Rattle.desk_entries.specs.Numbers.{last_up_to}

-- ---- one number more

pub last-hit : (t : ℕ → Bool) (n : ℕ) → t (suc n) ≡ true → last_up_to t (suc n) ≡ suc n
last-hit t n h = rw h refl

pub last-miss : (t : ℕ → Bool) (n : ℕ) → t (suc n) ≡ false → last_up_to t (suc n) ≡ last_up_to t n
last-miss t n h = rw h refl

-- ---- what it is

pub last-within : (t : ℕ → Bool) (n : ℕ) → last_up_to t n ≤ n
last-within t zero = omega arith
last-within t (suc n) = by (last-within t n) (t (suc n)) refl
  where
    by : last_up_to t n ≤ n → (b : Bool) → t (suc n) ≡ b → last_up_to t (suc n) ≤ suc n
    by r true h = rw (last-hit t n h) (omega arith)
    by r false h = rw (last-miss t n h) (omega arith)

pub last-passes : (t : ℕ → Bool) (n k : ℕ) → last_up_to t n ≡ suc k → t (suc k) ≡ true
last-passes t zero k e = absurd (let x : zero ≡ suc k = e in omega arith)
last-passes t (suc n) k e = by (last-passes t n k) (t (suc n)) refl
  where
    by : (last_up_to t n ≡ suc k → t (suc k) ≡ true) → (b : Bool) → t (suc n) ≡ b → t (suc k) ≡ true
    by r true h = let s : suc n ≡ suc k = sym (last-hit t n h) ∙ e in rw (sym s) h
    by r false h = r (sym (last-miss t n h) ∙ e)

-- no later number passes
pub last-above : (t : ℕ → Bool) (n k : ℕ) → last_up_to t n < suc k → suc k ≤ n → t (suc k) ≡ false
last-above t zero k above within = absurd (omega arith)
last-above t (suc n) k above within = by (last-above t n k) (t (suc n)) refl
  where
    Lower : Type 0
    Lower = last_up_to t n < suc k → suc k ≤ n → t (suc k) ≡ false

    at : Lower → t (suc n) ≡ false → last_up_to t n < suc k → (k ≡ n) ⊎ (k ≡ n → ⊥) → t (suc k) ≡ false
    at r h low (inl e) = rw e h
    at r h low (inr ne) = r low (omega arith)

    by : Lower → (b : Bool) → t (suc n) ≡ b → t (suc k) ≡ false
    by r true h = let low : suc n < suc k = rw (last-hit t n h) at above in absurd (omega arith)
    by r false h = at r h (rw (last-miss t n h) at above) (cases_eq k n)

-- a number that passes is no later than the last
pub last-reaches : (t : ℕ → Bool) (n k : ℕ) → t (suc k) ≡ true → suc k ≤ n → suc k ≤ last_up_to t n
last-reaches t zero k h within = absurd (omega arith)
last-reaches t (suc n) k h within = by (last-reaches t n k h) (t (suc n)) refl
  where
    Lower : Type 0
    Lower = suc k ≤ n → suc k ≤ last_up_to t n

    at : Lower → t (suc n) ≡ false → (k ≡ n) ⊎ (k ≡ n → ⊥) → suc k ≤ last_up_to t n
    at r miss (inl e) = let h2 : t (suc n) ≡ true = rw (sym e) h in absurd (true≢false (sym h2 ∙ miss))
    at r miss (inr ne) = r (omega arith)

    by : Lower → (b : Bool) → t (suc n) ≡ b → suc k ≤ last_up_to t (suc n)
    by r true e = rw (last-hit t n e) within
    by r false e = rw (last-miss t n e) (at r e (cases_eq k n))

-- ---- another test

pub last-same : (t u : ℕ → Bool) (n : ℕ) → ((k : ℕ) → suc k ≤ n → u (suc k) ≡ t (suc k)) → last_up_to u n ≡ last_up_to t n
last-same t u zero same = refl
last-same t u (suc n) same = by (last-same t u n (λ k within. same k (omega arith))) (t (suc n)) refl
  where
    by : last_up_to u n ≡ last_up_to t n → (b : Bool) → t (suc n) ≡ b → last_up_to u (suc n) ≡ last_up_to t (suc n)
    by r true h = last-hit u n (same n (omega arith) ∙ h) ∙ sym (last-hit t n h)
    by r false h = last-miss u n (same n (omega arith) ∙ h) ∙ r ∙ sym (last-miss t n h)

-- where the last one alone passes no more, the last is the one below it
pub last-without : (t u : ℕ → Bool) (n k : ℕ) → last_up_to t n ≡ suc k → u (suc k) ≡ false → ((m : ℕ) → suc m ≤ n → (m ≡ k → ⊥) → u (suc m) ≡ t (suc m)) → last_up_to u n ≡ last_up_to t k
last-without t u zero k last gone same = absurd (let x : zero ≡ suc k = last in omega arith)
last-without t u (suc n) k last gone same = by (λ low. last-without t u n k low gone (λ m w ne. same m (omega arith) ne)) (t (suc n)) refl
  where
    by : (last_up_to t n ≡ suc k → last_up_to u n ≡ last_up_to t k) → (b : Bool) → t (suc n) ≡ b → last_up_to u (suc n) ≡ last_up_to t k
    by r true h =
        let e : n ≡ k = (let s : suc n ≡ suc k = sym (last-hit t n h) ∙ last in omega arith) in
        last-miss u n (rw e gone) ∙ last-same t u n (λ m within. same m (omega arith) (λ x. omega arith)) ∙ ap (last_up_to t) e
    by r false h =
        let low : last_up_to t n ≡ suc k = sym (last-miss t n h) ∙ last in
        let within = last-within t n in
        let apart : n ≡ k → ⊥ = λ x. omega arith in
        last-miss u n (same n (omega arith) apart ∙ h) ∙ r low
