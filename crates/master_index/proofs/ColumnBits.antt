-- The bits of sets of columns.
use Rattle.std.proofs.Common.{◌≡◌, ℕ, ◌*◌, ◌%◌, ◌^◌, ◌<◌, true, bit_or, sym, ap, ◌∙◌, ⊎_elim, arith, w64}
use Rattle.std.specs.Prelude.{◌==◌, ◌||◌, max}
use Rattle.std.specs.Int.{bit_at}
use Rattle.std.proofs.lemmas.Bool.Decides.{eqb_tells, nat_tests}
use Rattle.std.proofs.lemmas.Nat.Bits.{bit_at_or, bit_at-lt, bit_at_set_same, bit_at_set_other}

-- one bit is set
pub or_bit : (n k : ℕ) → k < 64 → (other : ℕ) → (bit_at (bit_or n (1 * 2 ^ k % 2 ^ 64)) other == 1) ≡ (other == k || (bit_at n other == 1))
or_bit n k within other =
    ⊎_elim
    (λ (same, e).
    let set = bit_at_set_same w64 n k within in
    let here : (bit_at (bit_or n (1 * 2 ^ k % 2 ^ 64)) other == 1) ≡ true = ap (λ o. bit_at (bit_or n (1 * 2 ^ k % 2 ^ 64)) o == 1) e ∙ ap (λ b. b == 1) set in
    here ∙ sym (ap (λ t. t || (bit_at n other == 1)) same))
    (λ (apart, differ). ap (λ b. b == 1) (bit_at_set_other w64 n k within other differ) ∙ sym (ap (λ t. t || (bit_at n other == 1)) apart))
    (eqb_tells other k)

-- the bits of two numbers
greater : (a b : ℕ) → a < 2 → b < 2 → (max a b == 1) ≡ (a == 1 || b == 1)
greater a b few less = grind (arith, nat_tests)

pub or_bits : (m n column : ℕ) → (bit_at (bit_or m n) column == 1) ≡ (bit_at m column == 1 || bit_at n column == 1)
or_bits m n column = ap (λ b. b == 1) (bit_at_or m n column) ∙ greater (bit_at m column) (bit_at n column) (bit_at-lt m column) (bit_at-lt n column)
