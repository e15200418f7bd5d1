-- One bit of a number is set.
use Rattle.std.proofs.Common.{◌≡◌, ℕ, ◌*◌, ◌%◌, ◌^◌, ◌<◌, true, false, bit_or, sym, ap, ◌∙◌, ⊎_elim, arith, w64}
use Rattle.std.specs.Prelude.{◌≢◌, ◌==◌, ◌||◌}
use Rattle.std.specs.Int.{bit_at}
use Rattle.std.proofs.lemmas.Bool.{both_ways}
use Rattle.std.proofs.lemmas.Bool.Decides.{eqb_tells}
use Rattle.std.proofs.lemmas.Nat.{le_or_l}
use Rattle.std.proofs.lemmas.Nat.Bits.{bit_at_set_same, bit_at_set_other}

pub or_bit : (n k : ℕ) → k < 64 → (other : ℕ) → (bit_at (bit_or n (1 * 2 ^ k % 2 ^ 64)) other == 1) ≡ (other == k || (bit_at n other == 1))
or_bit n k within other =
    ⊎_elim
    (λ (same, e).
    let set = bit_at_set_same w64 n k within in
    let here : (bit_at (bit_or n (1 * 2 ^ k % 2 ^ 64)) other == 1) ≡ true = ap (λ o. bit_at (bit_or n (1 * 2 ^ k % 2 ^ 64)) o == 1) e ∙ ap (λ b. b == 1) set in
    here ∙ sym (ap (λ t. t || (bit_at n other == 1)) same))
    (λ (apart, differ). ap (λ b. b == 1) (bit_at_set_other w64 n k within other differ) ∙ sym (ap (λ t. t || (bit_at n other == 1)) apart))
    (eqb_tells other k)

pub or_bit-more : (n k : ℕ) → k < 64 → (bit_at n k == 1) ≡ false → n < bit_or n (1 * 2 ^ k % 2 ^ 64)
or_bit-more n k within clear =
    let most = le_or_l n (1 * 2 ^ k % 2 ^ 64) in
    let set = bit_at_set_same w64 n k within in
    let differ : n ≢ bit_or n (1 * 2 ^ k % 2 ^ 64) = λ e. both_ways (bit_at n k == 1) clear (ap (λ m. bit_at m k == 1) e ∙ ap (λ b. b == 1) set) in
    omega arith

pub bit_below : (k : ℕ) → 1 * 2 ^ k % 2 ^ 64 < 2 ^ 64
bit_below k = omega arith
