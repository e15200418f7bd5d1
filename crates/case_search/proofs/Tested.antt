-- The true variables of a range that were looked for.
use Rattle.std.proofs.Common.{◌≡◌, ℕ, ◌+◌, ◌<◌, ◌≤◌, Bool, true, false, List, get_or, ⊎_elim, arith}
use Rattle.std.proofs.lemmas.Bool.{cases_lt}

-- the first true variable of a range, where none follows it, is the only one
pub only_one : (values : List Bool) (from to at v : ℕ) → ((w : ℕ) → from ≤ w → w < at → get_or values w false ≡ true → ⊥) → ((w : ℕ) → at + 1 ≤ w → w < to → get_or values w false ≡ true → ⊥) → from ≤ v → v < to → get_or values v false ≡ true → v ≡ at
only_one values from to at v before after above below is =
    ⊎_elim
    (λ earlier. absurd (before v above earlier is))
    (λ later.
    ⊎_elim
    (λ past. absurd (after v (omega arith) below is))
    (λ within. omega arith)
    (cases_lt at v))
    (cases_lt v at)
