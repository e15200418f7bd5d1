-- What numbers below a bound give.
use Rattle.std.specs.Prelude.{ℕ, zero, suc, ◌+◌, Bool, true, ◌&&◌, List, [], ◌++◌, if◌then◌else◌}

-- what 0, 1, and so on give, one after the other
abbrev pub gathered : {A : Type 0} → (ℕ → List A) → ℕ → List A
gathered f zero = []
gathered f (suc n) = gathered f n ++ f n

-- each number below the bound passes
abbrev pub every : (ℕ → Bool) → ℕ → Bool
every p zero = true
every p (suc n) = every p n && p n

-- how many numbers below the bound pass
abbrev pub tally : (ℕ → Bool) → ℕ → ℕ
tally p zero = 0
tally p (suc n) = tally p n + (if p n then 1 else 0)
