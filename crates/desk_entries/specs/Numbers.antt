-- The last number with a property.
use Rattle.std.specs.Prelude.{ℕ, zero, suc, Bool, if◌then◌else◌}

-- the greatest number from 1 up to `most` that passes the test, or 0 where none does
abbrev pub last_up_to : (ℕ → Bool) → ℕ → ℕ
last_up_to test zero = 0
last_up_to test (suc below) = if test (suc below) then suc below else last_up_to test below
