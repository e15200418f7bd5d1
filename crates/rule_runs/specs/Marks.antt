-- Sets of attributes, as the bits of a number.
use Rattle.std.specs.Prelude.{ℕ, ◌==◌, ◌||◌, Bool}
use Rattle.std.specs.Int.{bit_at}
use Rattle.rule_runs.specs.declared.marks.Marks.{Marks}

-- the attribute is in the set
abbrev pub marked : Marks → ℕ → Bool
marked marks attr = bit_at marks.0 attr == 1

-- a set with one more attribute
abbrev pub with_attr : (ℕ → Bool) → ℕ → ℕ → Bool
with_attr set attr other = other == attr || set other
