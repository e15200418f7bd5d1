-- How much of a line or a record is shown.
use Rattle.std.specs.Prelude.{ℕ, Bool, ◌&&◌, nat_le, List, ◌++◌, length, if◌then◌else◌, codes, decimal}
use Rattle.std.specs.Str.{is_utf8}

-- a text that can be looked at
abbrev pub is_short : List ℕ → Bool
is_short text = nat_le (length text) 4000 && is_utf8 text

-- of what is longer, or isn't UTF-8, how many bytes it has
abbrev pub shown : List ℕ → List ℕ
shown text = if is_short text then text else codes "(" ++ decimal (length text) ++ codes " bytes)"
