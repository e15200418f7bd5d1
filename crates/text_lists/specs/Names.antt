-- What may name a table, an attribute or a file.
use Rattle.std.specs.Prelude.{ℕ, ◌≤◌, Bool, false, ◌&&◌, ◌||◌, List, [], ◌∷◌, length, nat_le, ◌==◌, IsTrue}
use Rattle.std.specs.List.{list_all}
use Rattle.std.specs.Char.{is_ascii_alphabetic, is_ascii_digit}
use Rattle.std.specs.Str.{IsUtf8}
use Rattle.text_lists.specs.declared.bounds.TheConstants.{NAME_BYTES, CONSTANT_BYTES, FILE_NAME_BYTES}

-- an ASCII letter or digit, or `_`
abbrev pub is_name_byte : ℕ → Bool
is_name_byte b = is_ascii_alphabetic b || is_ascii_digit b || b == 95

-- an ASCII letter, then ASCII letters, digits and `_`, at most 64 bytes
abbrev pub is_name : List ℕ → Bool
is_name [] = false
is_name (b ∷ bs) = is_ascii_alphabetic b && list_all is_name_byte bs && nat_le (length (b ∷ bs)) NAME_BYTES

abbrev pub IsName : List ℕ → Type 0
IsName name = IsTrue (is_name name)

-- a text of 1 to 1,024 bytes
pub record IsFileName (file : List ℕ) : Type 0 where
  pub utf8 : IsUtf8 file
  pub some : 1 ≤ length file
  pub bound : length file ≤ FILE_NAME_BYTES

-- a text of at most 1,024 bytes
pub record IsConstant (value : List ℕ) : Type 0 where
  pub utf8 : IsUtf8 value
  pub bound : length value ≤ CONSTANT_BYTES
