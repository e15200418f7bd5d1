-- What a sink tells of the bytes that it took, and how much of what was to be written was appended.
use Rattle.std.specs.Prelude.{◌≡◌, ℕ, ◌<◌, ◌≤◌, List, ◌++◌, length, Option, option_map}

-- what was written so far, where it tells that, and how many puts failed
pub record SinkTold : Type 0 where
  pub written : Option (List ℕ)
  pub faults : ℕ

-- what is told to be written once a piece was appended; a sink that tells nothing goes on telling nothing
abbrev pub appended : Option (List ℕ) → List ℕ → Option (List ℕ)
appended told piece = option_map (λ bytes. bytes ++ piece) told

-- between one byte and all of a piece, or nothing of a piece that is empty
pub record TakesPart (taken : ℕ) (piece : List ℕ) : Type 0 where
  pub some : 0 < length piece → 0 < taken
  pub within : taken ≤ length piece

-- one of these texts was appended
pub record Appends (texts : List ℕ → Type 0) (before after : Option (List ℕ)) : Type 0 where
  pub text : List ℕ
  pub is_one : texts text
  pub written : after ≡ appended before text

-- a front of one of these texts, from nothing of it to all of it
abbrev pub FrontOf : (List ℕ → Type 0) → List ℕ → Type 0
FrontOf texts front = (rest : List ℕ) × texts (front ++ rest)
