-- What a list that grows at its end holds after a refusal.
use Rattle.std.specs.Prelude.{◌≡◌, ℕ, List, ◌++◌}

-- new is old with a front of the text at its end
pub record AppendsPart (old new text : List ℕ) : Type 0 where
  pub part : List ℕ
  pub rest : List ℕ
  pub parts : part ++ rest ≡ text
  pub appended : new ≡ old ++ part
