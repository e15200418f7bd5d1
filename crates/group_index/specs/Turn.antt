-- A lone row on its way from one A id to another: while it has both.
use Rattle.std.specs.Prelude.{ℕ, List, [], ◌∷◌}

pub record Turn : Type 0 where
  pub one : ℕ
  pub other : ℕ
  pub row : ℕ

-- either A id with the row
abbrev pub both_of : Turn → List (ℕ × ℕ)
both_of turn = (turn.one, turn.row) ∷ (turn.other, turn.row) ∷ []
