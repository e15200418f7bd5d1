-- Runs of moves. A move applies at a stage or it doesn't, and leads to a next stage.
use Rattle.std.specs.Prelude.{List, [], ◌∷◌}

module _ {Stage Move : Type 0} (Applies : Stage → Move → Type 0) (after : Stage → Move → Stage) where
  -- each move applies in its place
  abbrev pub IsRun : Stage → List Move → Type 0
  IsRun stage [] = Unit {0}
  IsRun stage (move ∷ moves) = Applies stage move × IsRun (after stage move) moves

  -- the stage after the last move
  abbrev pub end_of : Stage → List Move → Stage
  end_of stage [] = stage
  end_of stage (move ∷ moves) = end_of (after stage move) moves

  -- no move applies
  abbrev pub IsLast : Stage → Type 0
  IsLast stage = (move : Move) → ¬ Applies stage move

  -- a run at whose end no move applies
  pub record IsMaximal (stage : Stage) (moves : List Move) : Type 0 where
    pub run : IsRun stage moves
    pub maximal : IsLast (end_of stage moves)
