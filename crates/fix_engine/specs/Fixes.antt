-- What the fix of a tuple is: it is said of all maximal runs, which are lists of moves, and of nothing else. How a fix is
-- found stands nowhere here. The values of tuples are of any kind.
use Rattle.std.specs.Prelude.{◌≡◌, ◌≢◌, ℕ, ◌<◌, Bool, true, List, take, slice_get}
use Rattle.rule_runs.specs.declared.moves.Move.{Move}
use Rattle.rule_runs.specs.Moves.{Basis, Stage, IsMaximalRun, end_after}

-- What is asked: a tuple with the attributes that are vouched for, what it may be corrected by, and how many attributes
-- its table has.
pub record Question (V : Type 0) : Type 0 where
  pub basis : Basis V
  pub stage : Stage V
  pub width : ℕ

-- the set has each of so many attributes
abbrev pub HasAll : ℕ → (ℕ → Bool) → Type 0
HasAll width set = (attr : ℕ) → attr < width → set attr ≡ true

-- the first place at which two tuples differ
pub record DifferFirstAt {V : Type 0} (one other : List V) (place : ℕ) : Type 0 where
  pub before : take place one ≡ take place other
  pub here : slice_get one place ≢ slice_get other place

module _ {V : Type 0} (question : Question V) where
  -- the moves are a maximal run from the tuple, and where they lead
  abbrev pub IsFullRun : List Move → Type 0
  IsFullRun moves = IsMaximalRun question.basis question.stage moves

  abbrev pub stage_after : List Move → Stage V
  stage_after moves = end_after question.basis question.stage moves

  -- all maximal runs end in the tuple
  abbrev pub AllEndIn : List V → Type 0
  AllEndIn tuple = (moves : List Move) → IsFullRun moves → (stage_after moves).tuple ≡ tuple

  -- all of them end at the stage: in its tuple, and with its validated attributes
  abbrev pub AllEndAt : Stage V → Type 0
  AllEndAt stage = (moves : List Move) → IsFullRun moves → stage_after moves ≡ stage

  -- the fix is unique: all maximal runs end in one tuple
  abbrev pub IsUnique : Type 0
  IsUnique = (tuple : List V) × AllEndIn tuple

  -- it is certain: it is unique, and each maximal run has validated all attributes
  pub record IsCertain : Type 0 where
    pub unique : IsUnique
    pub all : (moves : List Move) → IsFullRun moves → HasAll question.width (stage_after moves).validated

  -- Maximal runs that end in one tuple have validated the same attributes.
  abbrev pub TuplesTellValidated : Type 0
  TuplesTellValidated =
      (one other : List Move) → IsFullRun one → IsFullRun other → (stage_after one).tuple ≡ (stage_after other).tuple
      → (attr : ℕ) → (stage_after one).validated attr ≡ (stage_after other).validated attr
