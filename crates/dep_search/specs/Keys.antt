-- What stands for a candidate while candidates are sorted.
use Rattle.std.specs.Prelude.{◌≡◌, ℕ, ◌<◌, List, length, map, All, Option, Some}
use Rattle.std.specs.Option.{option_map}
use Rattle.std.specs.declared.vec.Vec.{Vec}
use Rattle.std.specs.declared.alloc.Global.{Global}
use Rattle.dep_search.specs.Rows.{Row, row_at}
use Rattle.dep_search.specs.Found.{constants, side_at}
use Rattle.dep_search.specs.declared.candidate.Candidate.{Candidate}

-- bytes as they are kept, and several of them
abbrev pub Kept : Type 0
Kept = Vec (Vec ℕ Global) Global

abbrev pub kept_texts : Kept → List (List ℕ)
kept_texts kept = map (λ text. text.items) kept.items

-- A, the number of X, the constants of X, and the row
abbrev pub Key : Type 0
Key = ℕ × ℕ × Option Kept × Option ℕ

abbrev pub candidate_of : Key → Candidate
candidate_of key = record { a = key.0; side = key.1; row = key.3 }

-- its constants are those of the candidate
abbrev pub IsKey : List Row → List (List ℕ) → Key → Type 0
IsKey rows sides key = option_map kept_texts key.2 ≡ constants rows sides (candidate_of key)

-- X is one of the left sides, and a row that has constants is one of the table, with A and the attributes of X
pub record IsCandidate (rows : List Row) (sides : List (List ℕ)) (c : Candidate) : Type 0 where
  pub side : c.side < length sides
  pub row : (r : ℕ) → c.row ≡ Some r → r < length rows
  pub x : (r : ℕ) → c.row ≡ Some r → All (λ attr. attr < length (row_at rows r)) (side_at sides c.side)
  pub a : (r : ℕ) → c.row ≡ Some r → c.a < length (row_at rows r)
