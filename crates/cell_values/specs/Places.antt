-- The places of distinct texts, as a map tells them.
use Rattle.std.specs.Prelude.{ℕ, List, Option, IfSome, IfNone}
use Rattle.value_pool.specs.Pool.{HasId, IsNew, HaveOneId}

-- no text stands at two places, and each has the place that is told of it
pub record ArePlaces (texts : List (List ℕ)) (place : List ℕ → Option ℕ) : Type 0 where
  pub distinct : HaveOneId texts
  pub found : (text : List ℕ) → IfSome (place text) (HasId texts text)
  pub absent : (text : List ℕ) → IfNone (place text) (IsNew texts text)
