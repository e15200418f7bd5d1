-- The rounds in which pieces are asked one after the other.
use Rattle.std.specs.Prelude.{Bool, true, false, List, [], ◌∷◌}
use Rattle.rule_model.specs.declared.dep.Dep.{Dep}

-- the pieces that stay so far, and those that weren't asked yet
pub record Halves : Type 0 where
  pub before : List Dep
  pub after : List Dep

-- a piece between those that stay before it and all after it
pub record AskedPiece : Type 0 where
  pub before : List Dep
  pub piece : Dep
  pub after : List Dep

abbrev pub again_if : Bool → Dep → List Dep
again_if true piece = piece ∷ []
again_if false piece = []
