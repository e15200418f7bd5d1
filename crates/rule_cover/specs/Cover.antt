-- What the pieces that stay are, said of tuples alone: they ask for the same as all rules of the table, and of those that are
-- kept none could be left out.
use Rattle.std.specs.Prelude.{ℕ, ◌↔◌, List, [], ◌∷◌, ◌++◌, All}
use Rattle.schema_core.specs.Lookups.{attrs_at}
use Rattle.schema_core.specs.declared.schema.Schema.{Schema}
use Rattle.rule_model.specs.declared.dep.Dep.{Dep}
use Rattle.cell_values.specs.Tuples.{IsTupleOf}
use Rattle.cfd_implication.specs.Implied.{IsImplied, SatisfyTable}
use Rattle.rule_cover.specs.declared.fates.Fate.{Fate}
use Rattle.rule_cover.specs.declared.fates.Fate.TheVariants.{Dropped, Kept, Spent}
use Rattle.rule_cover.specs.declared.fates.Piece.{Piece}
use Rattle.rule_cover.specs.Fates.{AreFates, kept_piece, left}
use Rattle.rule_cover.specs.Pieces.{deps_in, table_pieces}

-- a kept piece isn't implied by the others that stay
abbrev pub IsNeeded : Schema → List Dep → Dep → Fate → Type 0
IsNeeded schema others piece (Dropped tree) = Unit {0}
IsNeeded schema others piece (Kept one other) = ¬ IsImplied schema others piece
IsNeeded schema others piece (Spent tree) = Unit {0}

-- so each of them; before: the pieces that stay before these
abbrev pub AreNeeded : Schema → List Dep → List Dep → List (Piece × Fate) → Type 0
AreNeeded schema before [] fates = Unit {0}
AreNeeded schema before (piece ∷ after) [] = Unit {0}
AreNeeded schema before (piece ∷ after) (fate ∷ fates) =
    IsNeeded schema (before ++ left after fates) piece fate.1 × AreNeeded schema (before ++ kept_piece piece fate) after fates

-- two lists of dependencies ask the same of each finite list of tuples of a table
abbrev pub AskTheSame : Schema → ℕ → List Dep → List Dep → Type 0
AskTheSame schema table some others =
    (tuples : List (List (List ℕ))) → All (IsTupleOf (attrs_at schema table)) tuples → SatisfyTable table some tuples ↔ SatisfyTable table others tuples

-- The fates of the pieces of a table are right. The same lists of tuples satisfy the pieces that stay, all pieces, and the
-- dependencies of the table; and no kept piece is implied by the others that stay.
pub record IsCover (schema : Schema) (deps : List Dep) (table budget : ℕ) (fates : List (Piece × Fate)) : Type 0 where
  pub right : AreFates schema deps table budget fates
  pub whole : AskTheSame schema table (deps_in (table_pieces table deps)) deps
  pub same : AskTheSame schema table (left (deps_in (table_pieces table deps)) fates) (deps_in (table_pieces table deps))
  pub needed : AreNeeded schema [] (deps_in (table_pieces table deps)) fates
