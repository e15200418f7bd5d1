-- The fates of pieces. The question of a piece is whether the pieces that stay before it, and all pieces after it, imply it.
use Rattle.std.specs.Prelude.{◌≡◌, ℕ, Bool, true, false, List, [], ◌∷◌, ◌++◌, map}
use Rattle.schema_core.specs.declared.schema.Schema.{Schema}
use Rattle.rule_model.specs.declared.dep.Dep.{Dep}
use Rattle.cfd_implication.specs.Answers.{IsImplicationAnswer}
use Rattle.cfd_implication.specs.declared.answer.Implication.{Implication}
use Rattle.cfd_implication.specs.declared.answer.Implication.TheVariants as answers
use Rattle.rule_cover.specs.declared.fates.Fate.{Fate}
use Rattle.rule_cover.specs.declared.fates.Fate.TheVariants.{Dropped, Kept, Spent}
use Rattle.rule_cover.specs.declared.fates.Piece.{Piece}
use Rattle.rule_cover.specs.Pieces.{deps_in, numbers_in, table_pieces}
use Rattle.rule_cover.specs.Rounds.{again_if}

-- all but a dropped piece stay
abbrev pub stays : Fate → Bool
stays (Dropped tree) = false
stays (Kept one other) = true
stays (Spent tree) = true

abbrev pub is_spent : Fate → Bool
is_spent (Dropped tree) = false
is_spent (Kept one other) = false
is_spent (Spent tree) = true

-- the answer to the question of a piece by which it has its fate
abbrev pub answer_of : Fate → Implication
answer_of (Dropped tree) = answers.Implied tree
answer_of (Kept one other) = answers.Counter one other
answer_of (Spent tree) = answers.Spent tree

-- the piece, where it stays
abbrev pub kept_piece : Dep → Piece × Fate → List Dep
kept_piece piece fate = again_if (stays fate.1) piece

-- the pieces that stay
abbrev pub left : List Dep → List (Piece × Fate) → List Dep
left [] fates = []
left (piece ∷ pieces) [] = []
left (piece ∷ pieces) (fate ∷ fates) = kept_piece piece fate ++ left pieces fates

-- Each fate is right for its piece: a tree refutes its question, and the piece is implied; or two tuples satisfy the pieces
-- of its question and not the piece; or a tree is right as far as it goes, with as many leaves as the budget, which is less
-- than enough. before: the pieces that stay before these
abbrev pub AreRight : Schema → ℕ → List Dep → List Dep → List (Piece × Fate) → Type 0
AreRight schema budget before [] [] = Unit {0}
AreRight schema budget before [] (fate ∷ fates) = ⊥
AreRight schema budget before (piece ∷ after) [] = ⊥
AreRight schema budget before (piece ∷ after) (fate ∷ fates) =
    IsImplicationAnswer schema (before ++ after) piece budget (answer_of fate.1) × AreRight schema budget (before ++ kept_piece piece fate) after fates

abbrev pub numbers_of : List (Piece × Fate) → List Piece
numbers_of fates = map (λ (fate : Piece × Fate). fate.0) fates

-- one for each piece of the table, in their order
abbrev pub AreNumbersOf : ℕ → List Dep → List (Piece × Fate) → Type 0
AreNumbersOf table deps fates = numbers_of fates ≡ numbers_in (table_pieces table deps)

-- the fates of the pieces of a table are right for a budget
pub record AreFates (schema : Schema) (deps : List Dep) (table budget : ℕ) (fates : List (Piece × Fate)) : Type 0 where
  pub numbers : AreNumbersOf table deps fates
  pub right : AreRight schema budget [] (deps_in (table_pieces table deps)) fates

-- those of some table, for some budget
abbrev pub AreSomeFates : Schema → List Dep → List (Piece × Fate) → Type 0
AreSomeFates schema deps fates = (table : ℕ) × (budget : ℕ) × AreFates schema deps table budget fates

-- ---- whatever the budget

abbrev pub IsSomeAnswer : Schema → List Dep → Dep → Fate → Type 0
IsSomeAnswer schema others piece fate = (budget : ℕ) × IsImplicationAnswer schema others piece budget (answer_of fate)

abbrev pub AreSomeRight : Schema → List Dep → List Dep → List (Piece × Fate) → Type 0
AreSomeRight schema before after fates = (budget : ℕ) × AreRight schema budget before after fates
