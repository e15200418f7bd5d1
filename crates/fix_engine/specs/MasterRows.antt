-- Fixes are rows: what a run writes comes from master rows, and what a rule's source may be, its target may be.
use Rattle.std.specs.Prelude.{ℕ, List, IfSome}
use Rattle.schema_core.specs.Lookups.{attrs_at}
use Rattle.schema_core.specs.Rows.{IsRowOf}
use Rattle.schema_core.specs.declared.schema.Schema.{Schema}
use Rattle.rule_runs.specs.declared.moves.Move.{Move}
use Rattle.rule_runs.specs.Moves.{IsRunOf}
use Rattle.fix_engine.specs.Fixes.{Question, stage_after}
use Rattle.fix_engine.specs.Questions.{MasterTexts}

-- each master row is a row of its table
abbrev pub AreMasterRows : Schema → ℕ → MasterTexts → Type 0
AreMasterRows schema cell_bytes masters = (table row : ℕ) → IfSome (masters table row) (IsRowOf (attrs_at schema table) cell_bytes)

-- If the tuple is a row of the question's table, and the master rows are rows of theirs, then each run ends in a row.
abbrev pub LeadsToRows : Schema → Question (List ℕ) → Type 0
LeadsToRows schema question =
    (cell_bytes : ℕ) → IsRowOf (attrs_at schema question.basis.table) cell_bytes question.stage.tuple → AreMasterRows schema cell_bytes question.basis.masters
    → (moves : List Move) → IsRunOf question.basis question.stage moves → IsRowOf (attrs_at schema question.basis.table) cell_bytes (stage_after question moves).tuple
