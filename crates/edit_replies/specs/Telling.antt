-- What is told of a verdict, and what the telling gives.
use Rattle.std.specs.Prelude.{◌≡◌, ℕ, ◌<◌, List, length, All, Option, Some, None, Ok}
use Rattle.schema_core.specs.Rows.{IsRowOf}
use Rattle.text_lists.specs.declared.limits.Limits.{Limits}
use Rattle.schema_core.specs.declared.schema.Table.{Table}
use Rattle.rule_model.specs.Books.{Book, book_edits}
use Rattle.bench_core.specs.Edited.{Step}
use Rattle.bench_core.specs.History.{History, accepted}
use Rattle.bench_core.specs.Stored.{HaveTexts}
use Rattle.rule_runs.specs.Marks.{marked}
use Rattle.rule_runs.specs.declared.moves.Move.{Move}
use Rattle.rule_runs.specs.declared.runs.Run.{Run}
use Rattle.fix_engine.specs.Questions.{texts_of}
use Rattle.fix_engine.specs.declared.verdict.Verdict.{Verdict}
use Rattle.fix_engine.specs.declared.verdict.Verdict.TheVariants.{Unique, Conflict}
use Rattle.edit_replies.specs.Fixing.{Asked, IsFixed, conflict_text, covered, fixed_text, rewritten}
use Rattle.edit_replies.specs.EditReplies.{IsFixReply}

-- its rules are of the book, and its tuple is one of the table, with ids that have texts
pub record IsToldRun (rules : Book) (texts : List (List ℕ)) (table : Table) (run : Run) : Type 0 where
  pub rules-there : All (λ (move : Move). move.rule < length (book_edits rules)) run.moves
  pub width : length run.tuple ≡ length table.attrs
  pub named : HaveTexts texts run.tuple

-- what a verdict names is there
abbrev pub CanBeTold : Book → List (List ℕ) → Table → Verdict → Type 0
CanBeTold rules texts table (Unique tuple covered moves) = (length tuple ≡ length table.attrs) × HaveTexts texts tuple
CanBeTold rules texts table (Conflict first second attr) = (attr < length table.attrs) × IsToldRun rules texts table first × IsToldRun rules texts table second

-- what is told of a verdict on a row with these value ids
abbrev pub verdict_text : Book → List (List ℕ) → Table → ℕ → List ℕ → Verdict → List ℕ
verdict_text rules texts table row old (Unique tuple marks moves) =
    fixed_text table row (texts_of texts old) (texts_of texts tuple) (covered (length table.attrs) (marked marks))
verdict_text rules texts table row old (Conflict first second attr) =
    conflict_text rules table row attr (texts_of texts first.tuple) (texts_of texts second.tuple) first.moves second.moves

-- the texts that the row is to get
abbrev pub texts_to_write : List (List ℕ) → Verdict → Option (List (List ℕ))
texts_to_write texts (Unique tuple marks moves) = Some (texts_of texts tuple)
texts_to_write texts (Conflict first second attr) = None

-- a row of the table is to be written, and then the row is fixed as was told
pub record IsToldFixed (limits : Limits) (before : History) (made : Step Asked) (bytes : List ℕ) (texts : List (List ℕ)) : Type 0 where
  pub asked : Asked
  pub made-is : made ≡ Ok asked
  pub fit : IsRowOf asked.table.attrs limits.cell_bytes texts
  pub fixed : IsFixed before asked bytes (accepted before (rewritten before.present asked texts))

-- the answer was told, but for the texts that are still to be written
abbrev pub IsToldFix : Book → Limits → History → Step Asked → List ℕ → Option (List (List ℕ)) → Type 0
IsToldFix rules limits before made bytes (Some texts) = IsToldFixed limits before made bytes texts
IsToldFix rules limits before made bytes None = IsFixReply rules before made bytes before
