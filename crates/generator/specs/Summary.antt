-- What the edits of the generated tables lead to, and what is told of it: a line after each thousand of them.
use Rattle.std.specs.Prelude.{◌≡◌, ℕ, List, ◌++◌, length, codes, decimal}
use Rattle.text_lists.specs.Limits.{standard}
use Rattle.text_lists.specs.declared.limits.Limits.{Limits}
use Rattle.shelf_io.specs.Transcript.{IsTranscript}
use Rattle.rule_model.specs.Books.{Book}
use Rattle.bench_core.specs.History.{History}
use Rattle.bench_core.specs.Loading.{Tuples}
use Rattle.bench_core.specs.State.{rows_at}
use Rattle.violation_report.specs.Listing.{listing}
use Rattle.session.specs.Leading.{LeadsTo}
use Rattle.drawn_project.specs.declared.edits.Thousand.{Thousand}
use Rattle.drawn_project.specs.Draws.{Drawn, ◌>>=◌, given}
use Rattle.drawn_project.specs.Edits.{thousands}
use Rattle.drawn_project.specs.Project.{AreRules, Begins, rows}

-- what is drawn off a number: the rows of g, and then all edits
unfoldable pub drawn : Drawn (Tuples × List Thousand)
drawn = do
  begun ← rows
  edits ← thousands
  given (begun, edits)

-- ---- a thousand edits

-- `at E rows R lines L`: after so many edits there are so many rows of g, and the list has so many lines
abbrev pub at_text : ℕ → ℕ → ℕ → List ℕ
at_text made rows lines = codes "at " ++ decimal made ++ codes " rows " ++ decimal rows ++ codes " lines " ++ decimal lines ++ codes "\n"

-- a thousand edits are made, and then the line tells of the history that they leave
pub record IsThousand (book : Book) (limits : Limits) (before : History) (thousand : Thousand) (told : List ℕ) (after : History) : Type 0 where
  pub made : LeadsTo book limits before thousand.commands after
  pub told-is : told ≡ at_text thousand.made (length (rows_at after.present 0)) (length (listing book after.present))

-- ---- all edits

-- The thousands are made one after the other, each with its line, and `done` stands behind the last. The list of the
-- state at the end has so many lines.
pub record IsSummary (book : Book) (limits : Limits) (start : History) (edits : List Thousand) (text : List ℕ) (lines : ℕ) : Type 0 where
  pub last : History
  pub told : List ℕ
  pub made : IsTranscript (IsThousand book limits) start edits told last
  pub text-is : text ≡ told ++ codes "done\n"
  pub lines-is : lines ≡ length (listing book last.present)

-- the summary of the project that is drawn off a number
pub record IsMade (seed : ℕ) (text : List ℕ) (lines : ℕ) : Type 0 where
  pub book : Book
  pub start : History
  pub are_rules : AreRules book
  pub begins : Begins book (drawn seed).0.0 start
  pub summary : IsSummary book standard start (drawn seed).0.1 text lines
