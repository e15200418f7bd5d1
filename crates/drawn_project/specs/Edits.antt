-- The edits that are made to the generated tables: 5,000 of them, in five thousands.
use Rattle.std.specs.Prelude.{ℕ, ◌+◌, ◌*◌, ◌/◌, ◌%◌, ◌==◌, if◌then◌else◌, List, [], ◌∷◌, codes}
use Rattle.edit_log.specs.declared.edit.Edit.TheVariants as edit
use Rattle.script_lines.specs.declared.command.Command.{Command}
use Rattle.script_lines.specs.declared.command.Command.TheVariants as command
use Rattle.drawn_project.specs.declared.edits.Thousand.{Thousand}
use Rattle.drawn_project.specs.Draws.{Drawn, ◌>>=◌, draw, for_each, given}
use Rattle.drawn_project.specs.Project.{lettered, row}

-- the table that is edited
abbrev pub edited_table : List ℕ
edited_table = codes "g"

-- one of the later half of the rows that were loaded
unfoldable pub old_row : Drawn ℕ
old_row = draw 10000 >>= λ place. given (10001 + place)

-- a new row
unfoldable pub insertion : Drawn Command
insertion = row >>= λ values. given (command.Edit (edit.Insert edited_table values))

-- another value of the attribute of that letter: the row is drawn first, and then the value
unfoldable pub setting : List ℕ → ℕ → Drawn Command
setting letter bound = do
  place ← old_row
  value ← draw bound
  given (command.Edit (edit.Set edited_table place letter (lettered letter value)))

-- a row is corrected from the master data of its k
unfoldable pub fixing : Drawn Command
fixing = old_row >>= λ place. given (command.Fix edited_table place (codes "k" ∷ []))

-- the rows go one after the other, from the first on
abbrev pub deletion : ℕ → Command
deletion number = command.Edit (edit.Delete edited_table ((number + 1) / 5))

-- an undo for the first of two fives, and another b for the second
unfoldable pub fifth : ℕ → Drawn Command
fifth number = if number % 10 == 5 then given command.Undo else setting (codes "b") 3

-- The edit of that number: of each ten two are insertions, two set an a, two fix a row, two delete one, one takes the
-- edit before it back, and the last sets a b.
unfoldable pub edit_at : ℕ → Drawn Command
edit_at number =
    if number % 5 == 1 then insertion
    else (if number % 5 == 2 then setting (codes "a") 7
    else (if number % 5 == 3 then fixing
    else (if number % 5 == 4 then given (deletion number)
    else fifth number)))

-- the edits after so many thousands, and how many there are with those before them
unfoldable pub thousand : ℕ → Drawn Thousand
thousand before = for_each edit_at (before * 1000 + 1) 1000 >>= λ commands. given (record { commands = commands; made = before * 1000 + 1000 })

-- all edits
unfoldable pub thousands : Drawn (List Thousand)
thousands = for_each thousand 0 5
