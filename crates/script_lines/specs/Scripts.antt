-- Script files: the commands that one spells, or its first faulty line with the first cause. Each line stands alone:
--
--     insert TABLE LIST1(TEXT)
--     set TABLE ID ATTR TEXT
--     delete TABLE ID
--     fix TABLE ID [LIST(ATTR)]
--     undo
--     redo
--     list
--     count
--     explain TABLE ID
--     export TABLE
--
-- TABLE and ATTR are names, ID is a number from 1, and TEXT a text of any length.
use Rattle.std.specs.Prelude.{ℕ, List, [], ◌∷◌, ◌++◌, length, Some, None, Ok, if◌then◌else◌, nat_le, nat_lt, codes}
use Rattle.std.specs.Str.{bytes_eq}
use Rattle.line_grammar.specs.Faults as Fault
use Rattle.line_grammar.specs.FileLines.{read_line}
use Rattle.line_grammar.specs.Groups.{read_lines}
use Rattle.line_grammar.specs.Marks.{after_mark}
use Rattle.line_grammar.specs.Phrases.{◌>>=◌, list_until, name_at, number_at, only_if, text_at}
use Rattle.line_grammar.specs.TokenLists.{Reader, list1_at, none_after}
use Rattle.line_grammar.specs.declared.line.Line.{Line}
use Rattle.text_lists.specs.declared.limits.Limits.{Limits}
use Rattle.text_lists.specs.declared.limits.Limit.TheVariants as limit
use Rattle.line_grammar.specs.declared.tokens.Mark.TheVariants.{CloseBracket, OpenBracket}
use Rattle.edit_log.specs.declared.edit.Edit.TheVariants.{Insert, Set, Delete}
use Rattle.script_lines.specs.declared.command.Command.{Command}
use Rattle.script_lines.specs.declared.command.Command.TheVariants as command
use Rattle.script_lines.specs.declared.command.ScriptCause.{ScriptCause}
use Rattle.script_lines.specs.declared.command.ScriptCause.TheVariants as cause

-- ---- one line

-- ID
abbrev pub id_at : Reader ℕ
id_at tokens = number_at tokens >>= only_if (λ id. nat_le 1 id)

-- TABLE ID
abbrev pub row_at : Reader (List ℕ × ℕ)
row_at tokens = do
  table ← name_at tokens
  id ← id_at table.1
  Some ((table.0, id.0), id.1)

-- TABLE LIST1(TEXT)
abbrev pub insert_at : Reader Command
insert_at tokens = do
  table ← name_at tokens
  values ← list1_at text_at table.1
  Some (command.Edit (Insert table.0 values.0), values.1)

-- TABLE ID ATTR TEXT
abbrev pub set_at : Reader Command
set_at tokens = do
  row ← row_at tokens
  attr ← name_at row.1
  value ← text_at attr.1
  Some (command.Edit (Set row.0.0 row.0.1 attr.0 value.0), value.1)

abbrev pub delete_at : Reader Command
delete_at tokens = row_at tokens >>= λ row. Some (command.Edit (Delete row.0.0 row.0.1), row.1)

-- TABLE ID [LIST(ATTR)]
abbrev pub fix_at : Reader Command
fix_at tokens = do
  row ← row_at tokens
  inside ← after_mark OpenBracket row.1
  vouched ← list_until name_at CloseBracket inside
  Some (command.Fix row.0.0 row.0.1 vouched.0, vouched.1)

abbrev pub explain_at : Reader Command
explain_at tokens = row_at tokens >>= λ row. Some (command.Explain row.0.0 row.0.1, row.1)

abbrev pub export_at : Reader Command
export_at tokens = name_at tokens >>= λ table. Some (command.Export table.0, table.1)

-- what stands behind the first word of a command that tells something
unfoldable pub question_for : List ℕ → Reader Command
question_for word rest =
    if bytes_eq word (codes "list") then Some (command.List, rest)
    else if bytes_eq word (codes "count") then Some (command.Count, rest)
    else if bytes_eq word (codes "explain") then explain_at rest
    else if bytes_eq word (codes "export") then export_at rest
    else None

-- what stands behind the first word of a command
unfoldable pub command_for : List ℕ → Reader Command
command_for word rest =
    if bytes_eq word (codes "insert") then insert_at rest
    else if bytes_eq word (codes "set") then set_at rest
    else if bytes_eq word (codes "delete") then delete_at rest
    else if bytes_eq word (codes "fix") then fix_at rest
    else if bytes_eq word (codes "undo") then Some (command.Undo, rest)
    else if bytes_eq word (codes "redo") then Some (command.Redo, rest)
    else question_for word rest

unfoldable pub command_at : Reader Command
command_at tokens = name_at tokens >>= λ word. command_for word.0 word.1

-- ---- all lines

abbrev pub script_causes : Fault.Causes ScriptCause
script_causes = record { not_utf8 = cause.NotUtf8; bad_line = cause.BadLine }

-- the commands with one more, of which there may be only so many
abbrev pub with_command : Limits → List Command → ℕ → Command → Fault.Reading (List Command) ScriptCause
with_command limits earlier number command =
    if nat_lt (length earlier) limits.commands then Ok (earlier ++ command ∷ []) else Fault.faulty number (cause.TooMany limit.Commands)

-- the commands with that of a line
unfoldable pub with_line : Limits → List Command → Line → Fault.Reading (List Command) ScriptCause
with_line limits earlier line =
    Fault.◌>>=◌ (read_line script_causes (λ tokens. none_after (command_at tokens)) line) (with_command limits earlier line.number)

-- the commands of a script, or its first fault
unfoldable pub script_of : Limits → List ℕ → Fault.Reading (List Command) ScriptCause
script_of limits bytes = read_lines (with_line limits) [] bytes
