-- Files of events: the events that one spells, or its first faulty line with the first cause. Each line names an editor and
-- tells one act:
--
--     by NAME insert TABLE LIST1(TEXT)
--     by NAME set TABLE ID SEEN ATTR TEXT
--     by NAME delete TABLE ID SEEN
--     by NAME back
--     by NAME look TABLE ID
--     by NAME list
--
-- NAME, TABLE and ATTR are names, ID is a number from 1, SEEN a number from 0, and TEXT a text of any length.
use Rattle.std.specs.Prelude.{ℕ, List, [], ◌∷◌, ◌++◌, length, Some, None, Ok, if◌then◌else◌, nat_le, nat_lt, codes}
use Rattle.std.specs.Str.{bytes_eq}
use Rattle.line_grammar.specs.Faults as Fault
use Rattle.line_grammar.specs.FileLines.{read_line}
use Rattle.line_grammar.specs.Groups.{read_lines}
use Rattle.line_grammar.specs.Phrases.{◌>>=◌, after_word, name_at, number_at, only_if, text_at}
use Rattle.line_grammar.specs.TokenLists.{Reader, list1_at, none_after}
use Rattle.line_grammar.specs.declared.line.Line.{Line}
use Rattle.text_lists.specs.declared.limits.Limits.{Limits}
use Rattle.text_lists.specs.declared.limits.Limit.TheVariants as limit
use Rattle.desk_events.specs.declared.event.Act.{Act}
use Rattle.desk_events.specs.declared.event.Act.TheVariants as act
use Rattle.desk_events.specs.declared.event.Event.{Event}
use Rattle.desk_events.specs.declared.event.EventCause.{EventCause}
use Rattle.desk_events.specs.declared.event.EventCause.TheVariants as cause

-- ---- one act

-- ID
abbrev pub id_at : Reader ℕ
id_at tokens = number_at tokens >>= only_if (λ id. nat_le 1 id)

-- TABLE ID
abbrev pub row_at : Reader (List ℕ × ℕ)
row_at tokens = do
  table ← name_at tokens
  id ← id_at table.1
  Some ((table.0, id.0), id.1)

-- TABLE LIST1(TEXT)
abbrev pub insert_at : Reader Act
insert_at tokens = do
  table ← name_at tokens
  values ← list1_at text_at table.1
  Some (act.Insert table.0 values.0, values.1)

-- TABLE ID SEEN ATTR TEXT
abbrev pub set_at : Reader Act
set_at tokens = do
  row ← row_at tokens
  seen ← number_at row.1
  attr ← name_at seen.1
  value ← text_at attr.1
  Some (act.Set row.0.0 row.0.1 seen.0 attr.0 value.0, value.1)

-- TABLE ID SEEN
abbrev pub delete_at : Reader Act
delete_at tokens = do
  row ← row_at tokens
  seen ← number_at row.1
  Some (act.Delete row.0.0 row.0.1 seen.0, seen.1)

abbrev pub look_at : Reader Act
look_at tokens = row_at tokens >>= λ row. Some (act.Look row.0.0 row.0.1, row.1)

-- what stands behind the first word of an act
unfoldable pub act_for : List ℕ → Reader Act
act_for word rest =
    if bytes_eq word (codes "insert") then insert_at rest
    else if bytes_eq word (codes "set") then set_at rest
    else if bytes_eq word (codes "delete") then delete_at rest
    else if bytes_eq word (codes "back") then Some (act.TakeBack, rest)
    else if bytes_eq word (codes "look") then look_at rest
    else if bytes_eq word (codes "list") then Some (act.List, rest)
    else None

unfoldable pub act_at : Reader Act
act_at tokens = name_at tokens >>= λ word. act_for word.0 word.1

-- ---- one line

-- by NAME, and then the act
unfoldable pub event_at : Reader Event
event_at tokens = do
  behind ← after_word (codes "by") tokens
  editor ← name_at behind
  what ← act_at editor.1
  Some (record { editor = editor.0; act = what.0 }, what.1)

-- ---- all lines

abbrev pub event_causes : Fault.Causes EventCause
event_causes = record { not_utf8 = cause.NotUtf8; bad_line = cause.BadLine }

-- the events with one more, of which there may be only so many
abbrev pub with_event : Limits → List Event → ℕ → Event → Fault.Reading (List Event) EventCause
with_event limits earlier number event =
    if nat_lt (length earlier) limits.commands then Ok (earlier ++ event ∷ []) else Fault.faulty number (cause.TooMany limit.Commands)

-- the events with that of a line
unfoldable pub with_line : Limits → List Event → Line → Fault.Reading (List Event) EventCause
with_line limits earlier line =
    Fault.◌>>=◌ (read_line event_causes (λ tokens. none_after (event_at tokens)) line) (with_event limits earlier line.number)

-- the events of a file, or its first fault
unfoldable pub events_of : Limits → List ℕ → Fault.Reading (List Event) EventCause
events_of limits bytes = read_lines (with_line limits) [] bytes
