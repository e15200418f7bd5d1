-- What a desk is, and its answer to an event: the reply, and the desk that the event leaves.
use Rattle.std.specs.Prelude.{◌≡◌, ◌≢◌, ⊤, All, ℕ, ◌+◌, ◌==◌, nat_le, Bool, true, false, if◌then◌else◌, List, [], ◌∷◌, ◌++◌, length, Option, None, Some, Ok, Err, slice_get}
use Rattle.std.specs.Option.{option_map_or}
use Rattle.schema_core.specs.Schemas.{table_place}
use Rattle.schema_core.specs.declared.schema.Schema.{Schema}
use Rattle.schema_core.specs.declared.schema.Table.{Table}
use Rattle.text_lists.specs.declared.limits.Limits.{Limits}
use Rattle.rule_model.specs.Books.{Book}
use Rattle.edit_log.specs.declared.edit.Edit.{Edit}
use Rattle.edit_log.specs.declared.edit.Edit.TheVariants as edit
use Rattle.bench_core.specs.Answers.{row_texts}
use Rattle.bench_core.specs.Edited.{Step, name_of_table, row_named}
use Rattle.bench_core.specs.History.{History, history_edited}
use Rattle.bench_core.specs.State.{State}
use Rattle.bench_core.specs.declared.edit.Applied.{Applied}
use Rattle.bench_core.specs.declared.edit.Applied.TheVariants.{Inserted, Changed}
use Rattle.bench_core.specs.declared.edit.EditFault.TheVariants.{Memory}
use Rattle.violation_report.specs.Listing.{listing}
use Rattle.violation_report.specs.Text.{IsLineOf}
use Rattle.desk_events.specs.declared.event.Act.{Act}
use Rattle.desk_events.specs.declared.event.Act.TheVariants as act
use Rattle.desk_events.specs.declared.event.Event.{Event}
use Rattle.desk_state.specs.declared.reply.Reply.{Reply}
use Rattle.desk_state.specs.declared.reply.Reply.TheVariants.{Done, Row, Lines, Refused, Stale, Overtaken, NothingToTakeBack, EditsSpent}
use Rattle.desk_entries.specs.Entries.{Entry, entry_at, is_overtaken, last_live, version_of}

-- a history and a list of entries, with the rules and limits of the bench, and the number of the last entry that there
-- may be
pub record DeskModel : Type 0 where
  pub rules : Book
  pub limits : Limits
  pub last : ℕ
  pub history : History
  pub entries : List Entry

-- a reply, and the desk after it
abbrev pub Answer : Type 0
Answer = Reply × DeskModel

-- ---- an edit

-- the row of an accepted edit: the new one, or the one that the edit names
abbrev pub named_row : Edit → ℕ
named_row (edit.Insert table values) = 0
named_row (edit.Set table row attr value) = row
named_row (edit.Delete table row) = row
named_row (edit.Fix table row values) = row

abbrev pub row_of_edit : Edit → Applied → ℕ
row_of_edit edit (Inserted row) = row
row_of_edit edit Changed = named_row edit

-- the number of the table that an accepted edit names; a table of no such name has no edit that is accepted
abbrev pub table_of_edit : Book → Edit → ℕ
table_of_edit rules edit = option_map_or (λ number. number) (table_place rules.schema (name_of_table edit)) 0

-- the texts that the row of an edit of the numbered table has before it, which are none where it inserts a row
abbrev pub before_in : State → ℕ → Edit → Option (List (List ℕ))
before_in state number (edit.Insert table values) = None
before_in state number (edit.Set table row attr value) = row_texts state number row
before_in state number (edit.Delete table row) = row_texts state number row
before_in state number (edit.Fix table row values) = row_texts state number row

abbrev pub is_delete : Edit → Bool
is_delete (edit.Insert table values) = false
is_delete (edit.Set table row attr value) = false
is_delete (edit.Delete table row) = true
is_delete (edit.Fix table row values) = false

-- the entry of an edit that is accepted in this state
abbrev pub entry_in : Book → State → List ℕ → Option ℕ → Edit → ℕ → Entry
entry_in rules state editor takes edit row = record {
  editor = editor;
  table = table_of_edit rules edit;
  row = row;
  before = before_in state (table_of_edit rules edit) edit;
  deletes = is_delete edit;
  takes = takes;
}

-- an accepted edit is the next entry
abbrev pub accepted : DeskModel → Entry → History → Answer
accepted desk entry after = (Done entry.table entry.row (length desk.entries + 1), record desk { history = after; entries = desk.entries ++ entry ∷ [] })

-- the edit is refused, or accepted
abbrev pub made : DeskModel → List ℕ → Option ℕ → Edit → Step (History × Applied) → Answer
made desk editor takes edit (Err fault) = (Refused fault, desk)
made desk editor takes edit (Ok (after, applied)) = accepted desk (entry_in desk.rules desk.history.present editor takes edit (row_of_edit edit applied)) after

-- no edit is accepted where there are `last` entries
abbrev pub edit_answer : DeskModel → List ℕ → Option ℕ → Edit → Answer
edit_answer desk editor takes edit =
    if nat_le desk.last (length desk.entries) then (EditsSpent, desk) else made desk editor takes edit (history_edited desk.rules desk.limits desk.history edit)

-- ---- a row that is named

-- an edit of a row that was seen in some version, which is to be its present one
abbrev pub edit_seen : DeskModel → List ℕ → ℕ → ℕ → Edit → Step (ℕ × List (List ℕ)) → Answer
edit_seen desk editor row seen edit (Err fault) = (Refused fault, desk)
edit_seen desk editor row seen edit (Ok (table, texts)) =
    let version = version_of desk.entries table row in if seen == version then edit_answer desk editor None edit else (Stale version, desk)

abbrev pub look_answer : DeskModel → ℕ → Step (ℕ × List (List ℕ)) → Answer
look_answer desk row (Err fault) = (Refused fault, desk)
look_answer desk row (Ok (table, texts)) = (Row table (version_of desk.entries table row) texts, desk)

-- ---- taking back

-- the name of a numbered table
abbrev pub table_name : Schema → ℕ → List ℕ
table_name schema number = option_map_or (λ (t : Table). t.name) (slice_get schema.tables number) []

-- what takes back an edit of this row of the named table: an insertion is deleted, a change is put back, and what was
-- deleted is inserted as a new row
abbrev pub opposite_edit : List ℕ → ℕ → Option (List (List ℕ)) → Bool → Edit
opposite_edit name row None deletes = edit.Delete name row
opposite_edit name row (Some texts) false = edit.Fix name row texts
opposite_edit name row (Some texts) true = edit.Insert name texts

abbrev pub opposite : Schema → Entry → Edit
opposite schema entry = opposite_edit (table_name schema entry.table) entry.row entry.before entry.deletes

-- The numbered entry is taken back, unless somebody built on it. It is the editor's last live one, if there is one.
abbrev pub take_back : DeskModel → List ℕ → ℕ → Option Entry → Answer
take_back desk editor number None = (NothingToTakeBack, desk)
take_back desk editor number (Some entry) =
    if is_overtaken desk.entries number entry
    then (Overtaken (version_of desk.entries entry.table entry.row), desk)
    else edit_answer desk editor (Some number) (opposite desk.rules.schema entry)

abbrev pub take_last_back : DeskModel → List ℕ → Answer
take_last_back desk editor = let number = last_live desk.entries editor in take_back desk editor number (entry_at desk.entries number)

-- ---- events

abbrev pub act_answer : DeskModel → List ℕ → Act → Answer
act_answer desk editor (act.Insert table values) = edit_answer desk editor None (edit.Insert table values)
act_answer desk editor (act.Set table row seen attr value) = edit_seen desk editor row seen (edit.Set table row attr value) (row_named desk.rules desk.history.present table row)
act_answer desk editor (act.Delete table row seen) = edit_seen desk editor row seen (edit.Delete table row) (row_named desk.rules desk.history.present table row)
act_answer desk editor act.TakeBack = take_last_back desk editor
act_answer desk editor (act.Look table row) = look_answer desk row (row_named desk.rules desk.history.present table row)
act_answer desk editor act.List = (Lines (listing desk.rules desk.history.present), desk)

-- the reply to an event, and the desk that the event leaves
abbrev pub answered : DeskModel → Event → Answer
answered desk event = act_answer desk event.editor event.act

-- this is the reply to the event, and the desk after it
abbrev pub IsDeskAnswer : DeskModel → Event → Reply → DeskModel → Type 0
IsDeskAnswer desk event reply after = answered desk event ≡ (reply, after)

-- ---- what each reply is

-- the fault of a refusal isn't want of memory, and the lines are those of rules that are there
abbrev pub AreTold : Book → Reply → Type 0
AreTold rules (Refused fault) = fault ≢ Memory
AreTold rules (Lines lines) = All (IsLineOf rules) lines
AreTold rules reply = ⊤
