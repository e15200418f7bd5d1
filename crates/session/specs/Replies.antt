-- What is written for a command, and the history that it leaves. Each line of a reply ends with a line feed.
use Rattle.std.specs.Prelude.{◌≡◌, ◌⊎◌, ℕ, List, [], ◌++◌, length, Option, None, Some, Result, Ok, Err, codes, decimal}
use Rattle.std.specs.List.{flat_map}
use Rattle.schema_core.specs.Lookups.{attrs_at}
use Rattle.schema_core.specs.Schemas.{table_place}
use Rattle.text_lists.specs.declared.limits.Limits.{Limits}
use Rattle.cfd_semantics.specs.Tuple.{tuples_of}
use Rattle.csv_tables.specs.WrittenFiles.{table_text}
use Rattle.rule_model.specs.Books.{Book}
use Rattle.bench_core.specs.History.{History, HasNoPast, HasNothingUndone, IsRedone, IsUndone, history_edited}
use Rattle.bench_core.specs.State.{State, rows_at}
use Rattle.violation_report.specs.Explained.{explanation}
use Rattle.violation_report.specs.Listing.{listing}
use Rattle.violation_report.specs.Text.{counted_text, lines_text}
use Rattle.violation_report.specs.declared.explaining.ExplainFault.{ExplainFault}
use Rattle.violation_report.specs.declared.explaining.ExplainFault.TheVariants as explain_fault
use Rattle.violation_report.specs.declared.line.Line.{Line}
use Rattle.edit_replies.specs.EditReplies.{IsEditReply, IsFixReply, Tells, refused_text}
use Rattle.edit_replies.specs.Fixing.{asked}
use Rattle.script_lines.specs.declared.command.Command.{Command}
use Rattle.script_lines.specs.declared.command.Command.TheVariants as command

-- ---- refusals

abbrev pub explain_fault_text : ExplainFault → List ℕ
explain_fault_text explain_fault.UnknownTable = codes "UnknownTable"
explain_fault_text explain_fault.UnknownRow = codes "UnknownRow"
explain_fault_text explain_fault.Memory = codes "Memory"

-- ---- answers

abbrev pub list_text : Book → State → List ℕ
list_text rules state = lines_text rules (codes "listed") (listing rules state)

-- how many lines the list has
abbrev pub count_text : Book → State → List ℕ
count_text rules state = counted_text (codes "count") (length (listing rules state))

-- the lines of a row, or why there are none to ask for
abbrev pub explained_text : Book → Result (List Line) ExplainFault → List ℕ
explained_text rules (Ok lines) = lines_text rules (codes "explained") lines
explained_text rules (Err fault) = refused_text (explain_fault_text fault)

abbrev pub explain_text : Book → State → List ℕ → ℕ → List ℕ
explain_text rules state table row = explained_text rules (explanation rules state table row)

-- the rows of a numbered table by rising ids, as a table file, then how many they are
abbrev pub rows_text : Book → State → ℕ → List ℕ
rows_text rules state table = table_text (attrs_at rules.schema table) (tuples_of (rows_at state table)) ++ counted_text (codes "exported") (length (rows_at state table))

abbrev pub exported_text : Book → State → Option ℕ → List ℕ
exported_text rules state None = refused_text (codes "UnknownTable")
exported_text rules state (Some table) = rows_text rules state table

-- the rows of the named table, where it is there
abbrev pub export_text : Book → State → List ℕ → List ℕ
export_text rules state table = exported_text rules state (table_place rules.schema table)

-- ---- replies

-- the last change is taken back, or there is none and nothing changes
abbrev pub IsUndoReply : History → List ℕ → History → Type 0
IsUndoReply before bytes after =
    ((bytes ≡ codes "undone\n") × IsUndone before after) ⊎ (HasNoPast before × Tells (refused_text (codes "NothingToUndo")) before bytes after)

-- the change that was taken back last is made again, or there is none and nothing changes
abbrev pub IsRedoReply : History → List ℕ → History → Type 0
IsRedoReply before bytes after =
    ((bytes ≡ codes "redone\n") × IsRedone before after) ⊎ (HasNothingUndone before × Tells (refused_text (codes "NothingToRedo")) before bytes after)

-- these bytes are written for the command in the history before it, and this is the history after it
abbrev pub IsReply : Book → Limits → History → Command → List ℕ → History → Type 0
IsReply rules limits before (command.Edit edit) bytes after = IsEditReply before edit (history_edited rules limits before edit) bytes after
IsReply rules limits before (command.Fix table row vouched) bytes after = IsFixReply rules before (asked rules before.present table row vouched) bytes after
IsReply rules limits before command.Undo bytes after = IsUndoReply before bytes after
IsReply rules limits before command.Redo bytes after = IsRedoReply before bytes after
IsReply rules limits before command.List bytes after = Tells (list_text rules before.present) before bytes after
IsReply rules limits before command.Count bytes after = Tells (count_text rules before.present) before bytes after
IsReply rules limits before (command.Explain table row) bytes after = Tells (explain_text rules before.present table row) before bytes after
IsReply rules limits before (command.Export table) bytes after = Tells (export_text rules before.present table) before bytes after
