-- What is written for an edit and for a fix, and the history that it leaves. Each line ends with a line feed.
use Rattle.std.specs.Prelude.{◌≡◌, ℕ, List, [], ◌++◌, Result, Ok, Err, codes, decimal}
use Rattle.rule_model.specs.Books.{Book}
use Rattle.edit_log.specs.declared.edit.Edit.{Edit}
use Rattle.edit_log.specs.declared.edit.Edit.TheVariants.{Insert, Set, Delete, Fix}
use Rattle.bench_core.specs.Edited.{name_of_table}
use Rattle.bench_core.specs.History.{History}
use Rattle.bench_core.specs.declared.edit.Applied.{Applied}
use Rattle.bench_core.specs.declared.edit.Applied.TheVariants.{Inserted, Changed}
use Rattle.bench_core.specs.declared.edit.EditFault.{EditFault}
use Rattle.bench_core.specs.declared.edit.EditFault.TheVariants.{UnknownTable, UnknownRow, UnknownAttr, WrongWidth, TextTooLong, NotInDomain, RowsFull, IdsSpent, Memory}
use Rattle.edit_replies.specs.Fixing.{Asked, IsVerdict}

-- ---- edits

-- `set TABLE ID ATTR` or `deleted TABLE ID`; an insertion tells its id instead, and a fix what it changes
abbrev pub changed_text : Edit → List ℕ
changed_text (Insert table values) = []
changed_text (Set table row attr value) = codes "set " ++ table ++ codes " " ++ decimal row ++ codes " " ++ attr ++ codes "\n"
changed_text (Delete table row) = codes "deleted " ++ table ++ codes " " ++ decimal row ++ codes "\n"
changed_text (Fix table row values) = []

-- `inserted TABLE ID`, or what is said of a change
abbrev pub done_text : Edit → Applied → List ℕ
done_text edit (Inserted row) = codes "inserted " ++ name_of_table edit ++ codes " " ++ decimal row ++ codes "\n"
done_text edit Changed = changed_text edit

-- ---- refusals

-- `refused CAUSE`
abbrev pub refused_text : List ℕ → List ℕ
refused_text cause = codes "refused " ++ cause ++ codes "\n"

-- the name of a cause
abbrev pub fault_text : EditFault → List ℕ
fault_text UnknownTable = codes "UnknownTable"
fault_text UnknownRow = codes "UnknownRow"
fault_text UnknownAttr = codes "UnknownAttr"
fault_text WrongWidth = codes "WrongWidth"
fault_text TextTooLong = codes "TextTooLong"
fault_text (NotInDomain attr) = codes "NotInDomain " ++ attr
fault_text RowsFull = codes "RowsFull"
fault_text IdsSpent = codes "IdsSpent"
fault_text Memory = codes "Memory"

-- ---- replies

-- this is written, and nothing changes
abbrev pub Tells : List ℕ → History → List ℕ → History → Type 0
Tells text before bytes after = (bytes ≡ text) × (after ≡ before)

-- an edit is done and told, or refused for its first cause, and then nothing changes
abbrev pub IsEditReply : History → Edit → Result (History × Applied) EditFault → List ℕ → History → Type 0
IsEditReply before edit (Ok done) bytes after = (bytes ≡ done_text edit done.1) × (after ≡ done.0)
IsEditReply before edit (Err fault) bytes after = Tells (refused_text (fault_text fault)) before bytes after

-- a row is corrected, or two runs disagree; or that can't be asked, and nothing changes
abbrev pub IsFixReply : Book → History → Result Asked EditFault → List ℕ → History → Type 0
IsFixReply rules before (Ok asked) bytes after = IsVerdict rules before asked bytes after
IsFixReply rules before (Err fault) bytes after = Tells (refused_text (fault_text fault)) before bytes after
