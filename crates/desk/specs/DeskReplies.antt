-- What is written for an event at a desk, and the desk that it leaves. Each line of a reply ends with a line feed.
use Rattle.std.specs.Prelude.{◌≡◌, ℕ, List, ◌++◌, codes, decimal}
use Rattle.shelf_io.specs.Transcript.{Replies}
use Rattle.line_grammar.specs.Spelling.{line_text, spaced_list}
use Rattle.rule_model.specs.Books.{Book}
use Rattle.rule_parser.specs.RuleText.{value_parts}
use Rattle.violation_report.specs.Text.{lines_text, table_name}
use Rattle.edit_replies.specs.EditReplies.{fault_text, refused_text}
use Rattle.desk_events.specs.declared.event.Act.{Act}
use Rattle.desk_events.specs.declared.event.Act.TheVariants as act
use Rattle.desk_events.specs.declared.event.Event.{Event}
use Rattle.desk_state.specs.Desk.{DeskModel, IsDeskAnswer}
use Rattle.desk_state.specs.Probes.{IsWithin}
use Rattle.desk_state.specs.declared.reply.Reply.{Reply}
use Rattle.desk_state.specs.declared.reply.Reply.TheVariants as reply

-- the first word of the reply to an act that isn't refused; a list tells it behind its lines
abbrev pub reply_word : Act → List ℕ
reply_word (act.Insert table values) = codes "inserted"
reply_word (act.Set table row seen attr value) = codes "set"
reply_word (act.Delete table row seen) = codes "deleted"
reply_word act.TakeBack = codes "back"
reply_word (act.Look table row) = codes "row"
reply_word act.List = codes "listed"

-- the row that an act names
abbrev pub asked_row : Act → ℕ
asked_row (act.Insert table values) = 0
asked_row (act.Set table row seen attr value) = row
asked_row (act.Delete table row seen) = row
asked_row act.TakeBack = 0
asked_row (act.Look table row) = row
asked_row act.List = 0

-- `WORD TABLE ID VERSION`
abbrev pub version_text : Book → List ℕ → ℕ → ℕ → ℕ → List ℕ
version_text rules word table row version =
    word ++ codes " " ++ table_name rules.schema table ++ codes " " ++ decimal row ++ codes " " ++ decimal version

-- ` LIST1(TEXT)`, the texts of a row
abbrev pub texts_text : List (List ℕ) → List ℕ
texts_text values = line_text (spaced_list value_parts values)

-- the text of a reply to an act
abbrev pub reply_text : Book → Act → Reply → List ℕ
reply_text rules asked (reply.Done table row version) = version_text rules (reply_word asked) table row version ++ codes "\n"
reply_text rules asked (reply.Row table version values) = version_text rules (reply_word asked) table (asked_row asked) version ++ texts_text values ++ codes "\n"
reply_text rules asked (reply.Lines lines) = lines_text rules (reply_word asked) lines
reply_text rules asked (reply.Refused fault) = refused_text (fault_text fault)
reply_text rules asked (reply.Stale version) = refused_text (codes "Stale " ++ decimal version)
reply_text rules asked (reply.Overtaken version) = refused_text (codes "Overtaken " ++ decimal version)
reply_text rules asked reply.NothingToTakeBack = refused_text (codes "NothingToTakeBack")
reply_text rules asked reply.EditsSpent = refused_text (codes "EditsSpent")

-- these bytes are written for the event at the desk before it, and this is the desk after it
abbrev pub IsReply : Replies DeskModel Event
IsReply before event bytes after = (told : Reply) × IsDeskAnswer before event told after × (bytes ≡ reply_text before.rules event.act told)

-- a desk with the count of probes so far
abbrev pub Counted : Type 0
Counted = DeskModel × ℕ

-- a reply, with no more probes than its event may take
abbrev pub IsCountedReply : Replies Counted Event
IsCountedReply before event bytes after = IsReply before.0 event bytes after.0 × IsWithin before.0 event.editor event.act before.1 after.1
