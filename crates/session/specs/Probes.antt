-- How many probes of indexes the commands of a script take.
use Rattle.std.specs.Prelude.{ℕ, ◌≤◌, ◌+◌, List}
use Rattle.text_lists.specs.declared.limits.Limits.{Limits}
use Rattle.rule_model.specs.Books.{Book}
use Rattle.bench_core.specs.History.{History, first_undone, last_past}
use Rattle.bench_core.specs.Indexed.{AreOfTheChange, edit_probes, table_probes}
use Rattle.bench_core.specs.DirtyCounts.{list_probes}
use Rattle.violation_report.specs.Probes.{explain_probes}
use Rattle.shelf_io.specs.Transcript.{Replies}
use Rattle.session.specs.Replies.{IsReply}
use Rattle.script_lines.specs.declared.command.Command.{Command}
use Rattle.script_lines.specs.declared.command.Command.TheVariants as command

-- From the one count to the other there were no more probes than the command may take in this history. What changes a row
-- takes as many as the rules of its table say, however many rows there are, and so does what is told of one row. The list and
-- its count take one for each dirty group or key and tableau row.
abbrev pub IsWithin : Book → History → Command → ℕ → ℕ → Type 0
IsWithin rules history (command.Edit edit) before after = after ≤ before + edit_probes rules edit
IsWithin rules history (command.Fix table row vouched) before after = after ≤ before + table_probes rules table
IsWithin rules history command.Undo before after = AreOfTheChange rules history.present (last_past history) before after
IsWithin rules history command.Redo before after = AreOfTheChange rules history.present (first_undone history) before after
IsWithin rules history command.List before after = after ≤ before + list_probes rules history.present
IsWithin rules history command.Count before after = after ≤ before + list_probes rules history.present
IsWithin rules history (command.Explain table row) before after = after ≤ before + explain_probes rules table
IsWithin rules history (command.Export table) before after = after ≤ before

-- a history with the count of probes so far
abbrev pub Counted : Type 0
Counted = History × ℕ

-- a reply, with no more probes than its command may take
abbrev pub IsCountedReply : Book → Limits → Replies Counted Command
IsCountedReply rules limits before command bytes after = IsReply rules limits before.0 command bytes after.0 × IsWithin rules before.0 command before.1 after.1
