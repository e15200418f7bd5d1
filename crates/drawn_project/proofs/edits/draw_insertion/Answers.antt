use Rattle.std.proofs.Common.{List, ℕ, ap, ◌∙◌}
use Rattle.edit_log.specs.declared.edit.Edit.TheVariants as edit
use Rattle.script_lines.specs.declared.command.Command.{Command}
use Rattle.script_lines.specs.declared.command.Command.TheVariants as command
use Rattle.drawn_project.specs.Edits.{edited_table, insertion}
use Rattle.drawn_project.proofs.edits.draw_insertion.Goals as goal

of : List ℕ → List (List ℕ) × ℕ → Command × ℕ
of table drawn = (command.Edit (edit.Insert table drawn.0), drawn.1)

pub returns : goal.returns
unfolding insertion of
returns c = ap (λ table. of table (c.in_ok-values.values, c.draw_row.new.draws)) c.in_ok-table.ensures ∙ ap (of edited_table) c.in_ok-values.ensures
