use Rattle.std.proofs.Common.{List, ℕ, ap, ◌∙◌}
use Rattle.edit_log.specs.declared.edit.Edit.TheVariants as edit
use Rattle.script_lines.specs.declared.command.Command.{Command}
use Rattle.script_lines.specs.declared.command.Command.TheVariants as command
use Rattle.drawn_project.specs.Draws.{draw}
use Rattle.drawn_project.specs.Edits.{edited_table, setting}
use Rattle.drawn_project.specs.Project.{lettered}
use Rattle.drawn_project.proofs.edits.draw_setting.Goals as goal

set_to : List ℕ → ℕ → List ℕ → List ℕ → Command
set_to table row attr value = command.Edit (edit.Set table row attr value)

-- the edit, once its row is drawn, and once its value is
with_value : List ℕ → ℕ → ℕ × ℕ → Command × ℕ
with_value letter row drawn = (set_to edited_table row letter (lettered letter drawn.0), drawn.1)

with_row : List ℕ → ℕ → ℕ × ℕ → Command × ℕ
with_row letter bound drawn = with_value letter drawn.0 (draw bound drawn.1)

pub returns : goal.returns
unfolding setting set_to with_value with_row
returns c =
    let letter = c.args.letter.now in
    (λ i. (set_to (c.in_ok-table.ensures i) c.draw_old_row-row.result (c.in_ok-attr.ensures i) (c.in_ok-value.ensures i), c.draw-number.new.self))
    ∙ ap (with_value letter c.draw_old_row-row.result) c.draw-number.ensures.drawn
    ∙ ap (with_row letter c.args.bound) c.draw_old_row-row.ensures
