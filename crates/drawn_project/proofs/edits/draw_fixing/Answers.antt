use Rattle.std.proofs.Common.{List, ℕ, [], ◌∷◌, ◌++◌, codes, ap, ◌∙◌}
use Rattle.script_lines.specs.declared.command.Command.{Command}
use Rattle.script_lines.specs.declared.command.Command.TheVariants as command
use Rattle.drawn_project.specs.Edits.{edited_table, fixing}
use Rattle.drawn_project.proofs.edits.draw_fixing.Goals as goal

fix_of : List ℕ → List (List ℕ) → ℕ × ℕ → Command × ℕ
fix_of table vouched row = (command.Fix table row.0 vouched, row.1)

pub returns : goal.returns
unfolding fixing fix_of
returns c =
    let vouched = c.in_ok-push.ensures.ok ∙ (λ i. c.new-vouched.ensures i ++ c.in_ok-new.ensures i ∷ []) in
    (λ i. fix_of (c.in_ok-table.ensures i) (vouched i) (c.draw_old_row-row.result, c.draw_old_row-row.new.draws)) ∙ ap (fix_of edited_table (codes "k" ∷ [])) c.draw_old_row-row.ensures
