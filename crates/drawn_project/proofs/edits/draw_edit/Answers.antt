use Rattle.std.proofs.Common.{◌≡◌, IfOk, List, ℕ, ◌+◌, ◌/◌, ap, sym, subst, ◌∙◌, arith}
use Rattle.edit_log.specs.declared.edit.Edit.TheVariants as edit
use Rattle.script_lines.specs.declared.command.Command.{Command}
use Rattle.script_lines.specs.declared.command.Command.TheVariants as command
use Rattle.drawn_project.specs.Draws.{Drawn}
use Rattle.drawn_project.proofs.Fives.{at_four, at_one, at_rest, at_three, at_two}
use Rattle.drawn_project.proofs.edits.draw_edit.Goals as goal

pub returns-in-1 : goal.returns-in-1
returns-in-1 c =
    subst (λ (f : Drawn Command). IfOk c.draw_insertion.result (λ drawn. (drawn, c.draw_insertion.new.draws) ≡ f c.args.draws.now)) (sym (at_one c.args.number c.in-1.is)) c.draw_insertion.ensures

pub returns-in-2 : goal.returns-in-2
returns-in-2 c = subst (λ (f : Drawn Command). IfOk c.draw_setting.result (λ drawn. (drawn, c.draw_setting.new.draws) ≡ f c.args.draws.now)) (sym (at_two c.args.number c.in-2.is)) c.draw_setting.ensures

pub returns-in-3 : goal.returns-in-3
returns-in-3 c = subst (λ (f : Drawn Command). IfOk c.draw_fixing.result (λ drawn. (drawn, c.draw_fixing.new.draws) ≡ f c.args.draws.now)) (sym (at_three c.args.number c.in-3.is)) c.draw_fixing.ensures

pub returns-in_ok-table-in-4 : goal.returns-in_ok-table-in-4
returns-in_ok-table-in-4 c =
    ap (λ (table : List ℕ). (command.Edit (edit.Delete table ((c.args.number + 1) / 5)), c.args.draws.now)) c.in_ok-table-in-4.ensures
    ∙ ap (λ (f : Drawn Command). f c.args.draws.now) (sym (at_four c.args.number c.in-4.is))

pub returns-in_default : goal.returns-in_default
returns-in_default c =
    let h = c.in_default in
    let rest = at_rest c.args.number (λ e. grind (arith, h, e)) (λ e. grind (arith, h, e)) (λ e. grind (arith, h, e)) (λ e. grind (arith, h, e)) in
    subst (λ (f : Drawn Command). IfOk c.draw_fifth.result (λ drawn. (drawn, c.draw_fifth.new.draws) ≡ f c.args.draws.now)) (sym rest) c.draw_fifth.ensures
