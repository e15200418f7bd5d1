use Rattle.std.proofs.Common.{◌≡◌, IfOk, ap, sym, subst}
use Rattle.script_lines.specs.declared.command.Command.{Command}
use Rattle.drawn_project.specs.Draws.{Drawn}
use Rattle.drawn_project.proofs.Fives.{set_at, undo_at}
use Rattle.drawn_project.proofs.edits.draw_fifth.Goals as goal

pub returns-then-number-eq5 : goal.returns-then-number-eq5
returns-then-number-eq5 c = ap (λ (f : Drawn Command). f c.args.draws.now) (sym (undo_at c.args.number c.if-number-eq5.true))

pub returns-else-number-eq5 : goal.returns-else-number-eq5
returns-else-number-eq5 c =
    subst (λ (f : Drawn Command). IfOk c.draw_setting.result (λ drawn. (drawn, c.draw_setting.new.draws) ≡ f c.args.draws.now)) (sym (set_at c.args.number c.if-number-eq5.false)) c.draw_setting.ensures
