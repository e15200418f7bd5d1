use Rattle.std.proofs.Common.{List, ℕ, ◌+◌, ◌*◌, ap, sym, ◌∙◌, refl}
use Rattle.script_lines.specs.declared.command.Command.{Command}
use Rattle.drawn_project.specs.declared.edits.Thousand.{Thousand}
use Rattle.drawn_project.specs.Edits.{edit_at, thousand}
use Rattle.drawn_project.proofs.Lists.{all_drawn, drawn-pushed, for_each-none}
use Rattle.drawn_project.proofs.edits.draw_thousand.Goals as goal

pub loop-place-init : goal.loop-place-init
loop-place-init c = ap (λ (commands : List Command). (commands, c.args.draws.now)) c.new-commands.ensures ∙ sym (for_each-none edit_at (c.args.before * 1000 + 1) c.args.draws.now)

pub loop-place-preserved : goal.loop-place-preserved
loop-place-preserved c =
    drawn-pushed edit_at (c.args.before * 1000 + 1) c.loop-place.place (c.args.before * 1000 + 1 + c.loop-place.place) c.args.draws.now c.loop-place.draws c.draw_edit.new.draws c.loop-place.commands c.push.new.self _ refl
    c.loop-place.invariant c.in_ok-draw_edit.ensures c.in_ok-push.ensures.ok

numbered : ℕ → List Command × ℕ → Thousand × ℕ
numbered before drawn = (record { commands = drawn.0; made = before * 1000 + 1000 }, drawn.1)

pub returns : goal.returns
unfolding thousand numbered
returns c =
    ap (numbered c.args.before) (all_drawn edit_at (c.args.before * 1000 + 1) c.loop-place.place 1000 c.args.draws.now c.loop-place.draws c.loop-place.commands c.loop-place-test.false c.loop-place.auto.place-end c.loop-place.invariant)
