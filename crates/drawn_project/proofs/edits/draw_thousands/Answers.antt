use Rattle.std.proofs.Common.{List, ap, sym, ◌∙◌, zero-add}
use Rattle.drawn_project.specs.declared.edits.Thousand.{Thousand}
use Rattle.drawn_project.specs.Edits.{thousand, thousands}
use Rattle.drawn_project.proofs.Lists.{all_drawn, drawn-pushed, for_each-none}
use Rattle.drawn_project.proofs.edits.draw_thousands.Goals as goal

pub loop-before-init : goal.loop-before-init
loop-before-init c = ap (λ (all : List Thousand). (all, c.args.draws.now)) c.new-thousands.ensures ∙ sym (for_each-none thousand 0 c.args.draws.now)

pub loop-before-preserved : goal.loop-before-preserved
loop-before-preserved c =
    drawn-pushed thousand 0 c.loop-before.before c.loop-before.before c.args.draws.now c.loop-before.draws c.draw_thousand.new.draws c.loop-before.thousands c.push.new.self _ (zero-add c.loop-before.before)
    c.loop-before.invariant c.in_ok-draw_thousand.ensures c.in_ok-push.ensures.ok

pub returns : goal.returns
unfolding thousands
returns c = all_drawn thousand 0 c.loop-before.before 5 c.args.draws.now c.loop-before.draws c.loop-before.thousands c.loop-before-test.false c.loop-before.auto.before-end c.loop-before.invariant
