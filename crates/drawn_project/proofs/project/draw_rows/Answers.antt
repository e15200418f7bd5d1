use Rattle.std.proofs.Common.{List, ℕ, ap, sym, ◌∙◌, zero-add}
use Rattle.drawn_project.specs.Project.{row, rows}
use Rattle.drawn_project.proofs.Lists.{all_drawn, drawn-pushed, for_each-none}
use Rattle.drawn_project.proofs.project.draw_rows.Goals as goal

pub loop-place-init : goal.loop-place-init
loop-place-init c = ap (λ (rows : List (List (List ℕ))). (rows, c.args.draws.now)) c.new-rows.ensures ∙ sym (for_each-none (λ place. row) 0 c.args.draws.now)

pub loop-place-preserved : goal.loop-place-preserved
loop-place-preserved c =
    drawn-pushed (λ place. row) 0 c.loop-place.place c.loop-place.place c.args.draws.now c.loop-place.draws c.draw_row.new.draws c.loop-place.rows c.push.new.self _ (zero-add c.loop-place.place)
    c.loop-place.invariant c.in_ok-draw_row.ensures c.in_ok-push.ensures.ok

pub returns : goal.returns
unfolding rows
returns c = all_drawn (λ place. row) 0 c.loop-place.place 20000 c.args.draws.now c.loop-place.draws c.loop-place.rows c.loop-place-test.false c.loop-place.auto.place-end c.loop-place.invariant
