use Rattle.std.proofs.Common.{◌≡◌}
use Rattle.drawn_project.specs.Draws.{for_each}
use Rattle.drawn_project.specs.Project.{row}
use Rattle.drawn_project.proofs.project.draw_rows.Given as goal

abbrev pub invariant-loop-place : goal.invariant-loop-place
invariant-loop-place l = (l.rows, l.draws) ≡ for_each (λ place. row) 0 l.place l.fn.draws
