use Rattle.std.proofs.Common.{◌≡◌}
use Rattle.drawn_project.specs.Draws.{for_each}
use Rattle.drawn_project.specs.Edits.{edit_at}
use Rattle.drawn_project.proofs.edits.draw_thousand.Given as goal

abbrev pub invariant-loop-place : goal.invariant-loop-place
invariant-loop-place l = (l.commands, l.draws) ≡ for_each edit_at l.first l.place l.fn.draws
