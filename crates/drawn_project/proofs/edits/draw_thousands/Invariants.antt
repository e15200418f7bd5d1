use Rattle.std.proofs.Common.{◌≡◌}
use Rattle.drawn_project.specs.Draws.{for_each}
use Rattle.drawn_project.specs.Edits.{thousand}
use Rattle.drawn_project.proofs.edits.draw_thousands.Given as goal

abbrev pub invariant-loop-before : goal.invariant-loop-before
invariant-loop-before l = (l.thousands, l.draws) ≡ for_each thousand 0 l.before l.fn.draws
