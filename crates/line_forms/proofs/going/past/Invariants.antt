use Rattle.std.proofs.Common.{◌≡◌, length}
use Rattle.line_forms.specs.Going.{past}
use Rattle.line_forms.proofs.going.past.Given as goal

abbrev pub invariant-loop-piece : goal.invariant-loop-piece
invariant-loop-piece l = past l.token l.rest ≡ past l.token l.left

abbrev pub decreases-loop-piece : goal.decreases-loop-piece
decreases-loop-piece l = length l.rest
