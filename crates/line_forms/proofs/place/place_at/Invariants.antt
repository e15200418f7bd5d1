use Rattle.std.proofs.Common.{◌≡◌, length, take}
use Rattle.line_grammar.specs.Lines.{lines}
use Rattle.line_forms.specs.Forms.{below_lines, place_at}
use Rattle.line_forms.proofs.place.place_at.Given as goal

abbrev pub invariant-loop-ahead : goal.invariant-loop-ahead
invariant-loop-ahead l = below_lines l.place (take l.ahead (lines l.rest)) ≡ place_at l.fn.start l.number l.bytes

abbrev pub decreases-loop-ahead : goal.decreases-loop-ahead
decreases-loop-ahead l = length l.rest
