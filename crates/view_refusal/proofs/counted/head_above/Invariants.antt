use Rattle.std.proofs.Common.{◌≡◌, length}
use Rattle.std.specs.Prelude.{max}
use Rattle.line_grammar.specs.FileLines.{file_lines}
use Rattle.view_refusal.specs.Counted.{head_above}
use Rattle.view_refusal.proofs.counted.head_above.Given as goal

abbrev pub invariant-loop-line : goal.invariant-loop-line
invariant-loop-line l = max l.head (head_above l.at l.lines) ≡ head_above l.at (file_lines l.bytes)

abbrev pub decreases-loop-line : goal.decreases-loop-line
decreases-loop-line l = length l.lines
