use Rattle.std.proofs.Common.{◌≡◌, ◌+◌, ◌<◌, ◌^◌, length}
use Rattle.line_grammar.specs.FileLines.{file_lines}
use Rattle.view_refusal.specs.Counted.{capped, members_behind}
use Rattle.view_refusal.proofs.counted.members_behind.Given as goal

abbrev pub invariant-loop-line : goal.invariant-loop-line
invariant-loop-line l = (l.count < 2 ^ 64) × (capped (l.count + members_behind l.head l.lines) ≡ capped (members_behind l.head (file_lines l.bytes)))

abbrev pub decreases-loop-line : goal.decreases-loop-line
decreases-loop-line l = length l.lines
