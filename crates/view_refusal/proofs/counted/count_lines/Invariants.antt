use Rattle.std.proofs.Common.{◌≡◌, ◌+◌, ◌<◌, ◌^◌, length}
use Rattle.std.specs.Prelude.{sum_by}
use Rattle.line_grammar.specs.FileLines.{file_lines}
use Rattle.view_refusal.specs.Counted.{capped, on_line}
use Rattle.view_refusal.proofs.counted.count_lines.Given as goal

abbrev pub invariant-loop-line : goal.invariant-loop-line
invariant-loop-line l = (l.count < 2 ^ 64) × (capped (l.count + sum_by (on_line l.limit l.at) l.lines) ≡ capped (sum_by (on_line l.limit l.at) (file_lines l.bytes)))

abbrev pub decreases-loop-line : goal.decreases-loop-line
decreases-loop-line l = length l.lines
