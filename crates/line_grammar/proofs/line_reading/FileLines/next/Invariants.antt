use Rattle.std.proofs.Common.{◌≡◌, ◌+◌, ◌<◌, ◌^◌, length}
use Rattle.line_grammar.specs.Lines.{lines}
use Rattle.line_grammar.specs.FileLines.{lines_from}
use Rattle.line_grammar.proofs.line_reading.FileLines.next.Given as goal

abbrev pub invariant-loop-self : goal.invariant-loop-self
invariant-loop-self l =
    (lines_from (l.self-inside.before + 1) (lines l.self-inside.rest.now) ≡ lines_from (l.initial.self-inside.before + 1) (lines l.initial.self-inside.rest.now))
    × (l.self-inside.before + length l.self-inside.rest.now < 2 ^ 64)

abbrev pub decreases-loop-self : goal.decreases-loop-self
decreases-loop-self l = length l.self-inside.rest.now
