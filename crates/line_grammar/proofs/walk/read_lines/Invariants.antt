use Rattle.std.proofs.Common.{◌≡◌, length}
use Rattle.line_grammar.specs.FileLines.{file_lines}
use Rattle.line_grammar.specs.Groups.{in_turn}
use Rattle.line_grammar.proofs.walk.read_lines.Given as goal

abbrev pub invariant-loop-line : goal.invariant-loop-line
invariant-loop-line g l =
    (g.G.Gather.made l.gathered ≡ g.G.Gather.made l.fn.gathered)
    × g.G.Gather.is_fit (g.G.Gather.made l.gathered) (g.G.Gather.gathered l.gathered)
    × (in_turn (g.G.Gather.with_item (g.G.Gather.made l.gathered)) (g.G.Gather.gathered l.gathered) l.lines
    ≡ in_turn (g.G.Gather.with_item (g.G.Gather.made l.fn.gathered)) (g.G.Gather.gathered l.fn.gathered) (file_lines l.fn.bytes))

abbrev pub decreases-loop-line : goal.decreases-loop-line
decreases-loop-line g l = length l.lines
