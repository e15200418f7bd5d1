use Rattle.std.proofs.Common.{◌≡◌, ◌++◌, length}
use Rattle.line_grammar.specs.Lines.{lines}
use Rattle.view_page.proofs.found.lines_of.Given as goal

abbrev pub invariant-loop-rest : goal.invariant-loop-rest
invariant-loop-rest l = l.found ++ lines l.rest ≡ lines l.text

abbrev pub decreases-loop-rest : goal.decreases-loop-rest
decreases-loop-rest l = length l.rest
