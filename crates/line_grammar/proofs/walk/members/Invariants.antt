use Rattle.std.proofs.Common.{◌≡◌, ◌++◌, true, length}
use Rattle.std.specs.List.{AllByRecursion}
use Rattle.line_grammar.specs.FileLines.{begins_with}
use Rattle.line_grammar.proofs.walk.members.Given as goal

abbrev pub invariant-loop-line : goal.invariant-loop-line
invariant-loop-line l = (l.initial.lines ≡ l.members ++ l.lines) × AllByRecursion (λ line. begins_with l.fn.member line ≡ true) l.members

abbrev pub decreases-loop-line : goal.decreases-loop-line
decreases-loop-line l = length l.lines
