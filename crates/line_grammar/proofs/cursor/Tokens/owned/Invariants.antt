use Rattle.std.proofs.Common.{◌≡◌, ◌++◌, length}
use Rattle.line_grammar.proofs.cursor.Tokens.owned.Given as goal

abbrev pub invariant-loop-lead : goal.invariant-loop-lead
invariant-loop-lead l = l.tokens ++ l.self ≡ l.initial.self

abbrev pub decreases-loop-lead : goal.decreases-loop-lead
decreases-loop-lead l = length l.self
