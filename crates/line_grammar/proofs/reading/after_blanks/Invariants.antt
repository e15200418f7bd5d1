use Rattle.std.proofs.Common.{◌≡◌, length}
use Rattle.line_grammar.specs.Tokens.{after_blanks}
use Rattle.line_grammar.proofs.reading.after_blanks.Given as goal

abbrev pub invariant-loop-byte : goal.invariant-loop-byte
invariant-loop-byte l = after_blanks l.rest ≡ after_blanks l.bytes

abbrev pub decreases-loop-byte : goal.decreases-loop-byte
decreases-loop-byte l = length l.rest
