use Rattle.std.proofs.Common.{◌≡◌, length}
use Rattle.line_grammar.specs.Tokens.{text_from}
use Rattle.line_grammar.proofs.Texts.{with_front}
use Rattle.line_grammar.proofs.reading.text_bytes.Given as goal

abbrev pub invariant-loop-byte : goal.invariant-loop-byte
invariant-loop-byte l = with_front l.text.items (text_from l.rest) ≡ text_from l.bytes

abbrev pub decreases-loop-byte : goal.decreases-loop-byte
decreases-loop-byte l = length l.rest
