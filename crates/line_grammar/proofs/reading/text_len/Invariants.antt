use Rattle.std.proofs.Common.{◌≡◌, ◌+◌, ◌≤◌, length}
use Rattle.line_grammar.specs.Tokens.{text_from}
use Rattle.line_grammar.proofs.LeadLemmas.{counted}
use Rattle.line_grammar.proofs.reading.text_len.Given as goal

abbrev pub invariant-loop-byte : goal.invariant-loop-byte
invariant-loop-byte l = (counted l.len (text_from l.rest) ≡ counted 0 (text_from l.bytes)) × (l.len + length l.rest ≤ length l.bytes)

abbrev pub decreases-loop-byte : goal.decreases-loop-byte
decreases-loop-byte l = length l.rest
