use Rattle.std.proofs.Common.{◌≡◌, ◌+◌, length}
use Rattle.line_grammar.specs.Lines.{lines}
use Rattle.cert_text.proofs.parse.line_count.Given as goal

abbrev pub invariant-loop-bytes : goal.invariant-loop-bytes
invariant-loop-bytes l = l.count + length (lines l.bytes) ≡ length (lines l.fn.bytes)

abbrev pub decreases-loop-bytes : goal.decreases-loop-bytes
decreases-loop-bytes l = length l.bytes
