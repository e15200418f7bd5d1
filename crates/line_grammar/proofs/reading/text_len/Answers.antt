use Rattle.std.proofs.Common.{ap, ◌∙◌}
use Rattle.line_grammar.specs.Tokens.{text_from}
use Rattle.line_grammar.proofs.LeadLemmas.{counted-at_quote, counted-none}
use Rattle.line_grammar.proofs.Texts.{text_from-nil}
use Rattle.line_grammar.proofs.reading.text_len.Goals as goal

pub returns-then-byte-eq39 : goal.returns-then-byte-eq39
returns-then-byte-eq39 c = counted-at_quote c.loop-byte.len _ _ _ c.in-Some.after.now c.if-byte-eq39.true c.in-Some.ensures.parts c.loop-byte.invariant.0

pub returns : goal.returns
returns c = counted-none c.loop-byte.len _ _ (ap text_from c.in_default.ensures.none ∙ text_from-nil) c.loop-byte.invariant.0
