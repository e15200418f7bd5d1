use Rattle.line_grammar.proofs.Texts.{text_from-at_quote, text_from-at_end}
use Rattle.line_grammar.proofs.reading.text_bytes.Goals as goal

pub returns-then-byte-eq39 : goal.returns-then-byte-eq39
returns-then-byte-eq39 c =
    text_from-at_quote _ _ _ _ c.in-Some.after.now c.if-byte-eq39.true c.in-Some.ensures.parts c.loop-byte.invariant

pub returns : goal.returns
returns c = text_from-at_end c.loop-byte.text.items _ _ c.in_default.ensures.none c.loop-byte.invariant
