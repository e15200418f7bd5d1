use Rattle.std.proofs.Common.{inl, inr, Some, None}
use Rattle.line_grammar.proofs.Texts.{text_from-lone_escape, text_from-at_escape, text_from-at_break, text_from-plain}
use Rattle.line_grammar.proofs.reading.piece_at.Goals as goal

pub returns-in_default-clause-none : goal.returns-in_default-clause-none
returns-in_default-clause-none c = rw (c.if-byte-eq92.true, c.in_default.ensures.none) text_from-lone_escape

pub returns-in_default-escaped-clause-none : goal.returns-in_default-escaped-clause-none
returns-in_default-escaped-clause-none c =
    text_from-at_escape _ c.in-Some.letter _ c.in-Some.behind.now None c.if-byte-eq92.true c.in-Some.ensures.parts c.in_default-escaped.ensures

pub returns-in-Some-escaped-clause-piece : goal.returns-in-Some-escaped-clause-piece
returns-in-Some-escaped-clause-piece c =
    text_from-at_escape _ c.in-Some.letter _ c.in-Some.behind.now (Some c.in-Some-escaped.meant) c.if-byte-eq92.true c.in-Some.ensures.parts c.in-Some-escaped.ensures

pub returns-then-byte-eq13-clause-none : goal.returns-then-byte-eq13-clause-none
returns-then-byte-eq13-clause-none c =
    text_from-at_break c.args.byte c.args.after.now (elim c.if-byte-eq13.either [ inl feed ↦ inl feed | inr other ↦ inr other.1 ])

pub returns-else-byte-eq13-clause-piece : goal.returns-else-byte-eq13-clause-piece
returns-else-byte-eq13-clause-piece c =
    text_from-plain c.args.byte c.args.after.now c.requires c.if-byte-eq92.false c.if-byte-eq13.false.0 c.if-byte-eq13.false.1
