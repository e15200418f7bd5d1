use Rattle.std.proofs.Common.{sym, ◌∙◌}
use Rattle.line_grammar.proofs.PlainTexts.{plain-meant}
use Rattle.line_grammar.proofs.reading.plain_text.Goals as goal

pub returns-then-begins_quote : goal.returns-then-begins_quote
returns-then-begins_quote c =
    plain-meant c.args.bytes.now c.split_at.result.0.now c.split_at.result.1.now c.plain_len.result c.plain_len.ensures.len c.split_at.ensures.front c.split_at.ensures.back (sym c.begins_quote.ensures ∙ c.if-begins_quote.true)
