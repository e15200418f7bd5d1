use Rattle.std.proofs.Common.{Some, ap, sym, ◌∙◌}
use Rattle.line_grammar.proofs.LeadLemmas.{content-utf8}
use Rattle.line_grammar.proofs.line_reading.content_of.Goals as goal

pub returns : goal.returns
returns c =
    ap Some c.new-2.ensures ∙ content-utf8 c.args.line.now (sym c.is_utf8.ensures ∙ c.if-not-is_utf8.false) (sym c.is_passed.ensures ∙ c.if-is_passed.false)
