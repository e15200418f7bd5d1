use Rattle.line_grammar.proofs.Utf8.{is_utf8-from_utf8}
use Rattle.view_refusal.proofs.showing.is_utf8.Goals as goal

pub returns : goal.returns
returns c = is_utf8-from_utf8 _ _ c.args.text.now c.from_utf8.result c.is_ok.result c.from_utf8.ensures.cases c.is_ok.ensures.value
