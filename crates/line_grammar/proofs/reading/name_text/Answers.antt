use Rattle.line_grammar.specs.declared.tokens.Token.TheVariants.{Name}
use Rattle.line_grammar.proofs.SpelledTokens.{IsUtf8-spelling}
use Rattle.line_grammar.proofs.Utf8.{IsOk-from_utf8}
use Rattle.line_grammar.proofs.reading.name_text.Goals as goal

pub unwrap-requires : goal.unwrap-requires
unwrap-requires c = IsOk-from_utf8 _ _ _ c.from_utf8.result c.from_utf8.ensures.cases (IsUtf8-spelling (Name c.args.name.now) c.requires)
