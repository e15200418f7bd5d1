use Rattle.std.proofs.Common.{sym, ◌∙◌}
use Rattle.line_grammar.specs.declared.tokens.Token.TheVariants.{Name}
use Rattle.line_grammar.proofs.SpelledTokens.{IsUtf8-spelling}
use Rattle.schema_draft.proofs.names.name_in.Goals as goal

pub returns-in-Err : goal.returns-in-Err
returns-in-Err c = absurd (c.in-Err.ensures.cases.0 (IsUtf8-spelling (Name c.args.bytes.now) (sym c.is_name.ensures ∙ c.if-not-is_name.false)))
