use Rattle.std.proofs.Common.{sym, ◌∙◌}
use Rattle.std.proofs.lemmas.Str.{IsUtf8-from_is_utf8}
use Rattle.line_grammar.proofs.line.Content.tokens.Goals as goal

pub new-requires : goal.new-requires
new-requires c = IsUtf8-from_is_utf8 c.self.inside.line.now (sym c.self.invariant ∙ c.if-self.true)
