use Rattle.std.proofs.Common.{sym, ◌∙◌}
use Rattle.std.proofs.lemmas.Str.{IsUtf8-from_is_utf8}
use Rattle.line_grammar.proofs.line.Content.is_token_list.Goals as goal

pub is_token_list-requires : goal.is_token_list-requires
is_token_list-requires c = IsUtf8-from_is_utf8 c.self.inside.line.now (sym c.self.invariant ∙ c.if-self.true)
