use Rattle.std.proofs.Common.{subst, sym, ◌∙◌}
use Rattle.std.specs.List.{AllByRecursion}
use Rattle.line_grammar.specs.GoodTokens.{IsGoodToken}
use Rattle.line_grammar.proofs.LeadLemmas.{line-good}
use Rattle.line_grammar.proofs.token_lists.read_tokens.Goals as goal

pub returns-then-is_token_list-clause-good : goal.returns-then-is_token_list-clause-good
returns-then-is_token_list-clause-good c =
    subst (AllByRecursion IsGoodToken) (sym c.in_ok-tokens.ensures) (line-good c.args.line.now c.in-Some.content c.in-Some-tokens.tokens (sym c.in-Some.is ∙ c.content_of.ensures) (sym c.in-Some-tokens.is ∙ c.tokens.ensures))

pub returns-else-is_token_list-clause-good : goal.returns-else-is_token_list-clause-good
returns-else-is_token_list-clause-good c =
    subst (AllByRecursion IsGoodToken) (sym c.in_ok-tokens.ensures) (line-good c.args.line.now c.in-Some.content c.in-Some-tokens.tokens (sym c.in-Some.is ∙ c.content_of.ensures) (sym c.in-Some-tokens.is ∙ c.tokens.ensures))
