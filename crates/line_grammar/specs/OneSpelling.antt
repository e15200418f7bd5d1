-- The law of spellings.
use Rattle.std.specs.Prelude.{◌≡◌, ℕ, List, ◌++◌, Some}
use Rattle.line_grammar.specs.Tokens.{quoted, token_at}
use Rattle.line_grammar.specs.declared.tokens.Token.TheVariants.{Quoted}

-- reading the spelling of a text gives the text, whatever follows it, and no other spelling gives it
pub record HasOneSpelling (text : List ℕ) : Type 0 where
  pub read_again : (rest : List ℕ) → token_at (quoted text ++ rest) ≡ Some (Quoted text, rest)
  pub no_other : (bytes rest : List ℕ) → token_at bytes ≡ Some (Quoted text, rest) → bytes ≡ quoted text ++ rest
