-- A number that is read takes a token.
use Rattle.std.proofs.Common.{◌≡◌, ℕ, ◌<◌, List, [], ◌∷◌, length, Some, ap, arith}
use Rattle.std.proofs.lemmas.Option.{none-some, some_pair_parts}
use Rattle.line_grammar.specs.Phrases.{number_at}
use Rattle.line_grammar.specs.declared.tokens.Token.{Token}
use Rattle.line_grammar.specs.declared.tokens.Token.TheVariants.{Name, Number, Quoted, Sign}

pub number_at-takes : (tokens rest : List Token) (x : ℕ) → number_at tokens ≡ Some (x, rest) → length rest < length tokens
number_at-takes [] rest x e = absurd (none-some _ e)
number_at-takes (Name name ∷ tokens) rest x e = absurd (none-some _ e)
number_at-takes (Number n ∷ tokens) rest x e = omega (arith, ap length (some_pair_parts _ _ _ _ e).1)
number_at-takes (Quoted text ∷ tokens) rest x e = absurd (none-some _ e)
number_at-takes (Sign mark ∷ tokens) rest x e = absurd (none-some _ e)
