-- Each single token that is read is taken off the front.
use Rattle.std.proofs.Common.{◌≡◌, ℕ, ◌<◌, Bool, true, false, cond, List, [], ◌∷◌, length, Option, Some, None, ap, sym, arith}
use Rattle.std.proofs.lemmas.Option.{none-some, some_pair_parts}
use Rattle.line_grammar.specs.Phrases.{name_at, text_at, constant_at, is_constant}
use Rattle.line_grammar.specs.declared.tokens.Token.{Token}
use Rattle.line_grammar.specs.declared.tokens.Token.TheVariants.{Name, Number, Quoted, Sign}

pub name_at-takes : (tokens rest : List Token) (x : List ℕ) → name_at tokens ≡ Some (x, rest) → length rest < length tokens
name_at-takes [] rest x e = absurd (none-some _ e)
name_at-takes (Name name ∷ tokens) rest x e = omega (arith, ap length (some_pair_parts _ _ _ _ e).1)
name_at-takes (Number n ∷ tokens) rest x e = absurd (none-some _ e)
name_at-takes (Quoted text ∷ tokens) rest x e = absurd (none-some _ e)
name_at-takes (Sign mark ∷ tokens) rest x e = absurd (none-some _ e)

pub text_at-takes : (tokens rest : List Token) (x : List ℕ) → text_at tokens ≡ Some (x, rest) → length rest < length tokens
text_at-takes [] rest x e = absurd (none-some _ e)
text_at-takes (Name name ∷ tokens) rest x e = absurd (none-some _ e)
text_at-takes (Number n ∷ tokens) rest x e = absurd (none-some _ e)
text_at-takes (Quoted text ∷ tokens) rest x e = omega (arith, ap length (some_pair_parts _ _ _ _ e).1)
text_at-takes (Sign mark ∷ tokens) rest x e = absurd (none-some _ e)

constant-takes : (test : Bool) (text x : List ℕ) (tokens rest : List Token) → cond {A = Option (List ℕ × List Token)} test (Some (text, tokens)) None ≡ Some (x, rest) → rest ≡ tokens
constant-takes true text x tokens rest e = sym (some_pair_parts _ _ _ _ e).1
constant-takes false text x tokens rest e = absurd (none-some _ e)

pub constant_at-takes : (tokens rest : List Token) (x : List ℕ) → constant_at tokens ≡ Some (x, rest) → length rest < length tokens
constant_at-takes [] rest x e = absurd (none-some _ e)
constant_at-takes (Name name ∷ tokens) rest x e = absurd (none-some _ e)
constant_at-takes (Number n ∷ tokens) rest x e = absurd (none-some _ e)
constant_at-takes (Quoted text ∷ tokens) rest x e = omega (arith, ap length (constant-takes (is_constant text) text x tokens rest e))
constant_at-takes (Sign mark ∷ tokens) rest x e = absurd (none-some _ e)
