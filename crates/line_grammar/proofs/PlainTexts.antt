-- A text whose bytes all stand for themselves.
use Rattle.std.proofs.Common.{◌≡◌, ◌≢◌, inl, inr, ℕ, suc, ◌+◌, Bool, true, false, cond, List, [], ◌∷◌, take, drop, Option, Some, refl, ap, sym, ◌∙◌, subst, arith}
use Rattle.std.specs.Prelude.{not}
use Rattle.std.specs.List.{position_or_len}
use Rattle.std.proofs.lemmas.Bool.{cases_Bool, eqb-true, false≢true}
use Rattle.line_grammar.specs.Tokens.{is_special, begins_quote, text_from, with_byte}
use Rattle.line_grammar.specs.Leads.{meant}
use Rattle.line_grammar.proofs.Texts.{text_from-quote, text_from-plain}

-- the text has the first n bytes
abbrev IsFront : ℕ → List ℕ → Type 0
IsFront n bytes = (rest : List ℕ) × (text_from bytes ≡ Some (take n bytes, rest))

IsFront-quote : (b : ℕ) (bytes : List ℕ) → b ≡ 39 → IsFront 0 (b ∷ bytes)
IsFront-quote b bytes quote = (bytes, ap (λ (x : ℕ). text_from (x ∷ bytes)) quote ∙ text_from-quote bytes)

isnt : (b n : ℕ) → is_special b ≡ false → is_special n ≡ true → b ≢ n
isnt b n plain special same = false≢true (sym plain ∙ ap is_special same ∙ special)

IsFront-plain : (n b : ℕ) (bytes : List ℕ) → is_special b ≡ false → IsFront n bytes → IsFront (suc n) (b ∷ bytes)
IsFront-plain n b bytes plain (rest, found) =
    (rest, text_from-plain b bytes (isnt b 39 plain refl) (isnt b 92 plain refl) (isnt b 10 plain refl) (isnt b 13 plain refl) ∙ ap (with_byte b) found)

front : (bytes : List ℕ) → begins_quote (drop (position_or_len is_special bytes) bytes) ≡ true → IsFront (position_or_len is_special bytes) bytes
front [] quote = absurd (false≢true quote)
front (b ∷ bytes) quote =
    elim (cases_Bool (is_special b)) [
      | inl special ↦ (
          let none : position_or_len is_special (b ∷ bytes) ≡ 0 = ap (λ (s : Bool). cond (not s) (1 + position_or_len is_special bytes) 0) special in
          subst (λ (n : ℕ). IsFront n (b ∷ bytes)) (sym none) (IsFront-quote b bytes (eqb-true b 39 (subst (λ (n : ℕ). begins_quote (drop n (b ∷ bytes)) ≡ true) none quote)))
          )
      | inr plain ↦ (
          let one : position_or_len is_special (b ∷ bytes) ≡ suc (position_or_len is_special bytes) = ap (λ (s : Bool). cond (not s) (1 + position_or_len is_special bytes) 0) plain ∙ omega arith in
          subst (λ (n : ℕ). IsFront n (b ∷ bytes)) (sym one)
          (IsFront-plain (position_or_len is_special bytes) b bytes plain (front bytes (subst (λ (n : ℕ). begins_quote (drop n (b ∷ bytes)) ≡ true) one quote)))
          )
    ]

meant-some : (found : Option (List ℕ × List ℕ)) (text rest : List ℕ) → found ≡ Some (text, rest) → text ≡ meant found
meant-some found text rest is = sym (ap meant is)

-- where a quote stands behind the bytes that stand for themselves, these are the text
pub plain-meant : (bytes plain rest : List ℕ) (n : ℕ) → n ≡ position_or_len is_special bytes → plain ≡ take n bytes → rest ≡ drop n bytes → begins_quote rest ≡ true → plain ≡ meant (text_from bytes)
plain-meant bytes plain rest n len is behind quote =
    let cut = ap (λ (k : ℕ). drop k bytes) len in
    let found = front bytes (sym (ap begins_quote (behind ∙ cut)) ∙ quote) in
    is ∙ ap (λ (k : ℕ). take k bytes) len ∙ meant-some (text_from bytes) _ found.0 found.1
