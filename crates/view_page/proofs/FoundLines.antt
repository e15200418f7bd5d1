-- The lines of what is found, one after the other.
use Rattle.std.proofs.Common.{◌≡◌, ℕ, List, [], ◌∷◌, ◌++◌, ap, sym, ◌∙◌, append_assoc}
use Rattle.line_grammar.specs.Lines.{lines}

-- one line more
pub lines-more : (rest behind line : List ℕ) (before after : List (List ℕ)) → lines rest ≡ line ∷ lines behind → after ≡ before ++ line ∷ [] → after ++ lines behind ≡ before ++ lines rest
lines-more rest behind line before after split more =
    ap (λ (a : List (List ℕ)). a ++ lines behind) more ∙ append_assoc before (line ∷ []) (lines behind) ∙ ap (λ (found : List (List ℕ)). before ++ found) (sym split)
