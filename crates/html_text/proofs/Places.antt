-- What is written at one place after the other.
use Rattle.std.proofs.Common.{◌≡◌, ℕ, suc, ◌+◌, List, ◌++◌, ap, ◌∙◌, arith, append_assoc}
use Rattle.html_text.specs.Elements.{each_place}

next : (place : ℕ) → suc place ≡ place + 1
next place = omega arith

-- one place more
pub each_place-more : (text : ℕ → List ℕ) (place : ℕ) (out before after : List ℕ) → before ≡ out ++ each_place text place → after ≡ before ++ text place → after ≡ out ++ each_place text (place + 1)
each_place-more text place out before after so_far more =
    more ∙ ap (λ b. b ++ text place) so_far ∙ append_assoc out (each_place text place) (text place)
    ∙ ap (λ n. out ++ each_place text n) (next place)
