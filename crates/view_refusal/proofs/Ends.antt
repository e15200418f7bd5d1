-- A last piece behind what was written.
use Rattle.std.proofs.Common.{◌≡◌, ℕ, ◌+◌, ◌<◌, List, [], ◌∷◌, ◌++◌, length, get_or, take, Result, Ok, Err, ap, sym, ◌∙◌, append_assoc}
use Rattle.std.specs.List.{flat_map}
use Rattle.std.proofs.lemmas.List.{append-nil, take_more}
use Rattle.std.proofs.lemmas.Grind.{flat_map-append}
use Rattle.std.specs.Prelude.{OnOk, if◌then◌else◌, is_ok}

pub ends_ok : {X E : Type 0} (r : Result X E) (after before piece whole : List ℕ) → after ≡ (if is_ok r then before ++ piece else before) → before ++ piece ≡ whole → OnOk r (after ≡ whole)
ends_ok (Ok x) after before piece whole is same = is ∙ same
ends_ok (Err e) after before piece whole is same = tt

pub three_pieces : (out first name last one two seen : List ℕ) → one ≡ out ++ first → seen ≡ name → two ≡ one ++ seen → two ++ last ≡ out ++ ((first ++ name) ++ last)
three_pieces out first name last one two seen one_is seen_is two_is =
    ap (λ x. x ++ last) (two_is ∙ ap (λ x. x ++ seen) one_is ∙ ap (λ x. (out ++ first) ++ x) seen_is ∙ append_assoc out first name) ∙ append_assoc out (first ++ name) last

-- a second piece behind the first
pub then_piece : {X E : Type 0} (r : Result X E) (after before out one two : List ℕ) → OnOk r (after ≡ before ++ two) → before ≡ out ++ one → OnOk r (after ≡ out ++ (one ++ two))
then_piece (Ok x) after before out one two is first = is ∙ ap (λ b. b ++ two) first ∙ append_assoc out one two
then_piece (Err e) after before out one two is first = tt

-- what one item more writes
pub flat_map-more : {X : Type 0} (f : X → List ℕ) (xs : List X) (place : ℕ) (x : X) (out before after : List ℕ) → place < length xs → x ≡ get_or xs place x → before ≡ out ++ flat_map f (take place xs) → after ≡ before ++ f x
    → after ≡ out ++ flat_map f (take (place + 1) xs)
flat_map-more f xs place x out before after within is so_far more =
    let front = take place xs in
    let longer : take (place + 1) xs ≡ front ++ x ∷ [] = take_more xs place x within ∙ ap (λ z. front ++ z ∷ []) (sym is) in
    more ∙ ap (λ b. b ++ f x) so_far ∙ append_assoc out (flat_map f front) (f x)
    ∙ ap (λ z. out ++ z) (sym (ap (flat_map f) longer ∙ flat_map-append f front (x ∷ []) ∙ ap (λ z. flat_map f front ++ z) (append-nil (f x))))
