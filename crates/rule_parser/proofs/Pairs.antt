-- Two lists that are written pair by pair.
use Rattle.std.proofs.Common.{◌≡◌, ℕ, ◌+◌, ◌<◌, ◌≤◌, List, [], ◌∷◌, ◌++◌, length, get_or, take, ap, sym, ◌∙◌, append_assoc, arith}
use Rattle.std.specs.Prelude.{min}
use Rattle.std.specs.List.{flat_map, zip}
use Rattle.std.proofs.lemmas.Grind.{flat_map-append}
use Rattle.std.proofs.lemmas.List.{append-nil, take_more, take_all}
use Rattle.std.proofs.lemmas.Slice.Zip.{get_or-zip, length-zip}
use Rattle.line_grammar.specs.Spelling.{part_text, line_text, after_comma}
use Rattle.rule_parser.specs.RuleText.{pair_parts}

zip_more : (xs ys : List (List ℕ)) (i : ℕ) (x y : List ℕ) → i < length xs → i < length ys → x ≡ get_or xs i x → y ≡ get_or ys i y → take (i + 1) (zip xs ys) ≡ take i (zip xs ys) ++ (x, y) ∷ []
zip_more xs ys i x y left right is_left is_right =
    take_more (zip xs ys) i (x, y) (omega (arith, length-zip xs ys))
    ∙ ap (λ p. take i (zip xs ys) ++ p ∷ []) (get_or-zip xs ys i (x, y) left right ∙ ap (λ t. (t, get_or ys i y)) (sym is_left) ∙ ap (λ t. (x, t)) (sym is_right))

pub pairs_step : (old out between new : List ℕ) (xs ys : List (List ℕ)) (i : ℕ) (x y : List ℕ) → i < length xs → i < length ys → x ≡ get_or xs i x → y ≡ get_or ys i y
    → out ≡ old ++ line_text (flat_map (after_comma pair_parts) (take i (zip xs ys))) → between ≡ out ++ 44 ∷ 32 ∷ [] → new ≡ between ++ line_text (pair_parts (x, y))
    → new ≡ old ++ line_text (flat_map (after_comma pair_parts) (take (i + 1) (zip xs ys)))
pairs_step old out between new xs ys i x y left right is_left is_right written comma pair =
    let before = flat_map (after_comma pair_parts) (take i (zip xs ys)) in
    let more : flat_map (after_comma pair_parts) (take (i + 1) (zip xs ys)) ≡ before ++ after_comma pair_parts (x, y) =
    ap (flat_map (after_comma pair_parts)) (zip_more xs ys i x y left right is_left is_right) ∙ flat_map-append (after_comma pair_parts) (take i (zip xs ys)) ((x, y) ∷ []) ∙ ap (λ t. before ++ t) (append-nil (after_comma pair_parts (x, y))) in
    pair ∙ ap (λ t. t ++ line_text (pair_parts (x, y))) (comma ∙ ap (λ t. t ++ 44 ∷ 32 ∷ []) written)
    ∙ append_assoc (old ++ line_text before) (44 ∷ 32 ∷ []) (line_text (pair_parts (x, y))) ∙ append_assoc old (line_text before) (line_text (after_comma pair_parts (x, y)))
    ∙ ap (λ t. old ++ t) (sym (flat_map-append part_text before (after_comma pair_parts (x, y))) ∙ ap line_text (sym more))

pub pairs_all : (old out : List ℕ) (xs ys : List (List ℕ)) (i : ℕ) → min (length xs) (length ys) ≤ i → out ≡ old ++ line_text (flat_map (after_comma pair_parts) (take i (zip xs ys))) → out ≡ old ++ line_text (flat_map (after_comma pair_parts) (zip xs ys))
pairs_all old out xs ys i ended written = written ∙ ap (λ ps. old ++ line_text (flat_map (after_comma pair_parts) ps)) (take_all i (zip xs ys) (omega (arith, length-zip xs ys)))
