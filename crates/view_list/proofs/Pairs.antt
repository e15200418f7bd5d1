-- Two lists that are written pair by pair.
use Rattle.std.proofs.Common.{◌≡◌, ℕ, ◌+◌, ◌<◌, ◌≤◌, List, [], ◌∷◌, ◌++◌, length, get_or, take, ap, sym, ◌∙◌, append_assoc, arith}
use Rattle.std.specs.Prelude.{min}
use Rattle.std.specs.List.{flat_map, zip}
use Rattle.std.proofs.lemmas.Grind.{flat_map-append}
use Rattle.std.proofs.lemmas.List.{append-nil, take_more, take_all}
use Rattle.std.proofs.lemmas.Slice.Zip.{get_or-zip, length-zip}
use Rattle.view_list.specs.Pieces.{further}

zip_more : {A B : Type 0} (xs : List A) (ys : List B) (i : ℕ) (x : A) (y : B) → i < length xs → i < length ys → x ≡ get_or xs i x → y ≡ get_or ys i y → take (i + 1) (zip xs ys) ≡ take i (zip xs ys) ++ (x, y) ∷ []
zip_more xs ys i x y left right is_left is_right =
    take_more (zip xs ys) i (x, y) (omega (arith, length-zip xs ys))
    ∙ ap (λ p. take i (zip xs ys) ++ p ∷ []) (get_or-zip xs ys i (x, y) left right ∙ ap (λ t. (t, get_or ys i y)) (sym is_left) ∙ ap (λ t. (x, t)) (sym is_right))

-- one pair more
pub pairs_step : {A B : Type 0} (f : A × B → List ℕ) (old out new : List ℕ) (xs : List A) (ys : List B) (i : ℕ) (x : A) (y : B) → i < length xs → i < length ys → x ≡ get_or xs i x → y ≡ get_or ys i y
    → out ≡ old ++ flat_map f (take i (zip xs ys)) → new ≡ out ++ f (x, y) → new ≡ old ++ flat_map f (take (i + 1) (zip xs ys))
pairs_step f old out new xs ys i x y left right is_left is_right written more =
    let before = flat_map f (take i (zip xs ys)) in
    let all : flat_map f (take (i + 1) (zip xs ys)) ≡ before ++ f (x, y) =
    ap (flat_map f) (zip_more xs ys i x y left right is_left is_right) ∙ flat_map-append f (take i (zip xs ys)) ((x, y) ∷ []) ∙ ap (λ t. before ++ t) (append-nil (f (x, y))) in
    more ∙ ap (λ t. t ++ f (x, y)) written ∙ append_assoc old before (f (x, y)) ∙ ap (λ t. old ++ t) (sym all)

-- all pairs
pub pairs_all : {A B : Type 0} (f : A × B → List ℕ) (old out : List ℕ) (xs : List A) (ys : List B) (i : ℕ) → min (length xs) (length ys) ≤ i → out ≡ old ++ flat_map f (take i (zip xs ys)) → out ≡ old ++ flat_map f (zip xs ys)
pairs_all f old out xs ys i ended written = written ∙ ap (λ ps. old ++ flat_map f ps) (take_all i (zip xs ys) (omega (arith, length-zip xs ys)))

-- two lists, one behind the other
pub further_both : {A : Type 0} (f : A → List ℕ) (ps qs : List A) → flat_map (further f) (ps ++ qs) ≡ flat_map (further f) ps ++ flat_map (further f) qs
further_both f ps qs = flat_map-append (further f) ps qs
