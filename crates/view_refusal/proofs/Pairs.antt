-- What is told of the pairs of two lists, once one of them has ended.
use Rattle.std.proofs.Common.{◌≡◌, List, [], ◌∷◌, ◌++◌, length, sym, ◌∙◌, arith}
use Rattle.std.specs.List.{flat_map, zip}
use Rattle.std.proofs.lemmas.List.{append-nil}

pub nothing_left-first : {X Y Z : Type 0} (f : X × Y → List Z) (xs : List X) (ys : List Y) (told whole : List Z) → length xs ≡ 0 → told ++ flat_map f (zip xs ys) ≡ whole → told ≡ whole
nothing_left-first f [] ys told whole none is = sym (append-nil told) ∙ is
nothing_left-first f (x ∷ xs) ys told whole none is = absurd (omega arith)

pub nothing_left-second : {X Y Z : Type 0} (f : X × Y → List Z) (xs : List X) (ys : List Y) (told whole : List Z) → length ys ≡ 0 → told ++ flat_map f (zip xs ys) ≡ whole → told ≡ whole
nothing_left-second f [] ys told whole none is = sym (append-nil told) ∙ is
nothing_left-second f (x ∷ xs) [] told whole none is = sym (append-nil told) ∙ is
nothing_left-second f (x ∷ xs) (y ∷ ys) told whole none is = absurd (omega arith)
