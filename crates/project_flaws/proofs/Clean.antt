-- Whether all pairs of two lists are clean, once one of them has ended.
use Rattle.std.proofs.Common.{◌≡◌, Bool, true, false, ◌&&◌, List, [], ◌∷◌, length, refl, sym, ◌∙◌, arith}
use Rattle.std.specs.List.{list_all, zip}

and_true : (clean : Bool) → (clean && true) ≡ clean
and_true true = refl
and_true false = refl

pub none_left-first : {X Y : Type 0} (test : X × Y → Bool) (xs : List X) (ys : List Y) (clean whole : Bool) → length xs ≡ 0 → (clean && list_all test (zip xs ys)) ≡ whole → clean ≡ whole
none_left-first test [] ys clean whole none is = sym (and_true clean) ∙ is
none_left-first test (x ∷ xs) ys clean whole none is = absurd (omega arith)

pub none_left-second : {X Y : Type 0} (test : X × Y → Bool) (xs : List X) (ys : List Y) (clean whole : Bool) → length ys ≡ 0 → (clean && list_all test (zip xs ys)) ≡ whole → clean ≡ whole
none_left-second test [] ys clean whole none is = sym (and_true clean) ∙ is
none_left-second test (x ∷ xs) [] clean whole none is = sym (and_true clean) ∙ is
none_left-second test (x ∷ xs) (y ∷ ys) clean whole none is = absurd (omega arith)
