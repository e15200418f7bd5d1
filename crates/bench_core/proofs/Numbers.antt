-- Items with their numbers.
use Rattle.std.proofs.Common.{◌≡◌, ℕ, ◌+◌, List, [], ◌∷◌, ◌++◌, length, set, zero, suc, refl, arith}
use Rattle.std.specs.List.{enumerate_from}

-- a numbering with one more item
pub enumerate_from-push : {X : Type 0} (n : ℕ) (xs : List X) (x : X) → enumerate_from n (xs ++ x ∷ []) ≡ enumerate_from n xs ++ (n + length xs, x) ∷ []
enumerate_from-push n [] x = grind arith
enumerate_from-push n (y ∷ ys) x = let ih = enumerate_from-push (n + 1) ys x in grind (arith, ih)

-- a numbering of a list in which one item is another
pub enumerate_from-set : {X : Type 0} (n : ℕ) (xs : List X) (i : ℕ) (x : X) → enumerate_from n (set xs i x) ≡ set (enumerate_from n xs) i (n + i, x)
enumerate_from-set n [] i x = refl
enumerate_from-set n (y ∷ ys) zero x = grind arith
enumerate_from-set n (y ∷ ys) (suc i) x = let ih = enumerate_from-set (n + 1) ys i x in grind (arith, ih)
