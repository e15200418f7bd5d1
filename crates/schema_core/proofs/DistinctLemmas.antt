-- Names that no item of a list has.
use Rattle.std.proofs.Common.{◌≡◌, ◌≢◌, ℕ, true, false, List, [], ◌∷◌, sym, ◌∙◌}
use Rattle.std.specs.Prelude.{map}
use Rattle.std.specs.List.{list_any, AllByRecursion}
use Rattle.std.specs.Str.{bytes_eq}
use Rattle.std.proofs.lemmas.Bool.{or_parts, false≢true}
use Rattle.std.proofs.lemmas.Slice.Eq.{bytes_eq-Decides}

pub bytes_eq-true : (xs ys : List ℕ) → bytes_eq xs ys ≡ true → xs ≡ ys
bytes_eq-true xs ys e = (bytes_eq-Decides xs ys).0 e

pub bytes_eq-false : (xs ys : List ℕ) → bytes_eq xs ys ≡ false → xs ≢ ys
bytes_eq-false xs ys e same = false≢true (sym e ∙ (bytes_eq-Decides xs ys).1 same)

pub none_equal : {X : Type 0} (f : X → List ℕ) (xs : List X) (name : List ℕ) → list_any (λ x. bytes_eq (f x) name) xs ≡ false → AllByRecursion (λ y. y ≢ name) (map f xs)
none_equal f [] name e = tt
none_equal f (x ∷ xs) name e =
    let parts = or_parts (bytes_eq (f x) name) (list_any (λ y. bytes_eq (f y) name) xs) e in
    (bytes_eq-false (f x) name parts.0, none_equal f xs name parts.1)
