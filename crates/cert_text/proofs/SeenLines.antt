-- What was seen, at a place.
use Rattle.std.proofs.Common.{◌≡◌, ℕ, ◌<◌, Bool, true, List, length, get_or, ◌∙◌, sym, subst, arith}
use Rattle.std.specs.Prelude.{map}
use Rattle.std.specs.List.{Contains}
use Rattle.std.specs.Str.{bytes_eq}
use Rattle.std.proofs.lemmas.List.{length-map, get_or-map}
use Rattle.std.proofs.lemmas.Slice.Eq.{bytes_eq-Decides}

-- the image of the item at a place
pub contains_image : {X Y : Type 0} (f : X → Y) (xs : List X) (ys : List Y) (at : ℕ) (d : X) (y : Y) → map f xs ≡ ys → at < length xs → f (get_or xs at d) ≡ y → Contains ys y
contains_image {Y = Y} f xs ys at d y are within is =
    subst (λ (zs : List Y). Contains zs y) are (at, omega (arith, length-map xs f), get_or-map f xs at d y within ∙ is)

pub same_text : (one other : List ℕ) (test : Bool) → test ≡ bytes_eq one other → test ≡ true → one ≡ other
same_text one other test is holds = (bytes_eq-Decides one other).0 (sym is ∙ holds)
