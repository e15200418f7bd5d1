-- What holds side by side, of the tables of a schema and of their states.
use Rattle.std.proofs.Common.{◌≡◌, ℕ, ◌<◌, suc, zero, List, [], ◌∷◌, length, get_or, Some, arith, refl}
use Rattle.std.specs.List.{AllZip, slice_get, slice_set}

-- what holds side by side holds at a place
pub side_by_side : {X Y : Type 0} (R : X → Y → Type 0) (xs : List X) (ys : List Y) (n : ℕ) (y : Y) → AllZip R xs ys → n < length ys → (x : X) × (slice_get xs n ≡ Some x) × R x (get_or ys n y)
side_by_side R [] [] n d h lt = absurd (omega arith)
side_by_side R [] (y ∷ ys) n d h lt = absurd h
side_by_side R (x ∷ xs) [] n d h lt = absurd h
side_by_side R (x ∷ xs) (y ∷ ys) zero d h lt = (x, refl, h.0)
side_by_side R (x ∷ xs) (y ∷ ys) (suc n) d h lt = side_by_side R xs ys n d h.1 (omega arith)

-- what holds side by side still holds where one item is changed to another for which it does
pub side_by_side-set : {X Y : Type 0} (R : X → Y → Type 0) (xs : List X) (ys : List Y) (n : ℕ) (y z : Y) → AllZip R xs ys → ((x : X) → slice_get xs n ≡ Some x → R x (get_or ys n y) → R x z) → AllZip R xs (slice_set ys n z)
side_by_side-set R [] [] n d z h at = h
side_by_side-set R [] (y ∷ ys) n d z h at = absurd h
side_by_side-set R (x ∷ xs) [] n d z h at = absurd h
side_by_side-set R (x ∷ xs) (y ∷ ys) zero d z h at = (at x refl h.0, h.1)
side_by_side-set R (x ∷ xs) (y ∷ ys) (suc n) d z h at = (h.0, side_by_side-set R xs ys n d z h.1 at)
