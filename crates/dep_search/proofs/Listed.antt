-- Lists beside lists, one place further.
use Rattle.std.proofs.Common.{◌≡◌, ℕ, zero, suc, ◌+◌, ◌<◌, List, [], ◌∷◌, ◌++◌, length, take, get_or, subst, arith, add-one}
use Rattle.std.proofs.Common.{Result, Ok, Err}
use Rattle.std.specs.Prelude.{IfOk}
use Rattle.std.specs.List.{AllZip}

-- one more item beside what a list has next
zip_step : {A B : Type 0} (R : A → B → Type 0) (xs : List A) (ys : List B) (i : ℕ) (x d : A) (y : B) → i < length xs → x ≡ get_or xs i d
    → AllZip R (take i xs) ys → R x y → AllZip R (take (suc i) xs) (ys ++ y ∷ [])
zip_step R [] ys i x d y l e f here = absurd (omega arith)
zip_step R (a ∷ xs) [] zero x d y l e f here = (subst (λ z. R z y) e here, tt)
zip_step R (a ∷ xs) (b ∷ ys) zero x d y l e f here = absurd f
zip_step R (a ∷ xs) [] (suc i) x d y l e f here = absurd f
zip_step R (a ∷ xs) (b ∷ ys) (suc i) x d y l e f here = (f.0, zip_step R xs ys i x d y (omega arith) e f.1 here)

pub all_zip_step : {A B : Type 0} (R : A → B → Type 0) (xs : List A) (ys : List B) (i : ℕ) (x d : A) (y : B) → i < length xs → x ≡ get_or xs i d
    → AllZip R (take i xs) ys → R x y → AllZip R (take (i + 1) xs) (ys ++ y ∷ [])
all_zip_step R xs ys i x d y l e f here = rw add-one (zip_step R xs ys i x d y l e f here)

-- what follows from what a result holds
pub if_ok : {A E : Type 0} {P Q : A → Type 0} (r : Result A E) → ((v : A) → P v → Q v) → IfOk r P → IfOk r Q
if_ok (Ok v) weaker holds = weaker v holds
if_ok (Err e) weaker holds = holds
