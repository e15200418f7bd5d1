-- Two lists whose items meet a fact place by place.
use Rattle.std.proofs.Common.{◌≡◌, ℕ, ◌+◌, ◌<◌, List, [], ◌∷◌, ◌++◌, length, take, get_or, ap, sym, ◌∙◌, subst}
use Rattle.std.specs.List.{AllZip}
use Rattle.std.proofs.lemmas.List.{take_more}

pub zip_weaker : {A B : Type 0} (R S : A → B → Type 0) → ((x : A) (y : B) → R x y → S x y) → (xs : List A) (ys : List B) → AllZip R xs ys → AllZip S xs ys
zip_weaker R S weaker [] [] all = tt
zip_weaker R S weaker [] (y ∷ ys) all = absurd all
zip_weaker R S weaker (x ∷ xs) [] all = absurd all
zip_weaker R S weaker (x ∷ xs) (y ∷ ys) all = (weaker x y all.0, zip_weaker R S weaker xs ys all.1)

-- one pair more at the end
zip_end : {A B : Type 0} (R : A → B → Type 0) (xs : List A) (ys : List B) (x : A) (y : B) → AllZip R xs ys → R x y → AllZip R (xs ++ x ∷ []) (ys ++ y ∷ [])
zip_end R [] [] x y all last = (last, tt)
zip_end R [] (b ∷ ys) x y all last = absurd all
zip_end R (a ∷ xs) [] x y all last = absurd all
zip_end R (a ∷ xs) (b ∷ ys) x y all last = (all.0, zip_end R xs ys x y all.1 last)

-- the same where the pairs before now meet another fact
pub zip_more : {A B : Type 0} (R S : A → B → Type 0) → ((x : A) (y : B) → R x y → S x y) → (xs : List A) (ys : List B) (place : ℕ) (x : A) (y : B) → place < length xs → x ≡ get_or xs place x
    → AllZip R (take place xs) ys → S x y → AllZip S (take (place + 1) xs) (ys ++ y ∷ [])
zip_more R S weaker xs ys place x y within is all last =
    subst (λ front. AllZip S front (ys ++ y ∷ [])) (sym (take_more xs place x within ∙ ap (λ z. take place xs ++ z ∷ []) (sym is)))
    (zip_end S (take place xs) ys x y (zip_weaker R S weaker (take place xs) ys all) last)

-- two steps in a row
abbrev pub Joined : {A B C : Type 0} → (A → B → Type 0) → (B → C → Type 0) → A → C → Type 0
Joined {B = B} R S x z = (y : B) × R x y × S y z

pub zip_joined : {A B C : Type 0} (R : A → B → Type 0) (S : B → C → Type 0) (xs : List A) (ys : List B) (zs : List C) → AllZip R xs ys → AllZip S ys zs → AllZip (Joined R S) xs zs
zip_joined R S [] [] [] r s = tt
zip_joined R S [] [] (z ∷ zs) r s = absurd s
zip_joined R S [] (y ∷ ys) zs r s = absurd r
zip_joined R S (x ∷ xs) [] zs r s = absurd r
zip_joined R S (x ∷ xs) (y ∷ ys) [] r s = absurd s
zip_joined R S (x ∷ xs) (y ∷ ys) (z ∷ zs) r s = ((y, r.0, s.0), zip_joined R S xs ys zs r.1 s.1)
